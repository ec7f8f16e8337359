-- What the tests say about a text with one change.
use Rattle.std.proofs.Common.{◌≡◌, ℕ, false, List, [], ◌∷◌, ◌++◌, length, sym, ap, ◌∙◌, subst, arith, string_bytes}
use Rattle.std.proofs.lemmas.{List.length-append, Bool.false≢true}
use Rattle.rnix_kinds.specs.Lexical.Tokens.{tokens_of}
use Rattle.rnix_green.specs.Tree.{Located}
use Rattle.rnix_grammar.specs.Parsed.{IsParsed}
use Rattle.rnix.specs.ParseResult.{Reading, root_of}
use Rattle.rnix_text.specs.Changes.{Draft, IsInside, IsBetween, IsCause}
use Rattle.rnix_text.specs.declared.edit_error.EditError.{EditError}
use Rattle.rnix_text.specs.declared.edit_error.EditError.TheVariants as cause
use Rattle.rnix_edit.specs.declared.edited.Refusal.{Refusal}
use Rattle.rnix_edit.specs.declared.edited.Refusal.TheVariants as refusal
use Rattle.rnix_edit.specs.declared.edited.Edited.{Edited}
use Rattle.rnix_edit.specs.declared.edited.Edited.TheVariants as outcome
use Rattle.rnix_edit.specs.Edited.{spliced, IsMade, IsNotMade, Both, IfDone, IfRefused}
use Rattle.rnix_edit.specs.ParsedEdit.{is_memory, IsReadAs, IsNotParsed}

module _ (text : List ℕ) (start end : ℕ) (new : List ℕ) (so : Located → Type 0) where
  -- if the new text cannot be read without errors, the edit is refused
  pub not_made : (unlike : Located → Type 0) (reason : Refusal) → IsNotParsed reason text start end new → IsNotMade reason text start end new so unlike
  not_made unlike refusal.NotInText unread = unread
  not_made unlike refusal.HasErrors unread = unread
  not_made unlike refusal.ReadOtherwise unread = absurd unread
  not_made unlike refusal.NodeReadOtherwise unread = absurd unread

  -- if its tree is as required, the edit is made
  pub made_so : (made : List ℕ) (read : Reading) → made ≡ spliced text start end new → IsReadAs (spliced text start end new) read →
      so (root_of read) → IsMade text start end new so made
  made_so made read is h holds = record {
    made_is = is;
    read = record {
      tree = read.tree;
      is_read = subst (λ t. IsParsed (tokens_of t) read.tree []) (sym is)
          (subst (λ faults. IsParsed (tokens_of (spliced text start end new)) read.tree faults) h.none h.is_read);
      is_so = holds;
    };
  }

  -- if its tree is not as required, the edit is refused
  pub otherwise : (unlike : Located → Type 0) (read : Reading) → IsReadAs (spliced text start end new) read → ¬ so (root_of read) →
      IsNotMade refusal.ReadOtherwise text start end new so unlike
  otherwise unlike read h fails = record {
    tree = read.tree;
    is_read = subst (λ faults. IsParsed (tokens_of (spliced text start end new)) read.tree faults) h.none h.is_read;
    is_not = fails;
  }

-- if the edit is kept, the text has the new node
pub kept_done : (text : List ℕ) (start end : ℕ) (new : List ℕ) (so : Located → Type 0) (edited : Edited) (read : Reading)
    → IsReadAs (spliced text start end new) read → so (root_of read) → (alike : Located → Type 0) (made : List ℕ) (Tested : Type 0) (P : List ℕ → Type 0)
    → made ≡ spliced text start end new → (Tested → alike (root_of read)) → ((kept : List ℕ) → IsMade text start end new (Both so alike) kept → P kept)
    → IfDone (λ kept. (kept ≡ made) × Tested) edited → IfDone P edited
kept_done text start end new so (outcome.Done kept) read h holds alike made Tested P is tells to done =
    to (string_bytes kept) (made_so text start end new (Both so alike) (string_bytes kept) read (done.0 ∙ is) h (holds, tells done.1))
kept_done text start end new so (outcome.Refused reason) read h holds alike made Tested P is tells to done = tt

-- if it is not kept, the text has another node there
pub kept_refused : (text : List ℕ) (start end : ℕ) (new : List ℕ) (so : Located → Type 0) (edited : Edited) (read : Reading)
    → IsReadAs (spliced text start end new) read → so (root_of read) → (unlike : Located → Type 0) (Tested : Type 0) (P : Refusal → Type 0)
    → (Tested → unlike (root_of read)) → ((reason : Refusal) → IsNotMade reason text start end new so unlike → P reason)
    → IfRefused (λ reason. (reason ≡ refusal.NodeReadOtherwise) × Tested) edited → IfRefused P edited
kept_refused text start end new so (outcome.Done kept) read h holds unlike Tested P tells to refused = tt
kept_refused text start end new so (outcome.Refused reason) read h holds unlike Tested P tells to refused =
    to reason (subst (λ r. IsNotMade r text start end new so unlike) (sym refused.0) record {
      tree = read.tree;
      is_read = subst (λ faults. IsParsed (tokens_of (spliced text start end new)) read.tree faults) h.none h.is_read;
      is_so = (holds, tells refused.1);
    })

-- a list that contains an element is not empty
met_none : {X : Type 0} (front : List X) (x : X) (back : List X) → front ++ x ∷ back ≡ [] → ⊥
met_none front x back none = absurd (omega (arith, ap length none, length-append front (x ∷ back)))

-- a single change is refused, other than for memory, only if its range does not begin and end at characters of the text
pub not_in_text : (text : List ℕ) (start end : ℕ) (draft : Draft) (error : EditError) → draft ≡ record { text = text; changes = [] } →
    is_memory error ≡ false → IsCause error draft start end → ¬ (IsInside text start end × IsBetween text start end)
not_in_text text start end draft cause.OutOfText is other why = λ both. subst (λ (d : Draft). ¬ IsInside d.text start end) is why both.0
not_in_text text start end draft cause.InsideCharacter is other why = λ both. subst (λ (d : Draft). ¬ IsBetween d.text start end) is why both.1
not_in_text text start end draft cause.Overlap is other why = λ both. met_none why.front why.change why.back (sym why.is ∙ ap (λ (d : Draft). d.changes) is)
not_in_text text start end draft cause.Memory is other why = absurd (false≢true (sym other))
