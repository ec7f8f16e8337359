-- The end of a pattern's entry: the entry is reported if an earlier one has its name.
use Rattle.std.proofs.Common.{◌≡◌, ℕ, Bool, true, false, List, [], ◌∷◌, ◌++◌, Option, Some, None, refl, ap, sym, ◌∙◌, subst, append-nil, if◌then◌else◌}
use Rattle.{rnix_kinds.specs.declared.kinds.SyntaxKind.TheVariants.{NODE_PATTERN, NODE_PAT_ENTRY}, rnix_grammar.specs.Fault.{Fault, duplicated_args}}
use Rattle.rnix_grammar.specs.{AnnotatedForest.{Token, AnnotatedForest, without_trivia, extent_of}, Reports.{entry_name, has_entry, repeated_if}}
use Rattle.rnix_proof_lemmas.specs.Machine.{Head}
use Rattle.rnix_proof_lemmas.specs.FrameKinds.{Pattern, Entry, frame_kind, may_hold, IsStackedOn}
use Rattle.rnix_proof_lemmas.specs.Machine.{Node, Frame, machine, closed, perform}
use Rattle.{rnix_proof_lemmas.proofs.Basics.true_is_not_false, rnix_reader.specs.{declared.pattern_names.{NameSet.NameSet, Names.Names}, PatternNames.{has_name, entries_in}}}
use Rattle.rnix_reader.specs.{PatternNames.{entry_at, EntryClosed, Entered}, State.{State, ended, failed}, Erase.{erase, popped}, Performed.{EntryReported, reported_if}}
use Rattle.rnix_reader.{specs.Holds.{IsBegun, AreNamed, named_by, name_of, entries_of, TopSet, AreOpenSets, AreOpenSetsOn}, proofs.{EraseLemmas.closes, FrameKindLemmas.is_operand_frame}}
use Rattle.{rnix_proof_steps.proofs.BudgetedSteps.is_root, rnix_reader.proofs.FrameKindLemmas.{head_sort, head_entry, head_pattern, holds_entry}}
use Rattle.rnix_grammar.specs.declared.action.Action.TheVariants as a

-- a pattern has the last of the sets of names
pub known_pattern : (h : Head) (trees : AnnotatedForest) (sets : List NameSet) (More : List NameSet → Type 0) → h ≡ Node NODE_PATTERN
    → AreOpenSetsOn h trees sets More → TopSet sets trees More
known_pattern h trees sets More e k = subst (λ x. AreOpenSetsOn x trees sets More) e k

-- a complete entry in its pattern: its name, the sets before and after it, and its error
pub record IsEntry (f g : Frame) (fs : List Frame) (names names' : Names) (again : Option Fault) : Type 0 where
  pub entry : f.head ≡ Node NODE_PAT_ENTRY
  pub pattern : g.head ≡ Node NODE_PATTERN
  pub name : Token
  pub named : entry_name (without_trivia f.children) ≡ Some name
  pub top_set : TopSet names.sets.items g.children (AreOpenSets fs)
  pub entered : Entered name.text top_set.below top_set.set names'
  pub entries : entries_in names' ≡ entries_of (g ∷ fs)
  pub fault_is : again ≡ (if has_name name.text top_set.set then Some (duplicated_args (extent_of (name ∷ [])) name.text) else None)

-- this holds at the position of an entry
pub entry_there : (f g : Frame) (fs : List Frame) (names names' : Names) (again : Option Fault) → IsStackedOn f.head f.position (g ∷ fs)
    → frame_kind f.position ≡ Entry
    → AreNamed f (g ∷ fs) names → EntryClosed again names names' → IsEntry f g fs names names' again
entry_there f g fs names names' again st e w c =
    let entry : f.head ≡ Node NODE_PAT_ENTRY = head_entry f.head (st.0 ∙ e) in
    let below : frame_kind g.position ≡ Pattern = holds_entry (frame_kind g.position) (ap (may_hold (frame_kind g.position)) (sym e) ∙ st.1) in
    let pattern : g.head ≡ Node NODE_PATTERN = head_pattern g.head (head_sort g.head g.position fs st.2 ∙ below) in
    let top_set : TopSet names.sets.items g.children (AreOpenSets fs) =
    known_pattern g.head g.children names.sets.items (AreOpenSets fs) pattern
    (subst (λ x. AreOpenSetsOn x f.children names.sets.items (AreOpenSets (g ∷ fs))) entry w.sets) in
    let begun : IsBegun (Node NODE_PAT_ENTRY) f.children = subst (λ x. IsBegun x f.children) entry w.begun.0 in
    let t : Token = begun.0 in
    let named : name_of f.head f.children ≡ Some t = ap (λ x. name_of x f.children) entry ∙ begun.1 in
    let all : entries_in names ≡ entries_of (g ∷ fs) ++ entry_at t ∷ [] = w.entries ∙ ap (λ x. entries_of (g ∷ fs) ++ named_by x) named in
    let done = c.entered (entries_of (g ∷ fs)) t.text (extent_of (t ∷ [])) top_set.below top_set.set all top_set.all in
    record { entry = entry; pattern = pattern; name = t; named = begun.1; top_set = top_set; entered = done.0; entries = done.1; fault_is = done.2 }

-- reporting an entry adds its error at most once
reported_once : (b : Bool) (e : Fault) (f g : Frame) (fs : List Frame) (ts : List Token) (n : ℕ) (es : List Fault)
    → reported_if (if b then Some e else None) (erase (closed f (g ∷ fs) ts n es)) ≡ erase (closed f (g ∷ fs) ts n (es ++ (if b then e ∷ [] else [])))
unfolding failed
reported_once true e f g fs ts n es = refl
reported_once false e f g fs ts n es = ap (λ x. erase (closed f (g ∷ fs) ts n x)) (sym (append-nil es))

-- the reader completes an entry as the machine does
pub done_entry : (f : Frame) (fs : List Frame) (ts : List Token) (n : ℕ) (es : List Fault) (names names' : Names) (s' : State)
    → IsStackedOn f.head f.position fs → AreNamed f fs names
    → frame_kind f.position ≡ Entry → EntryReported (popped (machine (f ∷ fs) ts n es)) names s' names' → s' ≡ erase (perform true a.CloseEntry f fs ts n es)
done_entry f [] ts n es names names' s' st w e d = absurd (true_is_not_false (sym (ap is_root st.1) ∙ ap is_root e))
done_entry f (g ∷ fs) ts n es names names' s' st w e d =
    let q = entry_there f g fs names names' d.again st e w d.closed in
    let fault : Fault = duplicated_args (extent_of (q.name ∷ [])) q.name.text in
    let old : AnnotatedForest = without_trivia g.children in
    d.state ∙ ap (λ x. reported_if x (ended (popped (machine (f ∷ (g ∷ fs)) ts n es))))
    (q.fault_is ∙ ap (λ x. if x then Some fault else None) (q.top_set.is q.name.text))
    ∙ ap (reported_if (if has_entry q.name.text old then Some fault else None)) (closes f (g ∷ fs) ts n es st (ap is_operand_frame e) (ap is_root e))
    ∙ reported_once (has_entry q.name.text old) fault f g fs ts n es
    ∙ ap (λ x. erase (closed f (g ∷ fs) ts n (es ++ repeated_if x old))) (sym q.named)
