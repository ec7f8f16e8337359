-- What is known about a note after its replacement was tried.
use Rattle.std.proofs.Common.{◌≡◌, ◌∙◌, ℕ, ◌<◌, ◌+◌, List, [], ◌∷◌, ◌++◌, length, take, drop, get_or, Option, Some, None, Result, Ok, Err, IfOk, IfSome, IfNone, unwrap_or, ap, sym, subst}
use Rattle.std.proofs.lemmas.List.{take-append-drop, drop_more}
use Rattle.nix_diagnostics.specs.declared.{notes.Note.{Note}, replacement.Replacement.{Replacement}}
use Rattle.nix_fixes.specs.declared.{fix.Fix.{Fix}, tried.Tried.{Tried}}
use Rattle.nix_fixes.specs.Fixes.{IsProposed, DoesNotHelp, HasNoFix, HaveNoFix, IsOfNote, IsFirstFix}

-- a fix that comes from the replacement of a note is the one that the note proposes
pub of_note : {E : Type 0} (text : List ℕ) (note : Note) (r : Replacement) (result : Result (Option Tried) E) → note.replacement ≡ Some r →
    IfOk result (λ found. IfSome found (λ tried. IsProposed text r tried.fix)) → IfOk result (λ found. IfSome found (λ tried. IsOfNote text note tried.fix))
of_note text note r (Ok (Some tried)) is h = record { replacement = r; has = is; proposed = h }
of_note text note r (Ok None) is h = tt
of_note text note r (Err e) is h = tt

-- if the replacement of a note does not help, the note has no fix
pub none_of_note : {E : Type 0} (text : List ℕ) (errors : ℕ) (note : Note) (r : Replacement) (result : Result (Option Tried) E) →
    note.replacement ≡ Some r → IfOk result (λ found. IfNone found (DoesNotHelp text errors r)) →
    IfOk result (λ found. IfNone found (HasNoFix text errors note))
none_of_note text errors note r (Ok (Some tried)) is h = tt
none_of_note text errors note r (Ok None) is h = λ other has. subst (DoesNotHelp text errors) (ap (λ (o : Option Replacement). unwrap_or o r) (sym is ∙ has)) h
none_of_note text errors note r (Err e) is h = tt

-- the first note that has a fix is found after those that have none
pub first_found : (text : List ℕ) (errors : ℕ) (notes : List Note) (i : ℕ) (note : Note) (fix : Fix) → i < length notes → note ≡ get_or notes i note →
    HaveNoFix text errors (take i notes) → IsOfNote text note fix → IsFirstFix text errors notes fix
first_found text errors notes i note fix inside is none found = record {
  before = take i notes;
  note = note;
  after = drop (i + 1) notes;
  are =
      sym (take-append-drop i notes) ∙ ap (λ rest. take i notes ++ rest) (drop_more notes i note inside)
      ∙ ap (λ n. take i notes ++ n ∷ drop (i + 1) notes) (sym is);
  none = none;
  proposed = found;
}
