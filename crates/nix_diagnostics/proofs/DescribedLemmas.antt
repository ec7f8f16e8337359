-- The diagnostic with a number, from what a `Diagnosis` says about the errors of a text.
use Rattle.std.proofs.Common.{◌≡◌, ◌∙◌, ℕ, zero, suc, ◌+◌, ◌<◌, ◌≤◌, min, take, drop, get_or, false, List, [], ◌∷◌, length, map, unwrap_or, Option, Some, None, sym, ap, subst, arith, refl}
use Rattle.std.specs.{Prelude.{option_map, slice_get}}
use Rattle.std.proofs.lemmas.{Option.{slice_get-map, slice_get_within, get_or_from_slice_get, slice_get-get_or}, List.length-map, List.Folds.list_all_at}
use Rattle.rnix_green.specs.Tree.{Located}
use Rattle.rnix_grammar.specs.declared.error.ParseError.{ParseError}
use Rattle.rnix_grammar.specs.Fault.{Fault, fault_of, unexpected_eof}
use Rattle.nix_diagnostics.specs.declared.{diagnosis.Diagnosis.Diagnosis, diagnostic.Diagnostic.Diagnostic}
use Rattle.nix_diagnostics.specs.Following.{next_or}
use Rattle.nix_diagnostics.specs.Locations.{end_of_items}
use Rattle.nix_diagnostics.specs.TokenErrors.{is_repeated_name}
use Rattle.nix_diagnostics.specs.Mistakes.{mistake_of, mistake_at, mistakes_at, fault_at, HasMessage, AreWorded}
use Rattle.nix_diagnostics.specs.Described.{Describes, IsDiagnosed}
use Rattle.nix_diagnostics.proofs.MistakeLemmas.{mistake_with, all_of_them, first_of_them}

-- there is no diagnostic with a number if no run begins there
pub none_there : (root : Located) (faults : List Fault) (starts : List ℕ) (number : ℕ) (d : Diagnosis) → Describes root faults starts d →
    slice_get d.starts.items number ≡ None → IsDiagnosed root faults starts number None
none_there root faults starts number d are none = record {
  mistake =
      sym (mistake_with root faults starts number
      ∙ ap (option_map (λ first. mistake_at root (fault_at faults first) first (next_or (length faults) (drop (number + 1) starts))))
      (ap (λ ns. slice_get ns number) (sym are.starts_are) ∙ none));
  has_message = tt;
}

-- each run begins at an error
pub is_error : (root : Located) (faults : List Fault) (starts : List ℕ) (number first : ℕ) (d : Diagnosis) → Describes root faults starts d →
    slice_get d.starts.items number ≡ Some first → first < length faults
is_error root faults starts number first d are is =
    let own : slice_get starts number ≡ Some first = ap (λ ns. slice_get ns number) (sym are.starts_are) ∙ is in
    subst (λ n. n < length faults) (get_or_from_slice_get starts number first 0 own) (are.within number 0 (slice_get_within starts number first own))

-- the error with a number
fault_there : (errors : List ParseError) (faults : List Fault) (first : ℕ) (e : ParseError) → map fault_of errors ≡ faults →
    slice_get errors first ≡ Some e → fault_at faults first ≡ fault_of e
fault_there errors faults first e are is =
    ap (λ fs. fault_at fs first) (sym are)
    ∙ get_or_from_slice_get (map fault_of errors) first (fault_of e) unexpected_eof (slice_get-map fault_of errors first ∙ ap (option_map fault_of) is)

-- the end of the text is known where an error is not about a repeated name
pub end_known : (root : Located) (faults : List Fault) (starts : List ℕ) (errors : List ParseError) (first : ℕ) (e : ParseError) (d : Diagnosis) →
    Describes root faults starts d → map fault_of errors ≡ faults → slice_get errors first ≡ Some e → is_repeated_name (fault_of e) ≡ false →
    d.end ≡ end_of_items root
end_known root faults starts errors first e d are same is other =
    let there : slice_get faults first ≡ Some (fault_of e) =
    ap (λ fs. slice_get fs first) (sym same) ∙ slice_get-map fault_of errors first ∙ ap (option_map fault_of) is in
    are.end (list_all_at is_repeated_name faults first unexpected_eof (slice_get_within faults first (fault_of e) there)
    (ap is_repeated_name (fault_there errors faults first e same is) ∙ other))

-- the diagnostic with a number
pub one_there : (root : Located) (faults : List Fault) (starts : List ℕ) (number first end : ℕ) (errors : List ParseError) (e : ParseError)
    (d : Diagnosis) (found : Diagnostic) → Describes root faults starts d → map fault_of errors ≡ faults → slice_get d.starts.items number ≡ Some first →
    slice_get errors first ≡ Some e → end ≡ next_or (length faults) (drop (number + 1) d.starts.items) →
    mistake_of found ≡ mistake_at root (fault_of e) first end → HasMessage found → IsDiagnosed root faults starts number (Some found)
one_there root faults starts number first end errors e d found are same is there until mistake message = record {
  mistake =
      ap Some (mistake ∙ ap (λ f. mistake_at root f first end) (sym (fault_there errors faults first e same there))
      ∙ ap (mistake_at root (fault_at faults first) first) (until ∙ ap (λ ns. next_or (length faults) (drop (number + 1) ns)) are.starts_are))
      ∙ sym (mistake_with root faults starts number
      ∙ ap (option_map (λ n. mistake_at root (fault_at faults n) n (next_or (length faults) (drop (number + 1) starts))))
      (ap (λ ns. slice_get ns number) (sym are.starts_are) ∙ is));
  has_message = message;
}

-- the number at an index, or another if there is none
next_at : (xs : List ℕ) (i end : ℕ) → unwrap_or (slice_get xs i) end ≡ next_or end (drop i xs)
next_at [] zero end = refl
next_at [] (suc i) end = refl
next_at (x ∷ xs) zero end = refl
next_at (x ∷ xs) (suc i) end = next_at xs i end

-- where a run ends
pub end_there : (numbers starts : List ℕ) (errors : List ParseError) (faults : List Fault) (i end count : ℕ) (found : Option ℕ) → numbers ≡ starts →
    map fault_of errors ≡ faults → found ≡ slice_get numbers i → count ≡ length errors → end ≡ unwrap_or found count → end ≡ next_or (length faults) (drop i starts)
end_there numbers starts errors faults i end count found same are is counts result =
    let number : count ≡ length faults = counts ∙ sym (length-map errors fault_of) ∙ ap length are in
    result ∙ (λ k. unwrap_or (is k) (number k)) ∙ next_at numbers i (length faults) ∙ ap (λ ns. next_or (length faults) (drop i ns)) same

-- there is an error with each number below their count
pub error_there : (errors : List ParseError) (faults : List Fault) (first : ℕ) → map fault_of errors ≡ faults → first < length faults →
    slice_get errors first ≡ None → ⊥
error_there errors faults first are within none =
    let there : slice_get faults first ≡ None = ap (λ fs. slice_get fs first) (sym are) ∙ slice_get-map fault_of errors first ∙ ap (option_map fault_of) none in
    let some : None ≡ Some (get_or faults first unexpected_eof) = sym there ∙ slice_get-get_or faults first unexpected_eof within in
    absurd (cc)

-- what is said of the first mistakes of a text, if it is said of all texts that a `Diagnosis` describes
abbrev SaysOfFirst : Diagnosis → ℕ → List Diagnostic → Type 0
SaysOfFirst d count found =
    (root : Located) (faults : List Fault) (starts : List ℕ) → Describes root faults starts d → count ≤ length starts →
    AreWorded (take count (mistakes_at root faults starts)) found

pub all_worded : (root : Located) (faults : List Fault) (starts : List ℕ) (d : Diagnosis) (count : ℕ) (found : List Diagnostic) →
    Describes root faults starts d → count ≡ length d.starts.items → SaysOfFirst d count found → AreWorded (mistakes_at root faults starts) found
all_worded root faults starts d count found are is say =
    let same : count ≡ length starts = is ∙ ap length are.starts_are in
    subst (λ all. AreWorded all found) (all_of_them root faults starts count same) (say root faults starts are (omega (arith, same)))

pub first_worded : (root : Located) (faults : List Fault) (starts : List ℕ) (d : Diagnosis) (count most : ℕ) (found : List Diagnostic) →
    Describes root faults starts d → count ≡ min (length d.starts.items) most → SaysOfFirst d count found →
    AreWorded (take most (mistakes_at root faults starts)) found
first_worded root faults starts d count most found are is say =
    let same : count ≡ min (length starts) most = is ∙ ap (λ ns. min (length ns) most) are.starts_are in
    subst (λ all. AreWorded all found) (first_of_them root faults starts count most same) (say root faults starts are (omega (arith, same)))
