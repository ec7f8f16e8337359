-- Errors that are all about repeated names: none follows from another.
use Rattle.std.proofs.Common.{◌≡◌, ◌∙◌, Bool, true, false, List, [], ◌∷◌, ◌++◌, length, Option, Some, None, sym, ap, refl}
use Rattle.std.proofs.lemmas.{List.{length_push, append_assoc}, Bool.and_parts}
use Rattle.std.proofs.lemmas.List.Folds.{list_all-append}
use Rattle.std.specs.{List.{list_all, range_with_len}, Prelude.{is_some, ◌&&◌, if◌then◌else◌}}
use Rattle.rnix_green.specs.Tree.{Located}
use Rattle.rnix_grammar.specs.Fault.{Fault, duplicated_args}
use Rattle.nix_diagnostics.specs.{TokenErrors.{is_token_error, is_repeated_name}, Following.{follows, firsts_from, last_from, last_token_error}, Mistakes.starts}

-- an error about a repeated name is not a token error
no_token_error : (fault : Fault) → is_repeated_name fault ≡ true → is_token_error fault ≡ false
no_token_error (duplicated_args range name) is = refl
no_token_error fault is = cc

-- so none of them is the last such error
no_last : (faults : List Fault) → list_all is_repeated_name faults ≡ true → last_from None faults ≡ None
no_last [] are = refl
no_last (f ∷ faults) are =
    let both = and_parts (is_repeated_name f) (list_all is_repeated_name faults) are in
    ap (λ b. last_from (if b then Some f else None) faults) (no_token_error f both.0) ∙ no_last faults both.1

nothing_and : (o : Option Fault) (b : Bool) → o ≡ None → (is_some o && b) ≡ false
nothing_and o b none = ap (λ (x : Option Fault). is_some x && b) none

-- no error follows from errors about repeated names
none_follows : (root : Located) (all before : List Fault) (fault : Fault) → list_all is_repeated_name before ≡ true → follows root all before fault ≡ false
none_follows root all before fault are = nothing_and (last_token_error before) _ (no_last before are)

-- so a run begins at each of them
pub each_is_first : (root : Located) (all before faults : List Fault) → list_all is_repeated_name (before ++ faults) ≡ true →
    firsts_from root all before faults ≡ range_with_len (length before) (length faults)
each_is_first root all before [] are = refl
each_is_first root all before (f ∷ faults) are =
    let both = and_parts (list_all is_repeated_name before) (list_all is_repeated_name (f ∷ faults))
    (sym (list_all-append is_repeated_name before (f ∷ faults)) ∙ are) in
    let moved : (before ++ f ∷ []) ++ faults ≡ before ++ f ∷ faults = append_assoc before (f ∷ []) faults in
    ap (λ b. if b then firsts_from root all (before ++ f ∷ []) faults else length before ∷ firsts_from root all (before ++ f ∷ []) faults)
    (none_follows root all before f both.0)
    ∙ ap (λ ns. length before ∷ ns) (each_is_first root all (before ++ f ∷ []) faults (ap (list_all is_repeated_name) moved ∙ are)
    ∙ ap (λ n. range_with_len n (length faults)) (length_push before f))

-- so runs begin at the same errors, whether each error is one or not
pub same_starts : (is_each : Bool) (root : Located) (faults : List Fault) → list_all is_repeated_name faults ≡ true →
    range_with_len 0 (length faults) ≡ starts is_each root faults
same_starts true root faults are = refl
same_starts false root faults are = sym (each_is_first root faults [] faults are)
