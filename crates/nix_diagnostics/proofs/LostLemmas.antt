-- One more error: whether the parser has lost its way, and whether brackets were skipped.
use Rattle.std.proofs.Common.{◌≡◌, ◌∙◌, Bool, true, false, List, [], ◌∷◌, ◌++◌, ap, sym, refl}
use Rattle.std.specs.Prelude.{not, ◌&&◌, ◌||◌}
use Rattle.std.proofs.lemmas.List.{append_assoc, append-nil}
use Rattle.std.proofs.lemmas.List.Folds.{list_any-append}
use Rattle.rnix_green.specs.Tree.{Located}
use Rattle.rnix_grammar.specs.Fault.{Fault}
use Rattle.nix_diagnostics.specs.TokenErrors.{is_token_error}
use Rattle.nix_diagnostics.specs.Independence.{is_independent}
use Rattle.nix_diagnostics.specs.Following.{loses, loses_at, skips, resynchronizes, none_resynchronizes, is_lost_in, is_lost, has_skipped}

-- `false` adds nothing to an `or`
pub or_false : (b : Bool) → (b || false) ≡ b
or_false true = refl
or_false false = refl

-- `true` adds nothing to an `and`
pub and_true : (b : Bool) → (b && true) ≡ b
and_true true = refl
and_true false = refl

-- `and` is associative
and_and : (a b c : Bool) → (a && (b && c)) ≡ ((a && b) && c)
and_and true b c = refl
and_and false b c = refl

-- a test that two alternatives share can be made once
shared_last : (l n r s x : Bool) → ((l && (n && s)) || ((r && s) || x)) ≡ ((((l && n) || r) && s) || x)
shared_last false n r s x = refl
shared_last true false r s x = refl
shared_last true true r true x = refl
shared_last true true true false x = refl
shared_last true true false false x = refl

-- the parser resynchronizes at none of some errors and one more
none_resynchronizes_push : (root : Located) (before faults : List Fault) (fault : Fault) →
    none_resynchronizes root before (faults ++ fault ∷ []) ≡ (none_resynchronizes root before faults && not (resynchronizes root (before ++ faults) fault))
none_resynchronizes_push root before [] fault =
    and_true (not (resynchronizes root before fault)) ∙ ap (λ b. not (resynchronizes root b fault)) (sym (append-nil before))
none_resynchronizes_push root before (f ∷ faults) fault =
    ap (λ b. not (resynchronizes root before f) && b) (none_resynchronizes_push root (before ++ f ∷ []) faults fault)
    ∙ and_and (not (resynchronizes root before f)) (none_resynchronizes root (before ++ f ∷ []) faults)
    (not (resynchronizes root ((before ++ f ∷ []) ++ faults) fault))
    ∙ ap (λ b. (not (resynchronizes root before f) && none_resynchronizes root (before ++ f ∷ []) faults) && not (resynchronizes root b fault))
    (append_assoc before (f ∷ []) faults)

-- the parser loses its way at one of some errors and one more
lost_in_push : (root : Located) (all before faults : List Fault) (fault : Fault) →
    is_lost_in root all before (faults ++ fault ∷ [])
    ≡ ((is_lost_in root all before faults && not (resynchronizes root (before ++ faults) fault)) || loses root all fault)
lost_in_push root all before [] fault = or_false (loses root all fault && true) ∙ and_true (loses root all fault)
lost_in_push root all before (f ∷ faults) fault =
    let more = before ++ f ∷ [] in
    let still = not (resynchronizes root (more ++ faults) fault) in
    let back = none_resynchronizes_push root more faults fault in
    let rest = lost_in_push root all more faults fault in
    (λ k. (loses root all f && back k) || rest k)
    ∙ shared_last (loses root all f) (none_resynchronizes root more faults) (is_lost_in root all more faults) still (loses root all fault)
    ∙ ap (λ b. (is_lost_in root all before (f ∷ faults) && not (resynchronizes root b fault)) || loses root all fault) (append_assoc before (f ∷ []) faults)

-- whether the parser has lost its way after one more error
pub lost_push : (root : Located) (all before : List Fault) (fault : Fault) →
    is_lost root all (before ++ fault ∷ []) ≡ ((is_lost root all before && not (resynchronizes root before fault)) || loses root all fault)
lost_push root all before fault = lost_in_push root all [] before fault

-- an error that is not a token error does not change whether the parser has lost its way
pub lost_other : (root : Located) (all before : List Fault) (fault : Fault) → is_token_error fault ≡ false →
    is_lost root all (before ++ fault ∷ []) ≡ is_lost root all before
lost_other root all before fault other =
    lost_push root all before fault
    ∙ (λ k. (is_lost root all before && not (other k && is_independent root before fault)) || (other k && loses_at root all fault))
    ∙ or_false (is_lost root all before && true)
    ∙ and_true (is_lost root all before)

-- whether brackets were skipped at some errors and one more
pub skipped_push : (root : Located) (before : List Fault) (fault : Fault) →
    has_skipped root (before ++ fault ∷ []) ≡ (has_skipped root before || (is_token_error fault && skips root fault))
skipped_push root before fault =
    list_any-append (λ f. is_token_error f && skips root f) before (fault ∷ [])
    ∙ ap (λ b. has_skipped root before || b) (or_false (is_token_error fault && skips root fault))

-- an error that is not a token error does not change whether brackets were skipped
pub skipped_other : (root : Located) (before : List Fault) (fault : Fault) → is_token_error fault ≡ false →
    has_skipped root (before ++ fault ∷ []) ≡ has_skipped root before
skipped_other root before fault other =
    skipped_push root before fault ∙ (λ k. has_skipped root before || (other k && skips root fault)) ∙ or_false (has_skipped root before)
