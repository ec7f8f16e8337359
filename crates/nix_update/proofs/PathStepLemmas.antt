-- The expressions along a path, found one after another.
use Rattle.std.proofs.Common.{◌≡◌, ℕ, zero, suc, ◌+◌, ◌<◌, List, [], ◌∷◌, ◌++◌, length, get_or, false, Some, None, inl, inr, refl, ap, sym, subst, ◌∙◌, arith}
use Rattle.std.proofs.lemmas.List.{get_or_append_left, get_or_default}
use Rattle.std.proofs.lemmas.List.Elements.{All-append, All-get_or, Contains-append_left, Contains-append_right}
use Rattle.std.proofs.lemmas.Option.{slice_get-get_or, slice_get_within, get_or_from_slice_get, none-some, same_Some}
use Rattle.std.proofs.lemmas.Bool.{cases_lt}
use Rattle.std.specs.{Prelude.slice_get, List.{All, Contains}}
use Rattle.rnix_green.specs.Tree.{Located}
use Rattle.nix_update.specs.declared.steps.PathStep.{PathStep}
use Rattle.nix_update.specs.PathSteps.{step, next_steps, IsPathStep, ArePathSteps}

-- these are expressions along the path; the root is one, and those that follow the first n are among them
pub record AreStepsUpTo (names : List (List ℕ)) (root : Located) (steps : List PathStep) (n : ℕ) : Type 0 where
  pub sound : All (IsPathStep names root) steps
  pub first : Contains steps (step root 0 false)
  pub closed : (k : ℕ) → (w next : PathStep) → k < n → slice_get steps k ≡ Some w → Contains (next_steps names w) next → Contains steps next

-- the root alone
pub root_step : (names : List (List ℕ)) (root : Located) (steps : List PathStep) → steps ≡ step root 0 false ∷ [] → AreStepsUpTo names root steps 0
root_step names root steps is = subst (λ steps. AreStepsUpTo names root steps 0) (sym is) record {
  sound = λ k d l. first_is k d l;
  first = (0, omega arith, refl);
  closed = λ k w next l at has. absurd (omega (arith, l));
}
  where
    first_is : (k : ℕ) (d : PathStep) → k < length (step root 0 false ∷ []) → IsPathStep names root (get_or (step root 0 false ∷ []) k d)
    first_is zero d l = IsPathStep.begins
    first_is (suc k) d l = absurd (omega (arith, l))

-- every expression that follows one along the path is along the path
all_follow : (names : List (List ℕ)) (root : Located) (w : PathStep) → IsPathStep names root w → All (IsPathStep names root) (next_steps names w)
all_follow names root w on = λ k d l.
    IsPathStep.follows w (get_or (next_steps names w) k d) on (k, l, get_or_default (next_steps names w) k (get_or (next_steps names w) k d) d l)

-- adding elements does not change the element at an index
still_there : {X : Type 0} (xs ys : List X) (k : ℕ) (x : X) → k < length xs → slice_get (xs ++ ys) k ≡ Some x → slice_get xs k ≡ Some x
still_there xs ys k x l at =
    slice_get-get_or xs k x l ∙ ap Some (sym (get_or_append_left xs ys x k l) ∙ get_or_from_slice_get (xs ++ ys) k x x at)

-- the expressions that follow one more of them are added
pub one_step_more : (names : List (List ℕ)) (root : Located) (steps more : List PathStep) (n : ℕ) (w : PathStep) → AreStepsUpTo names root steps n →
    slice_get steps n ≡ Some w → more ≡ steps ++ next_steps names w → AreStepsUpTo names root more (n + 1)
one_step_more names root steps more n w h at is = subst (λ steps. AreStepsUpTo names root steps (n + 1)) (sym is) record {
  sound = All-append (IsPathStep names root) steps (next_steps names w) h.sound (all_follow names root w here);
  first = Contains-append_left steps (next_steps names w) (step root 0 false) h.first;
  closed = kept;
}
  where
    there : n < length steps
    there = slice_get_within steps n w at

    here : IsPathStep names root w
    here = subst (IsPathStep names root) (get_or_from_slice_get steps n w w at) (All-get_or (IsPathStep names root) steps n w there h.sound)

    kept : (k : ℕ) → (v next : PathStep) → k < n + 1 → slice_get (steps ++ next_steps names w) k ≡ Some v → Contains (next_steps names v) next →
        Contains (steps ++ next_steps names w) next
    kept k v next l at_k has = elim (cases_lt k n) [
      | inl before ↦
          Contains-append_left steps (next_steps names w) next
          (h.closed k v next before (still_there steps (next_steps names w) k v (omega (arith, before, there)) at_k) has)
      | inr after ↦
          let same : k ≡ n = omega (arith, l, after) in
          let v_is : slice_get steps n ≡ Some v =
          ap (slice_get steps) (sym same) ∙ still_there steps (next_steps names w) k v (omega (arith, same, there)) at_k in
          Contains-append_right steps (next_steps names w) next
          (subst (λ v. Contains (next_steps names v) next) (same_Some v w (sym v_is ∙ at)) has)
    ]

-- once no expression remains, all have been found
pub all_steps : (names : List (List ℕ)) (root : Located) (steps : List PathStep) (n : ℕ) → AreStepsUpTo names root steps n → slice_get steps n ≡ None →
    ArePathSteps names root steps
all_steps names root steps n h none = record { sound = h.sound; complete = complete }
  where
    within : (k : ℕ) → k < length steps → k < n
    within k l = elim (cases_lt k n) [
      | inl before ↦ before
      | inr after ↦ absurd (none-some _ (sym none ∙ slice_get-get_or steps n (step root 0 false) (omega (arith, l, after))))
    ]

    complete : (w : PathStep) → IsPathStep names root w → Contains steps w
    complete _ IsPathStep.begins = h.first
    complete _ (IsPathStep.follows w next on has) =
        let found = complete w on in
        h.closed found.0 w next (within found.0 found.1) (slice_get-get_or steps found.0 w found.1 ∙ ap Some found.2) has
