-- The values in a group, and the order of all values.
use Rattle.std.proofs.Common.{◌≡◌, ◌∙◌, ℕ, zero, suc, ◌+◌, ◌<◌, ◌≤◌, false, cond, eqb, List, [], ◌∷◌, ◌++◌, length, get_or, drop, drop-cons, flat_map, slice_get, Option, Some, None, ⊎_elim, sym, refl, ap, ap₂, subst, eq-eqb, eqb-true, arith}
use Rattle.std.specs.List.{AllByRecursion}
use Rattle.std.proofs.lemmas.Bool.{cases_Bool, cases_lt, cond-true, cond-false}
use Rattle.std.proofs.lemmas.List.{drop_all}
use Rattle.nix_values.specs.Groups.{members_from, numbers_in, order_of, first_from}

-- ---- lists

pub flat_map_same : {X A : Type 0} (f h : X → List A) (xs : List X) → AllByRecursion (λ x. f x ≡ h x) xs → flat_map f xs ≡ flat_map h xs
flat_map_same f h [] same = refl
flat_map_same f h (x ∷ xs) same = ap₂ (λ a b. a ++ b) same.0 (flat_map_same f h xs same.1)

flat_map_none : {X A : Type 0} (f : X → List A) (xs : List X) → AllByRecursion (λ x. ⊥) xs → flat_map f xs ≡ []
flat_map_none f [] none = refl
flat_map_none f (x ∷ xs) none = absurd none.0

none_first : (xs : List ℕ) → slice_get xs 0 ≡ None → xs ≡ []
none_first [] e = refl
none_first (x ∷ xs) e = absurd (cc)

-- ---- a group

abbrev pub members_at : ℕ → List ℕ → ℕ → List ℕ
members_at k groups group = members_from k (drop k groups) group

pub member_step : (groups : List ℕ) (k group : ℕ) → k < length groups →
    members_at k groups group ≡ cond (eqb (get_or groups k 0) group) (k ∷ members_at (suc k) groups group) (members_at (suc k) groups group)
member_step groups k group less = ap (λ rest. members_from k rest group) (drop-cons groups k 0 less)

pub member_here : (groups : List ℕ) (k group : ℕ) → k < length groups → get_or groups k 0 ≡ group →
    members_at k groups group ≡ k ∷ members_at (suc k) groups group
member_here groups k group less is =
    member_step groups k group less ∙ cond-true (eqb (get_or groups k 0) group) _ _ (eq-eqb (get_or groups k 0) group is)

pub member_other : (groups : List ℕ) (k group : ℕ) → k < length groups → eqb (get_or groups k 0) group ≡ false →
    members_at k groups group ≡ members_at (suc k) groups group
member_other groups k group less other = member_step groups k group less ∙ cond-false (eqb (get_or groups k 0) group) _ _ other

pub member_end : (groups : List ℕ) (k group : ℕ) → length groups ≤ k → members_at k groups group ≡ []
member_end groups k group past = ap (λ rest. members_from k rest group) (drop_all k groups past)

pub first_here : (groups : List ℕ) (k group : ℕ) → k < length groups → get_or groups k 0 ≡ group → first_from k groups group ≡ Some k
first_here groups k group less is = ap (λ xs. slice_get xs 0) (member_here groups k group less is)

pub first_other : (groups : List ℕ) (k group : ℕ) → k < length groups → eqb (get_or groups k 0) group ≡ false →
    first_from k groups group ≡ first_from (suc k) groups group
first_other groups k group less other = ap (λ xs. slice_get xs 0) (member_other groups k group less other)

pub first_end : (groups : List ℕ) (k group : ℕ) → length groups ≤ k → first_from k groups group ≡ None
first_end groups k group past = ap (λ xs. slice_get xs 0) (member_end groups k group past)

-- the first value in a group is followed by the others
pub record IsFirst (k : ℕ) (groups : List ℕ) (group n : ℕ) : Type 0 where
  pub members : members_at k groups group ≡ n ∷ members_at (suc n) groups group
  pub group_is : get_or groups n 0 ≡ group
  pub within : n < length groups

pub is_first : (fuel : ℕ) (groups : List ℕ) (k group n : ℕ) → length groups ≤ fuel + k → first_from k groups group ≡ Some n →
    IsFirst k groups group n
is_first zero groups k group n enough e =
    let both : None ≡ Some n = sym (first_end groups k group (omega arith)) ∙ e in
    absurd (cc)
is_first (suc fuel) groups k group n enough e =
    ⊎_elim
    (λ less. ⊎_elim
    (λ here.
    let is : get_or groups k 0 ≡ group = eqb-true (get_or groups k 0) group here in
    let both : Some k ≡ Some n = sym (first_here groups k group less is) ∙ e in
    let same : k ≡ n = cc in
    subst (λ m. IsFirst k groups group m) same
    record { members = member_here groups k group less is; group_is = is; within = less })
    (λ other.
    let next = is_first fuel groups (suc k) group n (omega arith) (sym (first_other groups k group less other) ∙ e) in
    record {
      members = member_other groups k group less other ∙ next.members;
      group_is = next.group_is;
      within = next.within;
    })
    (cases_Bool (eqb (get_or groups k 0) group)))
    (λ past. let both : None ≡ Some n = sym (first_end groups k group past) ∙ e in absurd (cc))
    (cases_lt k (length groups))

-- what holds for each value in a group holds for the list of the group's values
pub members_each : (P : ℕ → Type 0) (fuel : ℕ) (groups : List ℕ) (k group : ℕ) → length groups ≤ fuel + k →
    ((n : ℕ) → k ≤ n → n < length groups → get_or groups n 0 ≡ group → P n) → AllByRecursion P (members_at k groups group)
members_each P zero groups k group enough each = subst (AllByRecursion P) (sym (member_end groups k group (omega arith))) tt
members_each P (suc fuel) groups k group enough each =
    let next = members_each P fuel groups (suc k) group (omega arith) (λ n more within is. each n (omega (arith, more)) within is) in
    ⊎_elim
    (λ less. ⊎_elim
    (λ here.
    let is : get_or groups k 0 ≡ group = eqb-true (get_or groups k 0) group here in
    subst (AllByRecursion P) (sym (member_here groups k group less is)) (each k (omega arith) less is, next))
    (λ other. subst (AllByRecursion P) (sym (member_other groups k group less other)) next)
    (cases_Bool (eqb (get_or groups k 0) group)))
    (λ past. subst (AllByRecursion P) (sym (member_end groups k group past)) tt)
    (cases_lt k (length groups))

-- a value is in a group
abbrev pub IsMember : List ℕ → ℕ → ℕ → Type 0
IsMember groups group n = (n < length groups) × (get_or groups n 0 ≡ group)

pub each_member : (P : ℕ → Type 0) (groups : List ℕ) (group : ℕ) → ((n : ℕ) → IsMember groups group n → P n) → AllByRecursion P (members_from 0 groups group)
each_member P groups group each = members_each P (length groups) groups 0 group (omega arith) (λ n more within is. each n (within, is))

-- ---- the order

-- parents come before the values inside them
abbrev pub ComeLater : List ℕ → Type 0
ComeLater groups = (n : ℕ) → n < length groups → get_or groups n 0 ≤ n

-- a value, followed by those inside it down to a number of levels
abbrev pub subtree : List ℕ → ℕ → ℕ → List ℕ
subtree groups levels n = n ∷ numbers_in levels groups (suc n)

-- more levels than there are values change nothing
pub steady : (groups : List ℕ) → ComeLater groups → (levels group : ℕ) → length groups ≤ levels + group →
    numbers_in (suc levels) groups group ≡ numbers_in levels groups group
unfolding numbers_in
steady groups late zero group small =
    flat_map_none (subtree groups zero) (members_from 0 groups group)
    (each_member (λ n. ⊥) groups group (λ n member. let low = late n member.0 in omega (arith, member.0, member.1, low, small)))
steady groups late (suc levels) group small =
    flat_map_same (subtree groups (suc levels)) (subtree groups levels) (members_from 0 groups group)
    (each_member (λ n. ◌≡◌ {A = List ℕ} (subtree groups (suc levels) n) (subtree groups levels n)) groups group
    (λ n member. let low = late n member.0 in ap (λ ns. n ∷ ns) (steady groups late levels (suc n) (omega (arith, member.0, member.1, low, small)))))

-- a value, followed by all those inside it
abbrev pub tree : List ℕ → ℕ → List ℕ
tree groups n = subtree groups (length groups) n

pub whole : (groups : List ℕ) → ComeLater groups → (group : ℕ) →
    numbers_in (length groups) groups group ≡ flat_map (tree groups) (members_from 0 groups group)
unfolding numbers_in
whole groups late group = sym (steady groups late (length groups) group (omega arith))

-- a value and those after it in its group, each followed by the values inside it
abbrev pub from : List ℕ → ℕ → List ℕ
from groups n = flat_map (tree groups) (members_at n groups (get_or groups n 0))

abbrev pub from_first : List ℕ → Option ℕ → List ℕ
from_first groups None = []
from_first groups (Some n) = from groups n

group_rest : (groups : List ℕ) (k group : ℕ) → flat_map (tree groups) (members_at k groups group) ≡ from_first groups (first_from k groups group)
group_rest groups k group = by (first_from k groups group) refl
  where
    by : (o : Option ℕ) → first_from k groups group ≡ o → flat_map (tree groups) (members_at k groups group) ≡ from_first groups o
    by None e = ap (flat_map (tree groups)) (none_first (members_at k groups group) e)
    by (Some n) e =
        let found = is_first (length groups) groups k group n (omega arith) e in
        ap (flat_map (tree groups))
        (found.members ∙ sym (member_here groups n group found.within found.group_is) ∙ ap (members_at n groups) (sym found.group_is))

-- a value is followed by those inside it, and then by those after it in its group
pub from_step : (groups : List ℕ) → ComeLater groups → (n : ℕ) → n < length groups →
    from groups n ≡ n ∷ (from_first groups (first_from 0 groups (suc n)) ++ from_first groups (first_from (suc n) groups (get_or groups n 0)))
from_step groups late n within =
    ap (flat_map (tree groups)) (member_here groups n (get_or groups n 0) within refl)
    ∙ ap₂ (λ a b. n ∷ (a ++ b)) (whole groups late (suc n) ∙ group_rest groups 0 (suc n)) (group_rest groups (suc n) (get_or groups n 0))

pub order_first : (groups : List ℕ) → ComeLater groups → order_of groups ≡ from_first groups (first_from 0 groups 0)
order_first groups late = whole groups late 0 ∙ group_rest groups 0 0
