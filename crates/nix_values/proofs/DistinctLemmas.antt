-- No value is visited twice.
use Rattle.std.proofs.Common.{◌≡◌, ◌∙◌, ℕ, zero, suc, ◌+◌, ◌<◌, ◌≤◌, List, [], ◌∷◌, ◌++◌, length, get_or, flat_map, eqb, ⊎_elim, sym, refl, subst, eqb-true, arith}
use Rattle.std.specs.List.{AllByRecursion}
use Rattle.std.proofs.lemmas.Bool.{cases_Bool, cases_lt}
use Rattle.nix_values.specs.Groups.{members_from, numbers_in, order_of, IsNoneOf, AreDistinct}
use Rattle.nix_values.proofs.GroupLemmas.{ComeLater, IsMember, members_at, members_each, each_member, member_here, member_other, member_end, subtree}

-- ---- lists

all_append : (P : ℕ → Type 0) (xs ys : List ℕ) → AllByRecursion P xs → AllByRecursion P ys → AllByRecursion P (xs ++ ys)
all_append P [] ys a b = b
all_append P (x ∷ xs) ys a b = (a.0, all_append P xs ys a.1 b)

pub all_weaker : (P Q : ℕ → Type 0) (xs : List ℕ) → ((x : ℕ) → P x → Q x) → AllByRecursion P xs → AllByRecursion Q xs
all_weaker P Q [] then a = tt
all_weaker P Q (x ∷ xs) then a = (then x a.0, all_weaker P Q xs then a.1)

all_flat : (P : ℕ → Type 0) (f : ℕ → List ℕ) (xs : List ℕ) → AllByRecursion (λ x. AllByRecursion P (f x)) xs → AllByRecursion P (flat_map f xs)
all_flat P f [] a = tt
all_flat P f (x ∷ xs) a = all_append P (f x) (flat_map f xs) a.0 (all_flat P f xs a.1)

none_of : (n : ℕ) (xs : List ℕ) → AllByRecursion (λ x. n ≡ x → ⊥) xs → IsNoneOf n xs
none_of n [] a = tt
none_of n (x ∷ xs) a = (a.0, none_of n xs a.1)

none_append : (n : ℕ) (xs ys : List ℕ) → IsNoneOf n xs → IsNoneOf n ys → IsNoneOf n (xs ++ ys)
none_append n [] ys a b = b
none_append n (x ∷ xs) ys a b = (a.0, none_append n xs ys a.1 b)

distinct_append : (xs ys : List ℕ) → AreDistinct xs → AreDistinct ys → AllByRecursion (λ x. IsNoneOf x ys) xs → AreDistinct (xs ++ ys)
distinct_append [] ys a b apart = b
distinct_append (x ∷ xs) ys a b apart = (none_append x xs ys a.0 apart.0, distinct_append xs ys a.1 b apart.1)

-- ---- values that contain others

-- a value is another one or contains it
pub data IsAround (groups : List ℕ) (c : ℕ) : ℕ → Type 0 where
  itself : IsAround groups c c
  inner : (m p : ℕ) → m < length groups → get_or groups m 0 ≡ suc p → IsAround groups c p → IsAround groups c m

pub around_low : (groups : List ℕ) → ComeLater groups → (c m : ℕ) → IsAround groups c m → c ≤ m
around_low groups late c _ itself = omega arith
around_low groups late c _ (inner m p within is a) =
    let low = late m within in
    let before = around_low groups late c p a in
    omega (arith, is, low, before)

pub around_part : (groups : List ℕ) (c n : ℕ) → IsMember groups (suc c) n → (m : ℕ) → IsAround groups n m → IsAround groups c m
around_part groups c n member _ itself = inner n c member.0 member.1 itself
around_part groups c n member _ (inner m p within is a) = inner m p within is (around_part groups c n member p a)

-- of two different values in one group, at most one contains a given value
pub around_same : (groups : List ℕ) → ComeLater groups → (group c d m : ℕ) → IsMember groups group c → IsMember groups group d →
    IsAround groups c m → IsAround groups d m → c ≡ d
around_same groups late group c d _ one other itself itself = refl
around_same groups late group c d _ one other itself (inner m p within is b) =
    let low = late d other.0 in
    let before = around_low groups late d p b in
    absurd (omega (arith, one.1, other.1, is, low, before))
around_same groups late group c d _ one other (inner m p within is a) itself =
    let low = late c one.0 in
    let before = around_low groups late c p a in
    absurd (omega (arith, one.1, other.1, is, low, before))
around_same groups late group c d _ one other (inner m p within is a) (inner _ q inside at b) =
    let both : suc p ≡ suc q = sym is ∙ at in
    let same : p ≡ q = omega (arith, both) in
    around_same groups late group c d q one other (subst (IsAround groups c) same a) b

-- ---- the order

around_numbers : (groups : List ℕ) (levels c : ℕ) → AllByRecursion (IsAround groups c) (numbers_in levels groups (suc c))
unfolding numbers_in
around_numbers groups zero c = tt
around_numbers groups (suc levels) c =
    all_flat (IsAround groups c) (subtree groups levels) (members_from 0 groups (suc c))
    (each_member (λ n. AllByRecursion (IsAround groups c) (subtree groups levels n)) groups (suc c) (λ n member. (
      inner n c member.0 member.1 itself,
      all_weaker (IsAround groups n) (IsAround groups c) (numbers_in levels groups (suc n)) (around_part groups c n member) (around_numbers groups levels n),
    )))

around_tree : (groups : List ℕ) (levels n : ℕ) → AllByRecursion (IsAround groups n) (subtree groups levels n)
around_tree groups levels n = (itself, around_numbers groups levels n)

-- the values inside a value come after it
numbers_above : (groups : List ℕ) → ComeLater groups → (levels c : ℕ) → AllByRecursion (λ m. c < m) (numbers_in levels groups (suc c))
unfolding numbers_in
numbers_above groups late zero c = tt
numbers_above groups late (suc levels) c =
    all_flat (λ m. c < m) (subtree groups levels) (members_from 0 groups (suc c))
    (each_member (λ n. AllByRecursion (λ m. c < m) (subtree groups levels n)) groups (suc c) (λ n member.
    let low = late n member.0 in
    let next : c < n = omega (arith, member.1, low) in (
      next,
      all_weaker (λ m. n < m) (λ m. c < m) (numbers_in levels groups (suc n)) (λ m less. omega (arith, less, next)) (numbers_above groups late levels n),
    )))

not_inside : (groups : List ℕ) → ComeLater groups → (levels c : ℕ) → IsNoneOf c (numbers_in levels groups (suc c))
not_inside groups late levels c =
    none_of c (numbers_in levels groups (suc c))
    (all_weaker (λ m. c < m) (λ m. c ≡ m → ⊥) (numbers_in levels groups (suc c)) (λ m less is. absurd (omega (arith, less, is)))
    (numbers_above groups late levels c))

pub members_distinct : (fuel : ℕ) (groups : List ℕ) (k group : ℕ) → length groups ≤ fuel + k → AreDistinct (members_at k groups group)
members_distinct zero groups k group enough = subst AreDistinct (sym (member_end groups k group (omega arith))) tt
members_distinct (suc fuel) groups k group enough =
    let next = members_distinct fuel groups (suc k) group (omega arith) in
    ⊎_elim
    (λ less. ⊎_elim
    (λ here. subst AreDistinct (sym (member_here groups k group less (eqb-true (get_or groups k 0) group here))) (
      none_of k (members_at (suc k) groups group)
          (members_each (λ n. k ≡ n → ⊥) fuel groups (suc k) group (omega arith) (λ n more within is same. absurd (omega (arith, more, same)))),
      next,
    ))
    (λ other. subst AreDistinct (sym (member_other groups k group less other)) next)
    (cases_Bool (eqb (get_or groups k 0) group)))
    (λ past. subst AreDistinct (sym (member_end groups k group past)) tt)
    (cases_lt k (length groups))

-- the values inside a value are not inside others of its group
apart_from : (groups : List ℕ) → ComeLater groups → (levels group n : ℕ) → IsMember groups group n → (ns : List ℕ) →
    AllByRecursion (IsMember groups group) ns → IsNoneOf n ns → (m : ℕ) → IsAround groups n m →
    AllByRecursion (λ x. m ≡ x → ⊥) (flat_map (subtree groups levels) ns)
apart_from groups late levels group n member [] of none m a = tt
apart_from groups late levels group n member (d ∷ ns) of none m a =
    all_append (λ x. m ≡ x → ⊥) (subtree groups levels d) (flat_map (subtree groups levels) ns)
    (all_weaker (IsAround groups d) (λ x. m ≡ x → ⊥) (subtree groups levels d)
    (λ x b same. none.0 (around_same groups late group n d m member of.0 a (subst (IsAround groups d) (sym same) b)))
    (around_tree groups levels d))
    (apart_from groups late levels group n member ns of.1 none.1 m a)

distinct_flat : (groups : List ℕ) → ComeLater groups → (levels group : ℕ) → ((n : ℕ) → AreDistinct (numbers_in levels groups (suc n))) →
    (ns : List ℕ) → AllByRecursion (IsMember groups group) ns → AreDistinct ns → AreDistinct (flat_map (subtree groups levels) ns)
distinct_flat groups late levels group each [] of apart = tt
distinct_flat groups late levels group each (n ∷ ns) of apart =
    let others : List ℕ = flat_map (subtree groups levels) ns in
    distinct_append (subtree groups levels n) others
    (not_inside groups late levels n, each n)
    (distinct_flat groups late levels group each ns of.1 apart.1)
    (all_weaker (IsAround groups n) (λ m. IsNoneOf m others) (subtree groups levels n)
    (λ m a. none_of m others (apart_from groups late levels group n of.0 ns of.1 apart.0 m a))
    (around_tree groups levels n))

numbers_distinct : (groups : List ℕ) → ComeLater groups → (levels group : ℕ) → AreDistinct (numbers_in levels groups group)
unfolding numbers_in
numbers_distinct groups late zero group = tt
numbers_distinct groups late (suc levels) group =
    distinct_flat groups late levels group (λ n. numbers_distinct groups late levels (suc n)) (members_from 0 groups group)
    (each_member (IsMember groups group) groups group (λ n member. member))
    (members_distinct (length groups) groups 0 group (omega arith))

pub order_distinct : (groups : List ℕ) → ComeLater groups → AreDistinct (order_of groups)
order_distinct groups late = numbers_distinct groups late (length groups) 0
