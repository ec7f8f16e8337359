-- Values that are added in preorder: each is inside the last value before it, or inside one that contains it.
use Rattle.std.proofs.Common.{◌≡◌, ◌∙◌, ℕ, zero, suc, ◌+◌, ◌<◌, ◌≤◌, cond, eqb, List, [], ◌∷◌, ◌++◌, length, get_or, take, min, slice_get, Some, flat_map, ⊎_elim, sym, refl, ap, ap₂, subst, eq-eqb, append-nil, append_assoc, length-append, length-take, length-take-le, get_or-take, take_all, map-id, add-one, arith}
use Rattle.std.specs.List.{AllByRecursion, range_with_len}
use Rattle.std.proofs.lemmas.Bool.{cases_Bool, cond-true, cond-false, ne_eqb}
use Rattle.std.proofs.lemmas.List.{take_more}
use Rattle.std.proofs.lemmas.List.FromFn.{map-range_with_len_more}
use Rattle.std.proofs.lemmas.Grind.{flat_map-append}
use Rattle.nix_values.specs.Groups.{members_from, numbers_in, order_of, innermost, IsNoneOf, AreDistinct}
use Rattle.nix_values.proofs.GroupLemmas.{ComeLater, IsMember, each_member, flat_map_same, subtree, steady}
use Rattle.nix_values.proofs.DistinctLemmas.{IsAround, itself, around_low, around_part, around_same, members_distinct, all_weaker}

-- ---- one more value

abbrev longer : List ℕ → ℕ → List ℕ
longer groups g = groups ++ g ∷ []

-- the values in a group after one more value is added at the end
members_more : (k : ℕ) (groups : List ℕ) (g group : ℕ) →
    members_from k (longer groups g) group ≡ members_from k groups group ++ cond (eqb g group) ((k + length groups) ∷ []) []
members_more k [] g group =
    ap (λ n. cond (eqb g group) (n ∷ []) []) (omega arith)
members_more k (h ∷ groups) g group =
    let last : List ℕ = cond (eqb g group) ((k + suc (length groups)) ∷ []) [] in
    let short : List ℕ = members_from (suc k) groups group in
    let long : List ℕ = members_from (suc k) (longer groups g) group in
    let next : long ≡ short ++ last = members_more (suc k) groups g group ∙ ap (λ n. short ++ cond (eqb g group) (n ∷ []) []) (omega arith) in
    ⊎_elim
    (λ here.
    cond-true (eqb h group) (k ∷ long) long here
    ∙ ap (λ ns. k ∷ ns) next
    ∙ sym (ap (λ ns. ns ++ last) (cond-true (eqb h group) (k ∷ short) short here)))
    (λ other.
    cond-false (eqb h group) (k ∷ long) long other
    ∙ next
    ∙ sym (ap (λ ns. ns ++ last) (cond-false (eqb h group) (k ∷ short) short other)))
    (cases_Bool (eqb h group))

member_added : (groups : List ℕ) (g : ℕ) → members_from 0 (longer groups g) g ≡ members_from 0 groups g ++ length groups ∷ []
member_added groups g =
    members_more 0 groups g g
    ∙ ap (λ ns. members_from 0 groups g ++ ns) (cond-true (eqb g g) ((0 + length groups) ∷ []) [] (eq-eqb g g refl) ∙ ap (λ n. n ∷ []) (omega arith))

members_same : (groups : List ℕ) (g group : ℕ) → (g ≡ group → ⊥) → members_from 0 (longer groups g) group ≡ members_from 0 groups group
members_same groups g group other =
    members_more 0 groups g group
    ∙ ap (λ ns. members_from 0 groups group ++ ns) (cond-false (eqb g group) ((0 + length groups) ∷ []) [] (ne_eqb g group other))
    ∙ append-nil (members_from 0 groups group)

-- the new value is not inside this one
abbrev IsOutside : List ℕ → ℕ → ℕ → Type 0
IsOutside groups g m = (p : ℕ) → g ≡ suc p → IsAround groups m p → ⊥

-- so the values inside this one stay the same
inside_same : (groups : List ℕ) (g levels m : ℕ) → IsOutside groups g m → numbers_in levels (longer groups g) (suc m) ≡ numbers_in levels groups (suc m)
unfolding numbers_in
inside_same groups g zero m out = refl
inside_same groups g (suc levels) m out =
    ap (flat_map (subtree (longer groups g) levels)) (members_same groups g (suc m) (λ e. out m e itself))
    ∙ flat_map_same (subtree (longer groups g) levels) (subtree groups levels) (members_from 0 groups (suc m))
    (each_member (λ n. ◌≡◌ {A = List ℕ} (subtree (longer groups g) levels n) (subtree groups levels n)) groups (suc m)
    (λ n member. ap (λ ns. n ∷ ns) (inside_same groups g levels n (λ p e a. out p e (around_part groups m n member p a)))))

subtrees_same : (groups : List ℕ) (g levels : ℕ) (ns : List ℕ) → AllByRecursion (IsOutside groups g) ns →
    flat_map (subtree (longer groups g) levels) ns ≡ flat_map (subtree groups levels) ns
subtrees_same groups g levels ns out =
    flat_map_same (subtree (longer groups g) levels) (subtree groups levels) ns
    (all_weaker (IsOutside groups g) (λ n. ◌≡◌ {A = List ℕ} (subtree (longer groups g) levels n) (subtree groups levels n)) ns
    (λ n o. ap (λ xs. n ∷ xs) (inside_same groups g levels n o)) out)

no_members : (groups : List ℕ) → ComeLater groups → (u : ℕ) → length groups ≤ u → members_from 0 groups u ≡ []
no_members groups late u past =
    empty (members_from 0 groups u)
    (each_member (λ n. ⊥) groups u (λ n member. let low = late n member.0 in absurd (omega (arith, member.0, member.1, low, past))))
  where
    empty : (ns : List ℕ) → AllByRecursion (λ n. ⊥) ns → ns ≡ []
    empty [] none = refl
    empty (n ∷ ns) none = absurd none.0

none_inside : (groups : List ℕ) → ComeLater groups → (levels u : ℕ) → length groups ≤ u → numbers_in levels groups u ≡ []
unfolding numbers_in
none_inside groups late zero u past = refl
none_inside groups late (suc levels) u past = ap (flat_map (subtree groups levels)) (no_members groups late u past)

-- ---- the last value and those that contain it

-- the last value in a group, the last one inside that value, and so on: the list ends where nothing is inside
abbrev pub IsChain : List ℕ → ℕ → List ℕ → Type 0
IsChain groups u [] = members_from 0 groups u ≡ []
IsChain groups u (c ∷ cs) = (front : List ℕ) × (members_from 0 groups u ≡ front ++ c ∷ []) × IsChain groups (suc c) cs

innermost_value : (c : ℕ) (cs : List ℕ) → (p : ℕ) × (innermost (suc c) cs ≡ suc p)
innermost_value c [] = (c, refl)
innermost_value c (d ∷ cs) = innermost_value d cs

all_parts : (P : ℕ → Type 0) (front : List ℕ) (c : ℕ) → AllByRecursion P (front ++ c ∷ []) → AllByRecursion P front × P c
all_parts P [] c a = (tt, a.0)
all_parts P (x ∷ xs) c a = let next = all_parts P xs c a.1 in ((a.0, next.0), next.1)

all_both : (P Q R : ℕ → Type 0) (xs : List ℕ) → ((x : ℕ) → P x → Q x → R x) → AllByRecursion P xs → AllByRecursion Q xs → AllByRecursion R xs
all_both P Q R [] then a b = tt
all_both P Q R (x ∷ xs) then a b = (then x a.0 b.0, all_both P Q R xs then a.1 b.1)

distinct_front : (front : List ℕ) (c : ℕ) → AreDistinct (front ++ c ∷ []) → AllByRecursion (λ m. m ≡ c → ⊥) front
distinct_front [] c a = tt
distinct_front (x ∷ xs) c a = (differs xs a.0, distinct_front xs c a.1)
  where
    differs : (ys : List ℕ) → IsNoneOf x (ys ++ c ∷ []) → x ≡ c → ⊥
    differs [] none = none.0
    differs (y ∷ ys) none = differs ys none.1

chain_members : (groups : List ℕ) (u c : ℕ) (front : List ℕ) → members_from 0 groups u ≡ front ++ c ∷ [] →
    AllByRecursion (IsMember groups u) front × IsMember groups u c
chain_members groups u c front is =
    all_parts (IsMember groups u) front c
    (subst (AllByRecursion (IsMember groups u)) is (each_member (IsMember groups u) groups u (λ n member. member)))

-- a value in a chain contains the last one
chain_around : (groups : List ℕ) (c : ℕ) (front back : List ℕ) → IsChain groups (suc c) (front ++ back) → (p : ℕ) →
    innermost (suc c) front ≡ suc p → IsAround groups c p
chain_around groups c [] back chain p is =
    let same : c ≡ p = omega (arith, is) in
    subst (IsAround groups c) same itself
chain_around groups c (d ∷ front) back chain p is =
    around_part groups c d (chain_members groups (suc c) d chain.0 chain.1).1 p (chain_around groups d front back chain.2 p is)

-- ---- one more value in preorder

-- a value is added at the end of a group, or at the end of what is inside the values in the chain
record IsExtended (groups : List ℕ) (g u : ℕ) (front : List ℕ) : Type 0 where
  chain : IsChain (longer groups g) u (front ++ length groups ∷ [])
  numbers : (levels : ℕ) → suc (length groups) ≤ levels + u →
      numbers_in levels (longer groups g) u ≡ numbers_in levels groups u ++ length groups ∷ []

-- the new value is in this group
extended_here : (groups : List ℕ) (g : ℕ) → ComeLater groups → ComeLater (longer groups g) → g ≤ length groups → IsExtended groups g g []
unfolding numbers_in
extended_here groups g late later small = record {
  chain = (
    members_from 0 groups g,
    member_added groups g,
    members_same groups g (suc (length groups)) (λ e. absurd (omega (arith, e, small))) ∙ no_members groups late (suc (length groups)) (omega arith),
  );
  numbers = λ levels enough. by levels enough;
}
  where
    outside : AllByRecursion (IsOutside groups g) (members_from 0 groups g)
    outside = each_member (IsOutside groups g) groups g (λ n member p e a.
        let low = late n member.0 in
        let before = around_low groups late n p a in
        absurd (omega (arith, member.1, low, before, e)))

    by : (levels : ℕ) → suc (length groups) ≤ levels + g → numbers_in levels (longer groups g) g ≡ numbers_in levels groups g ++ length groups ∷ []
    by zero enough = absurd (omega (arith, enough, small))
    by (suc levels) enough =
        ap (flat_map (subtree (longer groups g) levels)) (member_added groups g)
        ∙ flat_map-append (subtree (longer groups g) levels) (members_from 0 groups g) (length groups ∷ [])
        ∙ ap₂ (λ (a b : List ℕ). a ++ (length groups ∷ (b ++ []))) (subtrees_same groups g levels (members_from 0 groups g) outside)
        (none_inside (longer groups g) later levels (suc (length groups)) (omega (arith, length-append groups (g ∷ []))))

-- the new value is inside the last value in this group
extended_inside : (groups : List ℕ) (g u c : ℕ) (front back : List ℕ) → ComeLater groups → IsChain groups u (c ∷ front ++ back) →
    g ≡ innermost (suc c) front → IsExtended groups g (suc c) front → IsExtended groups g u (c ∷ front)
unfolding numbers_in
extended_inside groups g u c front back late chain is next = record {
  chain = (chain.0, members_same groups g u differs ∙ chain.1, next.chain);
  numbers = λ levels enough. by levels enough;
}
  where
    value : (p : ℕ) × (innermost (suc c) front ≡ suc p)
    value = innermost_value c front

    around : IsAround groups c value.0
    around = chain_around groups c front back chain.2 value.0 value.1

    members : AllByRecursion (IsMember groups u) chain.0 × IsMember groups u c
    members = chain_members groups u c chain.0 chain.1

    low : u ≤ c
    low = let l = late c members.1.0 in omega (arith, l, members.1.1)

    differs : g ≡ u → ⊥
    differs e = let before = around_low groups late c value.0 around in absurd (omega (arith, e, is, value.1, before, low))

    outside : AllByRecursion (IsOutside groups g) chain.0
    outside =
        all_both (IsMember groups u) (λ m. m ≡ c → ⊥) (IsOutside groups g) chain.0
        (λ m member other p e a.
        let same : p ≡ value.0 = omega (arith, e, is, value.1) in
        other (around_same groups late u m c value.0 member members.1 (subst (IsAround groups m) same a) around))
        members.0
        (distinct_front chain.0 c (subst AreDistinct chain.1 (members_distinct (length groups) groups 0 u (omega arith))))

    by : (levels : ℕ) → suc (length groups) ≤ levels + u → numbers_in levels (longer groups g) u ≡ numbers_in levels groups u ++ length groups ∷ []
    by zero enough = absurd (omega (arith, enough, low, members.1.0))
    by (suc levels) enough =
        let inside : List ℕ = numbers_in levels groups (suc c) in
        let before : List ℕ = flat_map (subtree groups levels) chain.0 in
        let last : List ℕ = length groups ∷ [] in
        ap (flat_map (subtree (longer groups g) levels)) (members_same groups g u differs ∙ chain.1)
        ∙ flat_map-append (subtree (longer groups g) levels) chain.0 (c ∷ [])
        ∙ ap₂ (λ (a b : List ℕ). a ++ (c ∷ (b ++ []))) (subtrees_same groups g levels chain.0 outside) (next.numbers levels (omega (arith, enough, low)))
        ∙ ap (λ ns. before ++ (c ∷ ns)) (append-nil (inside ++ last))
        ∙ sym (append_assoc before (c ∷ inside) last)
        ∙ ap (λ ns. (before ++ (c ∷ ns)) ++ last) (sym (append-nil inside))
        ∙ ap (λ ns. ns ++ last) (sym (ap (flat_map (subtree groups levels)) chain.1 ∙ flat_map-append (subtree groups levels) chain.0 (c ∷ [])))

extended : (groups : List ℕ) (g u : ℕ) (front back : List ℕ) → ComeLater groups → ComeLater (longer groups g) → g ≤ length groups →
    IsChain groups u (front ++ back) → g ≡ innermost u front → IsExtended groups g u front
extended groups g u [] back late later small chain is = subst (λ v. IsExtended groups g v []) is (extended_here groups g late later small)
extended groups g u (c ∷ front) back late later small chain is =
    extended_inside groups g u c front back late chain is (extended groups g (suc c) front back late later small chain.2 is)

-- ---- the next value

late_take : (groups : List ℕ) → ComeLater groups → (n : ℕ) → ComeLater (take n groups)
late_take groups late n m within =
    let len : length (take n groups) ≡ min n (length groups) = length-take n groups in
    let same : get_or (take n groups) m 0 ≡ get_or groups m 0 = get_or-take n groups m 0 (omega (arith, len, within)) in
    let low = late m (omega (arith, len, within)) in
    omega (arith, same, low)

range_more : (n : ℕ) → range_with_len 0 (n + 1) ≡ range_with_len 0 n ++ n ∷ []
range_more n =
    sym (map-id (range_with_len 0 (n + 1)))
    ∙ map-range_with_len_more (λ k. k) 0 n n (omega arith)
    ∙ ap (λ ns. ns ++ n ∷ []) (map-id (range_with_len 0 n))

-- the values up to a number are in preorder, and these are the last one and those that contain it
pub record AreInOrder (groups : List ℕ) (n : ℕ) (around : List ℕ) : Type 0 where
  pub chain : IsChain (take n groups) 0 around
  pub order : numbers_in n (take n groups) 0 ≡ range_with_len 0 n

pub in_order_none : (groups : List ℕ) → AreInOrder groups 0 []
unfolding numbers_in
in_order_none groups = record { chain = refl; order = refl }

pub in_order_more : (groups : List ℕ) → ComeLater groups → (n : ℕ) → n < length groups → (front back : List ℕ) →
    AreInOrder groups n (front ++ back) → get_or groups n 0 ≡ innermost 0 front → AreInOrder groups (n + 1) (front ++ n ∷ [])
in_order_more groups late n within front back before is =
    let gs : List ℕ = take n groups in
    let g : ℕ = get_or groups n 0 in
    let more : take (n + 1) groups ≡ longer gs g = take_more groups n 0 within in
    let len : length gs ≡ n = length-take-le n groups (omega (arith, within)) in
    let low = late n within in
    let next : IsExtended gs g 0 front =
    extended gs g 0 front back (late_take groups late n) (subst ComeLater more (late_take groups late (n + 1))) (omega (arith, low, len)) before.chain is in
    record {
      chain = subst (λ xs. IsChain xs 0 (front ++ n ∷ [])) (sym more) (subst (λ m. IsChain (longer gs g) 0 (front ++ m ∷ [])) len next.chain);
      order =
          ap (λ xs. numbers_in (n + 1) xs 0) more
          ∙ ap (λ m. numbers_in m (longer gs g) 0) (add-one n)
          ∙ next.numbers (suc n) (omega (arith, len))
          ∙ ap (λ ns. ns ++ length gs ∷ []) (steady gs (late_take groups late n) n 0 (omega (arith, len)) ∙ before.order)
          ∙ ap (λ m. range_with_len 0 n ++ m ∷ []) len
          ∙ sym (range_more n);
    }

pub in_order_all : (groups : List ℕ) (n : ℕ) (around : List ℕ) → length groups ≤ n → n ≤ length groups → AreInOrder groups n around →
    order_of groups ≡ range_with_len 0 (length groups)
in_order_all groups n around past within all =
    let len : n ≡ length groups = omega (arith, past, within) in
    ap (λ xs. numbers_in (length groups) xs 0) (sym (take_all n groups past))
    ∙ subst (λ m. numbers_in m (take n groups) 0 ≡ range_with_len 0 m) len all.order

-- the group of the values inside the last value
pub innermost_last : (group : ℕ) (xs : List ℕ) (x i : ℕ) → suc i ≡ length xs → slice_get xs i ≡ Some x → innermost group xs ≡ suc x
innermost_last group [] x i len is = absurd (omega (arith, len))
innermost_last group (y ∷ []) x zero len is = let same : y ≡ x = cc in ap suc same
innermost_last group (y ∷ []) x (suc i) len is = absurd (cc)
innermost_last group (y ∷ z ∷ zs) x zero len is = absurd (omega (arith, len))
innermost_last group (y ∷ z ∷ zs) x (suc i) len is = innermost_last (suc y) (z ∷ zs) x i (omega (arith, len)) is
