-- Which nodes are open when a walk over the elements of a text enters a node: those around it.
use Rattle.std.proofs.Common.{◌≡◌, ℕ, zero, suc, ◌+◌, ◌-◌, ◌≤◌, ◌<◌, List, [], ◌∷◌, length, drop, Option, Some, None, Bool, true, false, refl, ap, sym}
use Rattle.std.proofs.{Common.{◌∙◌, subst, arith, inl, inr}, lemmas.{List.length_push, Bool.{cases_lt, cond-true, cond-false, le-leb, lt-leb, false≢true}}}
use Rattle.std.{proofs.lemmas.List.{Elements.{All-cons, All-filter, All-head, All-tail}, Kept.{AllPairs-cons, AllPairs-filter}}, specs.List.{All, AllPairs}}
use Rattle.std.specs.Prelude.{cond, filter, nat_le, nat_lt, if◌then◌else◌}
use Rattle.rnix_green.specs.{Tree.{Tree, Located, items_of, item}, Walk.{holders, ancestors_of}, Relatives.{parent_of, located}}
use Rattle.rnix_green.proofs.{ParentLemmas.parent_is_before, InsideLemmas.ends_inside, NumberTests.{is_below, is_not_below}}
use Rattle.{nix_scopes.specs.{Scopes.around, Resolving.{last_in, count_after, counts_after, still_open}}, rnix_tree.specs.Around.ancestors_if}
use Rattle.rnix_tree.proofs.AncestorLemmas.{holds, passes, ancestors_step}

-- the innermost of these nodes, if there is one, is the parent of a node
abbrev pub IsBelow : Located → List Located → Type 0
IsBelow e [] = Unit {0}
IsBelow e (parent ∷ nodes) = parent_of e ≡ Some parent

-- whether an element does not come before the root
abbrev pub within : Located → Located → Bool
within root a = nat_le root.number a.number

passed : (b : Bool) (root : Located) (x : Located) (xs : List Located) → filter (within root) xs ≡ [] → within root x ≡ false →
    filter (within root) (if b then xs else x ∷ xs) ≡ []
passed true root x xs none out = none
passed false root x xs none out = cond-false (within root x) (x ∷ filter (within root) xs) (filter (within root) xs) out ∙ none

-- nodes that hold an element and come before the root are not inside the root
none_held : (root : Located) (t : Tree) (n k : ℕ) → k ≤ root.number → filter (within root) (holders t n k) ≡ []
none_held root t n zero l = refl
none_held root t n (suc k) l =
    passed (nat_lt (k + (item t k).below) n) root (record { tree = t; number = k }) (holders t n k)
    (none_held root t n k (omega (arith, l))) (lt-leb root.number k (omega (arith, l)))

-- the parent of an element is the next node around it
pub parent_around : (root : Located) (t : Tree) (n : ℕ) → n < length (items_of t) → root.number ≤ n →
    IsBelow (record { tree = t; number = n }) (drop 1 (around root (record { tree = t; number = n })))
parent_around root t n l inside =
    let all : around root (record { tree = t; number = n }) ≡ record { tree = t; number = n } ∷ filter (within root) (ancestors_if t (item t n).parent) =
    ap (filter (within root)) (ancestors_step t n l)
    ∙ cond-true (within root (record { tree = t; number = n })) (record { tree = t; number = n } ∷ filter (within root) (ancestors_if t (item t n).parent)) _
    (le-leb root.number n inside) in
    subst (λ nodes. IsBelow (record { tree = t; number = n }) (drop 1 nodes)) (sym all) (outwards (item t n).parent refl)
  where
    outwards : (parent : Option ℕ) → (item t n).parent ≡ parent → IsBelow (record { tree = t; number = n }) (filter (within root) (ancestors_if t parent))
    outwards None e = tt
    outwards (Some p) e = elim (cases_lt p root.number) [
      | inl out ↦
          subst (IsBelow (record { tree = t; number = n })) (sym (none_held root t p (p + 1) (omega (arith, out)))) tt
      | inr more ↦
          let there = parent_is_before t n p l e in
          let first : filter (within root) (ancestors_of record { tree = t; number = p }) ≡ record { tree = t; number = p } ∷ filter (within root)
          (ancestors_if t (item t p).parent) =
          ap (filter (within root)) (ancestors_step t p (omega (arith, l, there)))
          ∙ cond-true (within root (record { tree = t; number = p }))
          (record { tree = t; number = p } ∷ filter (within root) (ancestors_if t (item t p).parent)) _ (le-leb root.number p more) in
          subst (IsBelow (record { tree = t; number = n })) (sym first) (ap (located t) e)
    ]

-- whether an element that does not come after the element n contains it
abbrev pub reaches : ℕ → Located → Bool
reaches n e = nat_le n (last_in e)

-- the open nodes, innermost first: those that contain a later element are the nodes from the root up to n that do, and outer ones do not end before inner ones
pub record HoldLater (root : Located) (n : ℕ) (nodes : List Located) : Type 0 where
  pub nested : AllPairs (λ (a b : Located). last_in a ≤ last_in b) nodes
  pub hold : (k : ℕ) → n ≤ k → filter (reaches k) nodes ≡ filter (within root) (holders root.tree k n)

-- before the root no node is open
pub begun : (root : Located) → HoldLater root root.number []
begun root = record {
  nested = λ i j d l h. absurd (omega (arith, h));
  hold = λ k l. sym (none_held root root.tree k root.number (omega arith));
}

-- passing a token leaves the same nodes open
pub past_token : (root : Located) (n : ℕ) (nodes : List Located) → (item root.tree n).below ≡ 0 → HoldLater root n nodes →
    HoldLater root (n + 1) nodes
past_token root n nodes none h = record {
  nested = h.nested;
  hold = λ k l.
      let one : suc n ≡ n + 1 = omega arith in
      h.hold k (omega (arith, l))
      ∙ ap (filter (within root)) (sym (passes root.tree k n (omega (arith, l, none))) ∙ ap (holders root.tree k) one);
}

-- filtering by a test and then by a stronger one is filtering by the stronger one
test_twice : {X : Type 0} (p q : X → Bool) → ((x : X) → p x ≡ false → q x ≡ false) → (xs : List X) → filter q (filter p xs) ≡ filter q xs
test_twice p q fails [] = refl
test_twice {X} p q fails (x ∷ xs) = chosen (p x) refl (test_twice p q fails xs)
  where
    chosen : (b : Bool) → p x ≡ b → filter q (filter p xs) ≡ filter q xs → filter q (cond b (x ∷ filter p xs) (filter p xs)) ≡ filter q (x ∷ xs)
    chosen true e more = ap (λ ys. cond (q x) (x ∷ ys) ys) more
    chosen false e more = more ∙ sym (cond-false (q x) (x ∷ filter q xs) (filter q xs) (fails x e))

-- if all elements pass, the filter keeps them all
test_all : {X : Type 0} (p : X → Bool) (xs : List X) → All (λ x. p x ≡ true) xs → filter p xs ≡ xs
test_all p [] all = refl
test_all p (x ∷ xs) all =
    cond-true (p x) (x ∷ filter p xs) (filter p xs) (All-head (λ x. p x ≡ true) x xs all)
    ∙ ap (λ ys. x ∷ ys) (test_all p xs (All-tail (λ x. p x ≡ true) x xs all))

-- a node that holds an element does not end before the element ends
holders_end : (t : Tree) (n k : ℕ) → n < length (items_of t) → k ≤ n → All (λ (a : Located). n + (item t n).below ≤ last_in a) (holders t n k)
holders_end t n zero there l = λ i d h. absurd (omega (arith, h))
holders_end t n (suc k) there l =
    let more = holders_end t n k there (omega (arith, l)) in
    elim (cases_lt (k + (item t k).below) n) [
      | inl short ↦ subst (All (λ (a : Located). n + (item t n).below ≤ last_in a)) (sym (passes t n k short)) more
      | inr long ↦
          subst (All (λ (a : Located). n + (item t n).below ≤ last_in a)) (sym (holds t n k long))
          (All-cons (λ (a : Located). n + (item t n).below ≤ last_in a) (record { tree = t; number = k }) (holders t n k)
          (ends_inside t k n (omega (arith, there, l)) (omega (arith, l)) long) more)
    ]

module _ (root : Located) (n : ℕ) (nodes : List Located) (inside : root.number ≤ n) (h : HoldLater root n nodes) where
  abbrev here : Located
  here = record { tree = root.tree; number = n }

  -- around a node are the node itself and the open nodes that have not ended
  pub around_is : around root here ≡ here ∷ filter (reaches n) nodes
  around_is =
      let one : n + 1 ≡ suc n = omega arith in
      ap (filter (within root)) (ap (holders root.tree n) one ∙ holds root.tree n n (omega arith))
      ∙ cond-true (within root here) (here ∷ filter (within root) (holders root.tree n n)) _ (le-leb root.number n inside)
      ∙ ap (λ xs. here ∷ xs) (sym (h.hold n (omega arith)))

  -- entering a node, after those that have ended are left
  pub past_node : n < length (items_of root.tree) → HoldLater root (n + 1) (here ∷ filter (reaches n) nodes)
  past_node there = record {
    nested =
        AllPairs-cons (λ (a b : Located). last_in a ≤ last_in b) here (filter (reaches n) nodes)
        (subst (All (λ (a : Located). last_in here ≤ last_in a)) (sym (h.hold n (omega arith)))
        (All-filter (within root) (λ (a : Located). last_in here ≤ last_in a) (holders root.tree n n)
        (holders_end root.tree n n there (omega arith))))
        (AllPairs-filter (λ (a b : Located). last_in a ≤ last_in b) (reaches n) nodes h.nested);
    hold = held;
  }
    where
      outer : (k : ℕ) → n + 1 ≤ k → filter (reaches k) (filter (reaches n) nodes) ≡ filter (within root) (holders root.tree k n)
      outer k l = test_twice (reaches n) (reaches k) (sooner k l) nodes ∙ h.hold k (omega (arith, l))
        where
          sooner : (k : ℕ) → n + 1 ≤ k → (a : Located) → reaches n a ≡ false → reaches k a ≡ false
          sooner k l a e = elim (cases_lt (last_in a) n) [
            | inl short ↦ lt-leb k (last_in a) (omega (arith, short, l))
            | inr long ↦ absurd (false≢true (sym e ∙ le-leb n (last_in a) long))
          ]

      held : (k : ℕ) → n + 1 ≤ k → filter (reaches k) (here ∷ filter (reaches n) nodes) ≡ filter (within root) (holders root.tree k (n + 1))
      held k l =
          let one : suc n ≡ n + 1 = omega arith in
          elim (cases_lt (n + (item root.tree n).below) k) [
            | inl short ↦
                cond-false (reaches k here) (here ∷ filter (reaches k) (filter (reaches n) nodes)) (filter (reaches k) (filter (reaches n) nodes))
                (lt-leb k (last_in here) short)
                ∙ outer k l ∙ ap (filter (within root)) (sym (passes root.tree k n short) ∙ ap (holders root.tree k) one)
            | inr long ↦
                cond-true (reaches k here) (here ∷ filter (reaches k) (filter (reaches n) nodes)) (filter (reaches k) (filter (reaches n) nodes))
                (le-leb k (last_in here) long)
                ∙ ap (λ xs. here ∷ xs) (outer k l)
                ∙ sym (cond-true (within root here) (here ∷ filter (within root) (holders root.tree k n)) _ (le-leb root.number n inside))
                ∙ ap (filter (within root)) (sym (holds root.tree k n long) ∙ ap (holders root.tree k) one)
          ]

module _ (root : Located) (remaining n : ℕ) (count : remaining ≡ last_in root - n) (inside : n ≤ last_in root) where
  -- if no node ends before element n, all are still open
  all_open : (es : List Located) → All (λ (a : Located). n ≤ last_in a) es → still_open root remaining es ≡ es
  all_open [] all = refl
  all_open (e ∷ es) all =
      ap (λ b. if b then still_open root remaining es else e ∷ es)
      (is_not_below remaining (count_after root e) (omega (arith, count, All-head (λ (a : Located). n ≤ last_in a) e es all)))

  -- if outer nodes do not end before inner ones, the nodes that are still open are those that do not end before element n
  pub still_open_is : (p : Located → Bool) (es : List Located) → AllPairs (λ (a b : Located). last_in a ≤ last_in b) es →
      still_open root remaining (filter p es) ≡ filter p (filter (reaches n) es)
  still_open_is p [] nested = refl
  still_open_is p (e ∷ es) nested = elim (cases_lt (last_in e) n) [
    | inl short ↦
        passed (p e) (is_below remaining (count_after root e) (omega (arith, count, short, inside)))
        ∙ still_open_is p es (λ i j d l m. nested (suc i) (suc j) d (omega (arith, l)) (omega (arith, m)))
        ∙ ap (filter p) (sym (cond-false (reaches n e) (e ∷ filter (reaches n) es) (filter (reaches n) es) (lt-leb n (last_in e) short)))
    | inr long ↦
        let all : All (λ (a : Located). n ≤ last_in a) (e ∷ es) =
        All-cons (λ (a : Located). n ≤ last_in a) e es long (λ k d l. omega (arith, long, nested 0 (suc k) d (omega arith) (omega (arith, l)))) in
        all_open (filter p (e ∷ es)) (All-filter p (λ (a : Located). n ≤ last_in a) (e ∷ es) all)
        ∙ ap (filter p) (sym (test_all (reaches n) (e ∷ es) (λ k d l. le-leb n _ (all k d l))))
  ]
    where
      passed : (b : Bool) → nat_lt remaining (count_after root e) ≡ true →
          still_open root remaining (cond b (e ∷ filter p es) (filter p es)) ≡ still_open root remaining (filter p es)
      passed true ends = ap (λ b. if b then still_open root remaining (filter p es) else e ∷ filter p es) ends
      passed false ends = refl

-- there are as many ends as elements
pub counts_length : (root : Located) (es : List Located) → length (counts_after root es) ≡ length es
counts_length root [] = refl
counts_length root (e ∷ es) = (let more = counts_length root es in omega (arith, length_push (counts_after root es) (count_after root e), more))
