-- The siblings and the children of an element.
use Rattle.std.proofs.Common.{is_some, ◌≡◌, ℕ, zero, suc, ◌+◌, ◌-◌, ◌≤◌, ◌<◌, length, Option, Some, None, true, false, refl, sym, ◌∙◌, arith, inl, inr}
use Rattle.{std.proofs.lemmas.{Bool.cases_lt, Option.same_Some}, rnix_green.specs.{Tree.{Tree, items_of, item}, Relatives.{located, IsFirst, IsLast, IsChild}}}
use Rattle.rnix_green.{specs.Relatives.{IsSibling, IsSiblingNode}, proofs.{SiblingLemmas.next_inside, ParentLemmas.parent_is_node}}
use Rattle.rnix_green.proofs.{ParentLemmas.parent_is_before, InsideLemmas.{held, ends_inside, first_child_of, below_parent, sibling_behind, has_parent}}
use Rattle.rnix_tree.specs.Around.{IsNodeIfAny, IsOnWayTo}

-- an element inside another one is no sibling of it
pub not_beside : (t : Tree) (n p m : ℕ) → n < length (items_of t) → (item t n).parent ≡ Some p → n < m → m ≤ n + (item t n).below → (item t m).parent ≡ Some p
    → ⊥
not_beside t n p m l e low high same =
    let in_n = held t n m l low high in
    let above = parent_is_before t n p l e in
    let eq : in_n.parent ≡ p = same_Some in_n.parent p (sym in_n.is ∙ same) in
    omega (arith, in_n.low)

-- only the root has no parent
pub root_alone : (t : Tree) (m : ℕ) → m < length (items_of t) → (item t m).parent ≡ None → m ≡ 0
root_alone t zero l e = refl
root_alone t (suc m) l e = absurd (let h = has_parent t (suc m) (omega arith) l in let x = sym h.is ∙ e in cc)

module _ (t : Tree) (n : ℕ) (l : n < length (items_of t)) where
  -- the root has no siblings
  pub no_next_of_root : (item t n).parent ≡ None → IsFirst (IsSibling record { tree = t; number = n }) n None
  no_next_of_root e m low h = (let a = root_alone t m h.is_there (h.parent ∙ e) in omega arith)

  pub no_prev_of_root : (item t n).parent ≡ None → IsLast (IsSibling record { tree = t; number = n }) n None
  no_prev_of_root e m low h = (let b = root_alone t n l e in omega arith)

  -- the element after an element and everything inside it is its next sibling, if the parent contains it
  pub next_there : (p : ℕ) → (item t n).parent ≡ Some p → n + 1 + (item t n).below ≤ p + (item t p).below
      → IsFirst (IsSibling record { tree = t; number = n }) n (Some (n + 1 + (item t n).below))
  next_there p e fits =
      let above = below_parent t n p l e in
      let inside = next_inside t p (omega (arith, above.low)) in (
        omega arith,
        record { is_there = omega arith; parent = sibling_behind t n p l e fits ∙ sym e },
        λ m low high h. not_beside t n p m l e low (omega arith) (h.parent ∙ e),
      )

  pub no_next : (p : ℕ) → (item t n).parent ≡ Some p → p + (item t p).below < n + 1 + (item t n).below
      → IsFirst (IsSibling record { tree = t; number = n }) n None
  no_next p e past m low h =
      elim (cases_lt (n + (item t n).below) m) [
        | inl behind ↦
            let above = below_parent t m p h.is_there (h.parent ∙ e) in
            omega (arith, above.high)
        | inr inside ↦ not_beside t n p m l e low inside (h.parent ∙ e)
      ]

  -- an element right after its parent has no previous sibling
  pub no_prev : (p : ℕ) → (item t n).parent ≡ Some p → n - 1 ≡ p → IsLast (IsSibling record { tree = t; number = n }) n None
  no_prev p e right m low h =
      let above = below_parent t m p h.is_there (h.parent ∙ e) in
      let here = below_parent t n p l e in
      omega (arith, above.low, here.low)

  -- the previous sibling of an element is the child that contains the element before it
  pub prev_there : (p child : ℕ) → (item t n).parent ≡ Some p → 0 < n → IsOnWayTo t p (n - 1) child
      → IsLast (IsSibling record { tree = t; number = n }) n (Some child)
  prev_there p child e some h =
      let low = h.low in
      let there : child < length (items_of t) = omega arith in
      let ends : child + (item t child).below < n =
      elim (cases_lt (child + (item t child).below) n) [
        | inl short ↦ short
        | inr long ↦ absurd (not_beside t child p n there h.parent (omega arith) long e)
      ] in (
        omega arith,
        record { is_there = there; parent = h.parent ∙ sym e },
        λ m after before s. not_beside t child p m there h.parent after (omega (arith, h.high)) (s.parent ∙ e),
      )

  -- the first child of an element comes right after it
  pub first_there : 0 < (item t n).below → IsFirst (IsChild record { tree = t; number = n }) n (Some (n + 1))
  first_there some =
      (omega arith, record { is_there = omega (arith, next_inside t n l); parent = first_child_of t n l some }, λ m low high h. omega arith)

  no_children : (item t n).below ≡ 0 → (m : ℕ) → ¬ IsChild record { tree = t; number = n } m
  no_children none m h = (let in_n = below_parent t m n h.is_there h.parent in omega (arith, in_n.low, in_n.high))

  pub no_first : (item t n).below ≡ 0 → IsFirst (IsChild record { tree = t; number = n }) n None
  no_first none m low h = no_children none m h

  pub no_last : (item t n).below ≡ 0 → IsLast (IsChild record { tree = t; number = n }) (length (items_of t)) None
  no_last none m low h = no_children none m h

  -- the last child of an element is the one that ends with it
  pub last_there : (child : ℕ) → IsOnWayTo t n (n + (item t n).below) child
      → IsLast (IsChild record { tree = t; number = n }) (length (items_of t)) (Some child)
  last_there child h =
      let inside = next_inside t n l in
      let there : child < length (items_of t) = omega (arith, h.low) in (
        there,
        record { is_there = there; parent = h.parent },
        λ m after before s. let in_n = below_parent t m n s.is_there s.parent in not_beside t child n m there h.parent after
            (omega (arith, h.high, in_n.high)) s.parent,
      )

-- climbing from an element inside `p` towards `p`
pub record IsClimbing (t : Tree) (p m child : ℕ) : Type 0 where
  pub above : p < child
  pub low : child ≤ m
  pub high : m ≤ child + (item t child).below

-- the parent of an element inside `p` is `p` or inside `p`
pub climb_step : (t : Tree) (p m child above : ℕ) → p < length (items_of t) → m ≤ p + (item t p).below → IsClimbing t p m child
    → (item t child).parent ≡ Some above → ¬ (above ≡ p)
    → IsClimbing t p m above
climb_step t p m child above l high h e differs =
    let inside = next_inside t p l in
    let low = h.low in
    let there : child < length (items_of t) = omega arith in
    let held_in = held t p child l h.above (omega arith) in
    let same : held_in.parent ≡ above = same_Some held_in.parent above (sym held_in.is ∙ e) in
    let around = below_parent t child above there e in
    let ends = ends_inside t above child (omega (arith, around.low)) around.low around.high in
    record {
      above = apart p above (omega (arith, held_in.low)) differs;
      low = omega (arith, around.low);
      high = omega (arith, h.high);
    }
  where
    apart : (p q : ℕ) → p ≤ q → ¬ (q ≡ p) → p < q
    apart p q l d = elim (cases_lt p q) [ inl less ↦ less | inr more ↦ absurd (d (omega arith)) ]

-- an element inside `p` has a parent
pub climb_goes : (t : Tree) (p m child : ℕ) → p < length (items_of t) → m ≤ p + (item t p).below → IsClimbing t p m child → (item t child).parent ≡ None → ⊥
climb_goes t p m child l high h none =
    let low = h.low in
    let held_in = held t p child l h.above (omega arith) in
    let x = sym held_in.is ∙ none in
    cc

-- element `k` is a sibling of element `n`, or `n` itself
pub record Stepped (t : Tree) (n k : ℕ) : Type 0 where
  pub start : n < length (items_of t)
  pub there : k < length (items_of t)
  pub beside : (item t k).parent ≡ (item t n).parent

-- no sibling from the start up to here is a node
abbrev pub IsAhead : Tree → Option ℕ → Option ℕ → Type 0
IsAhead t None next = next ≡ None
IsAhead t (Some n) None = (n < length (items_of t)) × ((m : ℕ) → n ≤ m → ¬ IsSiblingNode record { tree = t; number = n } m)
IsAhead t (Some n) (Some k) = Stepped t n k × (n ≤ k) × ((m : ℕ) → n ≤ m → m < k → ¬ IsSiblingNode record { tree = t; number = n } m)

-- no sibling from the start back to here is a node
abbrev pub IsBack : Tree → Option ℕ → Option ℕ → Type 0
IsBack t None next = next ≡ None
IsBack t (Some n) None = (n < length (items_of t)) × ((m : ℕ) → m ≤ n → ¬ IsSiblingNode record { tree = t; number = n } m)
IsBack t (Some n) (Some k) = Stepped t n k × (k ≤ n) × ((m : ℕ) → k < m → m ≤ n → ¬ IsSiblingNode record { tree = t; number = n } m)

-- how many elements are left ahead
abbrev pub left_ahead : Tree → Option ℕ → ℕ
left_ahead t None = 0
left_ahead t (Some k) = 1 + (length (items_of t) - k)

-- how many elements are left to go back
abbrev pub left_back : Option ℕ → ℕ
left_back None = 0
left_back (Some k) = 1 + k

-- the parent of an element is a node
pub parent_if_any : (t : Tree) (n : ℕ) (parent : Option ℕ) → n < length (items_of t) → (item t n).parent ≡ parent → IsNodeIfAny t parent
parent_if_any t n None l e = tt
parent_if_any t n (Some p) l e = (let h = parent_is_node t n p l e in record { is_there = h.is_there; is_node = h.is_node })

-- a token is not the root
pub token_has_parent : (t : Tree) (n : ℕ) → n < length (items_of t) → (item t n).is_node ≡ false → is_some (located t (item t n).parent) ≡ true
token_has_parent t zero l token = absurd (cc)
token_has_parent t (suc n) l token = (let h = has_parent t (suc n) (omega arith) l in rw (h.is) refl)
