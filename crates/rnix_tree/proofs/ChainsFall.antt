-- The element that a call along siblings, tokens or parents returns has fewer elements after it than the element that it was called on, or fewer
-- before it.
use Rattle.std.proofs.{Common.{◌≡◌, ℕ, ◌≤◌, ◌<◌, length, Option, Some, None, refl, ap, arith, inl, inr}, lemmas.{Bool.cases_lt, List.get_or_past}}
use Rattle.rnix_green.specs.{Tree.{Located, items_of, item_of, no_item}, Relatives.{located, parent_of, IsFirst, IsLast, IsThat, IsTokenIn, IsChild}}
use Rattle.rnix_green.specs.Relatives.{IsChildNode, IsSibling, IsSiblingNode, IsNextSibling, IsPrevSibling, IsNextSiblingNode, IsPrevSiblingNode, IsNextToken}
use Rattle.rnix_green.{specs.Relatives.{IsPrevToken, IsFirstChild, IsFirstChildNode, IsLastChild, IsLastChildNode}, proofs.ParentLemmas.parent_is_before}
use Rattle.rnix_tree.specs.ChainMeasures.{behind_count, before_count, behind_if, before_if}

-- this holds for the first element after `e` with a property of elements of the tree
first_falls : (P : ℕ → Type 0) (e : Located) (r : Option Located) → ((m : ℕ) → P m → m < length (items_of e.tree))
    → IsThat e.tree (IsFirst P e.number) r → behind_if r ≤ behind_count e
first_falls P e None there h = omega arith
first_falls P e (Some r) there h =
    let same : length (items_of r.tree) ≡ length (items_of e.tree) = ap (λ t. length (items_of t)) h.0 in
    omega (arith, same, h.1.0, there r.number h.1.1)

-- this holds for the last element before `e` with the property
last_falls : (P : ℕ → Type 0) (e : Located) (r : Option Located) → IsThat e.tree (IsLast P e.number) r → before_if r ≤ before_count e
last_falls P e None h = omega arith
last_falls P e (Some r) h = omega (arith, h.1.0)

-- this holds for the next sibling
pub next_falls : (e : Located) (next : Option Located) → IsNextSibling e next → behind_if next ≤ behind_count e
next_falls e next h = first_falls (IsSibling e) e next (λ m s. s.is_there) h

-- this holds for the next sibling that is a node
pub next_node_falls : (e : Located) (next : Option Located) → IsNextSiblingNode e next → behind_if next ≤ behind_count e
next_node_falls e next h = first_falls (IsSiblingNode e) e next (λ m s. s.0.is_there) h

-- this holds for the next token of the tree
pub next_token_falls : (e : Located) (next : Option Located) → IsNextToken e next → behind_if next ≤ behind_count e
next_token_falls e next h = first_falls (IsTokenIn e.tree) e next (λ m s. s.is_there) h

-- this holds for the previous sibling
pub prev_falls : (e : Located) (prev : Option Located) → IsPrevSibling e prev → before_if prev ≤ before_count e
prev_falls e prev h = last_falls (IsSibling e) e prev h

-- this holds for the previous sibling that is a node
pub prev_node_falls : (e : Located) (prev : Option Located) → IsPrevSiblingNode e prev → before_if prev ≤ before_count e
prev_node_falls e prev h = last_falls (IsSiblingNode e) e prev h

-- this holds for the previous token of the tree
pub prev_token_falls : (e : Located) (prev : Option Located) → IsPrevToken e prev → before_if prev ≤ before_count e
prev_token_falls e prev h = last_falls (IsTokenIn e.tree) e prev h

-- this holds for the first child
pub first_child_falls : (e : Located) (child : Option Located) → IsFirstChild e child → behind_if child ≤ behind_count e
first_child_falls e child h = first_falls (IsChild e) e child (λ m c. c.is_there) h

-- this holds for the first child that is a node
pub first_child_node_falls : (e : Located) (child : Option Located) → IsFirstChildNode e child → behind_if child ≤ behind_count e
first_child_node_falls e child h = first_falls (IsChildNode e) e child (λ m c. c.0.is_there) h

-- this holds for the last element with a property of children of `e`
last_below_falls : (P : ℕ → Type 0) (e : Located) (r : Option Located) → ((m : ℕ) → P m → IsChild e m)
    → IsThat e.tree (IsLast P (length (items_of e.tree))) r → behind_if r ≤ behind_count e
last_below_falls P e None child h = omega arith
last_below_falls P e (Some r) child h =
    let same : length (items_of r.tree) ≡ length (items_of e.tree) = ap (λ t. length (items_of t)) h.0 in
    let c : IsChild e r.number = child r.number h.1.1 in
    omega (arith, same, h.1.0, parent_is_before e.tree r.number e.number c.is_there c.parent)

-- this holds for the last child
pub last_child_falls : (e : Located) (child : Option Located) → IsLastChild e child → behind_if child ≤ behind_count e
last_child_falls e child h = last_below_falls (IsChild e) e child (λ m c. c) h

-- this holds for the last child that is a node
pub last_child_node_falls : (e : Located) (child : Option Located) → IsLastChildNode e child → behind_if child ≤ behind_count e
last_child_node_falls e child h = last_below_falls (IsChildNode e) e child (λ m c. c.0) h

-- this holds for the parent
pub parent_falls : (e : Located) (parent : Option Located) → parent ≡ parent_of e → before_if parent ≤ before_count e
parent_falls e parent h =
    elim (cases_lt e.number (length (items_of e.tree))) [
      | inl there ↦ go (item_of e).parent there refl
      | inr absent ↦
          let none : (item_of e).parent ≡ None = ap (λ x. x.parent) (get_or_past (items_of e.tree) e.number no_item absent) in
          omega (arith, ap before_if h, ap (λ p. before_if (located e.tree p)) none)
    ]
  where
    go : (p : Option ℕ) → e.number < length (items_of e.tree) → (item_of e).parent ≡ p → before_if parent ≤ before_count e
    go None there k = omega (arith, ap before_if h, ap (λ p. before_if (located e.tree p)) k)
    go (Some q) there k =
        omega (arith, ap before_if h, ap (λ p. before_if (located e.tree p)) k, parent_is_before e.tree e.number q there k)
