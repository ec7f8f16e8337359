-- Joining forests.
use Rattle.{std.proofs.Common.{◌≡◌, ℕ, zero, suc, ◌+◌, ◌≤◌, ◌++◌, refl, ap, sym, append_assoc, arith}, rnix_green.specs.Forest.{Forest, empty, leaf, node}}
use Rattle.rnix_green.specs.Forest.{join, tree_count, first_trees, trees_after, text_of, element_count}

-- joining is associative
pub join_assoc : (f g h : Forest) → join (join f g) h ≡ join f (join g h)
join_assoc empty g h = refl
join_assoc (leaf k t f) g h = ap (leaf k t) (join_assoc f g h)
join_assoc (node k c f) g h = ap (node k c) (join_assoc f g h)

-- the text of two joined forests is the text of both
pub text_of-join : (f g : Forest) → text_of (join f g) ≡ text_of f ++ text_of g
text_of-join empty g = refl
text_of-join (leaf k t f) g = rw (text_of-join f g) (sym (append_assoc t (text_of f) (text_of g)))
text_of-join (node k c f) g = rw (text_of-join f g) (sym (append_assoc (text_of c) (text_of f) (text_of g)))

-- two joined forests have the trees of both
pub tree_count-join : (f g : Forest) → tree_count (join f g) ≡ tree_count f + tree_count g
tree_count-join empty g = omega arith
tree_count-join (leaf k t f) g = omega (arith, tree_count-join f g)
tree_count-join (node k c f) g = omega (arith, tree_count-join f g)

-- two joined forests have the elements of both
pub element_count-join : (f g : Forest) → element_count (join f g) ≡ element_count f + element_count g
element_count-join empty g = omega arith
element_count-join (leaf k t f) g = omega (arith, element_count-join f g)
element_count-join (node k c f) g = omega (arith, element_count-join f g)

-- the first trees of a forest, and those after them, are all of it
pub join_first_after : (n : ℕ) (f : Forest) → join (first_trees n f) (trees_after n f) ≡ f
join_first_after zero f = refl
join_first_after (suc n) empty = refl
join_first_after (suc n) (leaf k t f) = ap (leaf k t) (join_first_after n f)
join_first_after (suc n) (node k c f) = ap (node k c) (join_first_after n f)

-- the first `n` trees are `n` trees, if there are at least `n`
pub tree_count-first : (n : ℕ) (f : Forest) → n ≤ tree_count f → tree_count (first_trees n f) ≡ n
tree_count-first zero f h = refl
tree_count-first (suc n) empty h = omega arith
tree_count-first (suc n) (leaf k t f) h = ap suc (tree_count-first n f (omega arith))
tree_count-first (suc n) (node k c f) h = ap suc (tree_count-first n f (omega arith))
