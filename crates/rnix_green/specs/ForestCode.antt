-- Forests encoded as lists, so that contracts can compare forests.
use Rattle.std.specs.Prelude.{◌≡◌, ℕ, List, [], ◌∷◌, ◌++◌, ◌⊎◌, refl}
use Rattle.std.proofs.Common.{inl, inr, append_assoc, ap, sym, ◌∙◌}
use Rattle.std.specs.Coded.{Coded, code_by, coded×, coded⊎, coded_ℕ, coded_list}
use Rattle.rnix_kinds.specs.declared.kinds.SyntaxKind.{SyntaxKind}
use Rattle.rnix_kinds.specs.contracts.kinds.SyntaxKind.{the_row}
use Rattle.rnix_green.specs.Forest.{Forest, empty, leaf, node, join, tree_count, first_trees, trees_after}

-- an element: its kind, and its text or the number of its children
abbrev pub Written : Type 0
Written = SyntaxKind × (List ℕ ⊎ ℕ)

-- the elements in preorder
abbrev pub written : Forest → List Written
written empty = []
written (leaf k t f) = (k, inl t) ∷ written f
written (node k c f) = (k, inr (tree_count c)) ∷ (written c ++ written f)

-- one more element in front; a node takes its children from the trees after it
abbrev pub read_before : SyntaxKind → List ℕ ⊎ ℕ → Forest → Forest
read_before k (inl t) f = leaf k t f
read_before k (inr n) f = node k (first_trees n f) (trees_after n f)

-- the forest that was written
abbrev pub read_back : List Written → Forest
read_back [] = empty
read_back ((k, e) ∷ es) = read_before k e (read_back es)

-- the first of two forests, one after the other
pub first_of_join : (f g : Forest) → first_trees (tree_count f) (join f g) ≡ f
first_of_join empty g = refl
first_of_join (leaf k t f) g = ap (leaf k t) (first_of_join f g)
first_of_join (node k c f) g = ap (node k c) (first_of_join f g)

-- the second of two forests, one after the other
pub rest_of_join : (f g : Forest) → trees_after (tree_count f) (join f g) ≡ g
rest_of_join empty g = refl
rest_of_join (leaf k t f) g = rest_of_join f g
rest_of_join (node k c f) g = rest_of_join f g

-- what was written is read, whatever follows
read_back-append : (f : Forest) (es : List Written) → read_back (written f ++ es) ≡ join f (read_back es)
read_back-append empty es = refl
read_back-append (leaf k t f) es = ap (leaf k t) (read_back-append f es)
read_back-append (node k c f) es =
    rw (
      append_assoc (written c) (written f) es,
      read_back-append c (written f ++ es),
      read_back-append f es,
      first_of_join c (join f (read_back es)),
      rest_of_join c (join f (read_back es)),
    )

-- nothing after a forest
pub join_empty : (f : Forest) → join f empty ≡ f
join_empty empty = refl
join_empty (leaf k t f) = ap (leaf k t) (join_empty f)
join_empty (node k c f) = ap (node k c) (join_empty f)

-- nothing after a list
append_nil : (xs : List Written) → xs ++ [] ≡ xs
append_nil [] = refl
append_nil (x ∷ xs) = ap (λ ys. x ∷ ys) (append_nil xs)

-- what was written is read back
pub read_back-written : (f : Forest) → read_back (written f) ≡ f
read_back-written f = ap read_back (sym (append_nil (written f))) ∙ read_back-append f [] ∙ join_empty f

-- a forest encoded as lists and numbers
abbrev pub forest_code : Coded Forest
forest_code = code_by (List Written) (coded_list (coded× the_row.coded (coded⊎ (coded_list coded_ℕ) coded_ℕ))) written read_back read_back-written
