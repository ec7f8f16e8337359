-- The selected children of a node are in the node's tree.
use Rattle.std.proofs.{Common.{◌≡◌, ℕ, Bool, true, false, List, [], ◌∷◌, map, Option, Some, None, refl, subst}, lemmas.List.Elements.{All-nil, All-cons}}
use Rattle.std.{proofs.lemmas.{List.Elements.All-filter, Option.{slice_get_within, get_or_from_slice_get}}, specs.Prelude.{if◌then◌else◌, All, IfSome}}
use Rattle.{rnix_kinds.specs.declared.kinds.SyntaxKind.SyntaxKind, rnix_green.specs.{Tree.{Tree, Located, item}, Walk.{spot_at, nodes_in}}}
use Rattle.rnix_base.specs.Select.{has_kind, nodes_of, child_of}

-- an element of a tree
abbrev IsIn : Tree → Located → Type 0
IsIn t e = e.tree ≡ t

nodes_stay : (t : Tree) (ns : List ℕ) → All (IsIn t) (nodes_in (map (spot_at t) ns))
nodes_stay t [] = All-nil (IsIn t)
nodes_stay t (n ∷ ns) = case_node (item t n).is_node (nodes_stay t ns) where
  case_node : (b : Bool) → All (IsIn t) (nodes_in (map (spot_at t) ns)) →
      All (IsIn t) (if b then record { tree = t; number = n } ∷ nodes_in (map (spot_at t) ns) else nodes_in (map (spot_at t) ns))
  case_node true h = All-cons (IsIn t) _ _ refl h
  case_node false h = h

-- the selected children
pub children_stay : (n : Located) (kinds : SyntaxKind → Bool) → All (λ c. c.tree ≡ n.tree) (nodes_of kinds n)
children_stay n kinds = All-filter (has_kind kinds) (IsIn n.tree) _ (nodes_stay n.tree _)

some_stays : (n : Located) (kinds : SyntaxKind → Bool) (number : ℕ) (c : Option Located) → child_of kinds number n ≡ c → IfSome c (λ c. c.tree ≡ n.tree)
some_stays n kinds number None e = tt
some_stays n kinds number (Some c) e =
    subst (IsIn n.tree) (get_or_from_slice_get (nodes_of kinds n) number c c e)
    (children_stay n kinds number c (slice_get_within (nodes_of kinds n) number c e))

-- the selected child with a number
pub child_stays : (n : Located) (kinds : SyntaxKind → Bool) (number : ℕ) → IfSome (child_of kinds number n) (λ c. c.tree ≡ n.tree)
child_stays n kinds number = some_stays n kinds number _ refl
