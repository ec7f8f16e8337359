-- The children of an element are inside it.
use Rattle.std.proofs.Common.{◌≡◌, ℕ, ◌+◌, ◌≤◌, ◌<◌, [], length, map, false, ap, sym, ◌∙◌, arith}
use Rattle.{rnix_green.specs.{Tree.Tree}}
use Rattle.rnix_green.specs.{Tree.{Located, items_of, item, item_of}, Walk.{Spot, spot_at, children_of}}
use Rattle.rnix_green.proofs.{SiblingLemmas.{no_sibling}}
use Rattle.rnix_green.proofs.{PartLemmas.children_between, InsideLemmas.{leaf_holds_nothing}}

-- the element of a spot is inside `e`
pub record IsHeldBy (e : Located) (s : Spot) : Type 0 where
  pub tree : s.1.tree ≡ e.tree
  pub there : s.1.number < length (items_of s.1.tree)
  pub low : e.number < s.1.number
  pub high : s.1.number + (item_of s.1).below ≤ e.number + (item_of e).below
  pub sort : (item_of s.1).is_node ≡ s.0

-- a token has no children
pub token_childless : (t : Tree) (n : ℕ) → n < length (items_of t) → (item t n).is_node ≡ false → children_of record { tree = t; number = n } ≡ []
token_childless t n l token =
    let none = leaf_holds_nothing t n l token in
    ap (map (spot_at t)) (sym (children_between t n l) ∙ no_sibling (items_of t) (n + 1) (n + 1 + (item t n).below) (omega arith))
