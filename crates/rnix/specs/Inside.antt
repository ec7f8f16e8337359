-- How many elements are inside others: what the measures and invariants of a recursion over the tree cite.
use Rattle.std.specs.Prelude.{ℕ, List}
use Rattle.rnix_kinds.specs.declared.kinds.SyntaxKind.TheVariants as k
use Rattle.rnix_green.specs.Equality.{same_kind}
use Rattle.rnix_green.specs.Walk.{Spot}
use Rattle.rnix_base.specs.Parts.{parts_of}
use Rattle.rnix_base.specs.Interpolated.{parts_count}
pub use Rattle.rnix_tree.specs.InsideCounts.{inside_count, nodes_count, spots_count}
pub use Rattle.rnix_base.specs.Select.{those_of}

-- how many elements the interpolations of a string, among elements, are with what is inside them
abbrev pub interpolations_count : List Spot → ℕ
interpolations_count spots = parts_count (parts_of (same_kind k.TOKEN_STRING_CONTENT) (same_kind k.NODE_INTERPOL) spots)
