-- Selected children, with the elements inside them, are no more than the elements inside their parent.
use Rattle.std.{proofs.Common.{◌≡◌, ℕ, zero, suc, ◌≤◌, ◌<◌, List, [], ◌∷◌, Bool, true, false, Option, Some, ap, arith}, specs.Prelude.{if◌then◌else◌, filter}}
use Rattle.{std.specs.Prelude.slice_get, rnix_kinds.specs.declared.kinds.SyntaxKind.SyntaxKind, rnix_green.specs.{Tree.Located, Walk.{Spot, nodes_in}}}
use Rattle.{rnix_green.specs.Walk.children_of, rnix_tree.{specs.InsideCounts.{inside_count, nodes_count, spots_count, count_if}, proofs.CountsInside.children_fit}}
use Rattle.{rnix_tree.proofs.CountsInside.child_nodes_fit, rnix_base.specs.{declared.parts.InterpolPart.TheVariants.{Literal, Interpolation}, Select.has_kind}}
use Rattle.rnix_base.specs.{Select.{nodes_of, child_of}, Parts.parts_of, Interpolated.parts_count}

-- some of the nodes, with the elements inside them, are no more than all of them with theirs
filter_fits : (test : Located → Bool) (es : List Located) → nodes_count (filter test es) ≤ nodes_count es
filter_fits test [] = omega arith
filter_fits test (e ∷ es) = case_test (test e) (filter_fits test es) where
  case_test : (b : Bool) → nodes_count (filter test es) ≤ nodes_count es
      → nodes_count (if b then e ∷ filter test es else filter test es) ≤ nodes_count (e ∷ es)
  case_test true h = omega arith
  case_test false h = omega arith

-- one of the nodes, with the elements inside it, is no more than all of them with theirs
one_fits : (es : List Located) (number : ℕ) → count_if (slice_get es number) ≤ nodes_count es
one_fits [] number = omega arith
one_fits (e ∷ es) zero = omega arith
one_fits (e ∷ es) (suc number) = omega (arith, one_fits es number)

-- the selected children, with the elements inside them, are no more than the elements inside the parent
pub selected_fit : (kinds : SyntaxKind → Bool) (parent : Located) → nodes_count (nodes_of kinds parent) ≤ inside_count parent
selected_fit kinds parent =
    omega (arith, child_nodes_fit parent, filter_fits (has_kind kinds) (nodes_in (children_of parent)))

-- the selected child with a number contains fewer elements than the parent
pub child_fits : (kinds : SyntaxKind → Bool) (number : ℕ) (child parent : Located)
    → child_of kinds number parent ≡ Some child → inside_count child < inside_count parent
child_fits kinds number child parent h =
    omega (arith, selected_fit kinds parent, one_fits (nodes_of kinds parent) number, ap count_if h)

-- the selected child with a number, if there is one, with the elements inside it, is no more than the elements inside the parent
pub child_falls : (kinds : SyntaxKind → Bool) (number : ℕ) (parent : Located) (child : Option Located)
    → child ≡ child_of kinds number parent → count_if child ≤ inside_count parent
child_falls kinds number parent child h =
    omega (arith, selected_fit kinds parent, one_fits (nodes_of kinds parent) number, ap count_if h)

parts_among : (literals interpolations : SyntaxKind → Bool) (spots : List Spot) → parts_count (parts_of literals interpolations spots) ≤ spots_count spots
parts_among literals interpolations [] = omega arith
parts_among literals interpolations (spot ∷ spots) =
    case_spot spot.0 (has_kind interpolations spot.1) (has_kind literals spot.1) (parts_among literals interpolations spots) where
      case_spot : (node interpolation literal : Bool) → parts_count (parts_of literals interpolations spots) ≤ spots_count spots
          → parts_count (if node then (if interpolation then Interpolation spot.1
          ∷ parts_of literals interpolations spots else parts_of literals interpolations spots) else (if literal then Literal spot.1
          ∷ parts_of literals interpolations spots else parts_of literals interpolations spots)) ≤ spots_count (spot ∷ spots)
      case_spot true true literal h = omega arith
      case_spot true false literal h = omega arith
      case_spot false interpolation true h = omega arith
      case_spot false interpolation false h = omega arith

-- the interpolations among the parts of a node, with the elements inside them, are no more than the elements inside the node
pub parts_fit : (literals interpolations : SyntaxKind → Bool) (parent : Located)
    → parts_count (parts_of literals interpolations (children_of parent)) ≤ inside_count parent
parts_fit literals interpolations parent =
    omega (arith, children_fit parent, parts_among literals interpolations (children_of parent))
