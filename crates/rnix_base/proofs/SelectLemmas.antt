-- The number of selected children.
use Rattle.std.proofs.{Common.{◌<◌, ◌≤◌, ◌^◌, suc, Bool, true, false, List, [], ◌∷◌, length, arith}, lemmas.List.Sums.{length-filter, count_by-le-length}}
use Rattle.{std.specs.Prelude.if◌then◌else◌, rnix_kinds.specs.declared.kinds.SyntaxKind.SyntaxKind, rnix_green.specs.{Tree.Located, Walk.Spot}}
use Rattle.rnix_base.specs.{declared.parts.InterpolPart.TheVariants.{Literal, Interpolation}, Select.{has_kind, those_of}, Parts.parts_of}

-- at most as many elements have certain kinds as there are
pub those_fit : (kinds : SyntaxKind → Bool) (elements : List Located) → length elements < 2 ^ 64 → length (those_of kinds elements) < 2 ^ 64
those_fit kinds elements h = omega (arith, h, length-filter (has_kind kinds) elements, count_by-le-length (has_kind kinds) elements)

parts_most : (literals interpolations : SyntaxKind → Bool) (spots : List Spot) → length (parts_of literals interpolations spots) ≤ length spots
parts_most literals interpolations [] = omega arith
parts_most literals interpolations (spot ∷ spots) =
    case_spot spot.0 (has_kind interpolations spot.1) (has_kind literals spot.1) (parts_most literals interpolations spots) where
      case_spot : (node interpolation literal : Bool) → length (parts_of literals interpolations spots) ≤ length spots
          → length (if node then (if interpolation then Interpolation spot.1
          ∷ parts_of literals interpolations spots else parts_of literals interpolations spots) else (if literal then Literal spot.1
          ∷ parts_of literals interpolations spots else parts_of literals interpolations spots)) ≤ suc (length spots)
      case_spot true true literal h = omega arith
      case_spot true false literal h = omega arith
      case_spot false interpolation true h = omega arith
      case_spot false interpolation false h = omega arith

-- there are at most as many parts as spots
pub parts_fit : (literals interpolations : SyntaxKind → Bool) (spots : List Spot) → length spots < 2 ^ 64
    → length (parts_of literals interpolations spots) < 2 ^ 64
parts_fit literals interpolations spots h = omega (arith, h, parts_most literals interpolations spots)
