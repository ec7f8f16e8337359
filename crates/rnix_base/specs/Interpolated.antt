-- How many elements are inside the interpolations among parts.
use Rattle.std.specs.Prelude.{ℕ, suc, ◌+◌, List, [], ◌∷◌}
use Rattle.rnix_green.specs.Tree.{Located}
use Rattle.rnix_tree.specs.InsideCounts.{inside_count}
use Rattle.rnix_base.specs.declared.parts.InterpolPart.{InterpolPart}
use Rattle.rnix_base.specs.declared.parts.InterpolPart.TheVariants.{Literal, Interpolation}

-- how many elements the interpolations among parts are with what is inside them
abbrev pub parts_count : List (InterpolPart Located Located) → ℕ
parts_count [] = 0
parts_count (Literal t ∷ parts) = parts_count parts
parts_count (Interpolation i ∷ parts) = suc (inside_count i) + parts_count parts
