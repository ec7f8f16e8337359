-- The parts of a string or of a path, selected among the children of its node.
use Rattle.std.specs.Prelude.{ℕ, Bool, false, if◌then◌else◌, bytes_eq, codes, List, [], ◌∷◌, map}
use Rattle.rnix_kinds.specs.declared.kinds.SyntaxKind.{SyntaxKind}
use Rattle.rnix_green.specs.Tree.{Located, text_at}
use Rattle.rnix_green.specs.Walk.{Spot, children_of}
use Rattle.rnix_base.specs.declared.parts.InterpolPart.{InterpolPart}
use Rattle.rnix_base.specs.declared.parts.InterpolPart.TheVariants.{Literal, Interpolation}
use Rattle.rnix_base.specs.Select.{has_kind, tokens_in}

-- a part whose text and whose interpolation are seen as something else
abbrev pub part_of : {S T I J : Type 0} → (S → T) → (I → J) → InterpolPart S I → InterpolPart T J
part_of text interpolation (Literal t) = Literal (text t)
part_of text interpolation (Interpolation i) = Interpolation (interpolation i)

-- the parts among elements: tokens of the first kinds, and nodes of the other ones
abbrev pub parts_of : (SyntaxKind → Bool) → (SyntaxKind → Bool) → List Spot → List (InterpolPart Located Located)
parts_of literals interpolations [] = []
parts_of literals interpolations (spot ∷ spots) =
    if spot.0
    then (if has_kind interpolations spot.1 then Interpolation spot.1 ∷ parts_of literals interpolations spots else parts_of literals interpolations spots)
    else (if has_kind literals spot.1 then Literal spot.1 ∷ parts_of literals interpolations spots else parts_of literals interpolations spots)

-- the parts right below a node, in order
abbrev pub parts_below : (SyntaxKind → Bool) → (SyntaxKind → Bool) → Located → List (InterpolPart Located Located)
parts_below literals interpolations parent = parts_of literals interpolations (children_of parent)

-- the same parts, with the texts of the tokens
abbrev pub texts_below : (SyntaxKind → Bool) → (SyntaxKind → Bool) → Located → List (InterpolPart (List ℕ) Located)
texts_below literals interpolations parent = map (part_of text_at (λ i. i)) (parts_below literals interpolations parent)

-- whether the first of these tokens is `''`
abbrev pub opens_indented : List Located → Bool
opens_indented [] = false
opens_indented (token ∷ tokens) = bytes_eq (text_at token) (codes "''")

-- whether the first token right below a node is `''`
abbrev pub is_indented : Located → Bool
is_indented parent = opens_indented (tokens_in (children_of parent))
