-- The parts of strings without the contents of their interpolations.
use Rattle.std.specs.Prelude.{ℕ, List, map}
use Rattle.rnix_kinds.specs.declared.kinds.SyntaxKind.TheVariants.{NODE_INTERPOL, TOKEN_STRING_CONTENT}
use Rattle.rnix_green.specs.Equality.{same_kind}
use Rattle.rnix_green.specs.Tree.{Located, text_at}
use Rattle.rnix_green.specs.Walk.{Spot}
use Rattle.rnix_base.specs.declared.parts.InterpolPart.{InterpolPart}
use Rattle.rnix_base.specs.Normal.{Parts, with_text}
use Rattle.rnix_base.specs.Parts.{part_of, parts_of}

-- a part of a string with 0 in place of its interpolation
abbrev pub bare : {I : Type 0} → InterpolPart (List ℕ) I → InterpolPart (List ℕ) ℕ
bare = part_of (λ text. text) (λ i. 0)

-- the parts with 0 in place of each interpolation
abbrev pub bare_parts : {I : Type 0} → Parts I → Parts ℕ
bare_parts = map bare

-- the parts of a string, given its children
abbrev pub parts_among : List Spot → List (InterpolPart Located Located)
parts_among = parts_of (same_kind TOKEN_STRING_CONTENT) (same_kind NODE_INTERPOL)

-- these parts as they are written, with 0 in place of each interpolation
abbrev pub bare_among : List Spot → Parts ℕ
bare_among spots = bare_parts (map (with_text text_at) (parts_among spots))
