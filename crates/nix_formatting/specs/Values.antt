-- The values of the strings of a tree.
use Rattle.std.specs.Prelude.{ℕ, ◌&&◌, Bool, true, false, List, [], ◌∷◌, ◌++◌, map, fold, if◌then◌else◌}
use Rattle.rnix_kinds.specs.declared.kinds.SyntaxKind.TheVariants.{NODE_STRING}
use Rattle.rnix_green.specs.Equality.{same_kind}
use Rattle.rnix_green.specs.Tree.{Tree, Located, item_of, text_at}
use Rattle.rnix_green.specs.Walk.{Event, preorder_of}
use Rattle.rnix_base.specs.declared.parts.InterpolPart.{InterpolPart}
use Rattle.rnix_base.specs.declared.parts.InterpolPart.TheVariants.{Literal, Interpolation}
use Rattle.rnix_base.specs.Parts.{is_indented}
use Rattle.rnix_base.specs.Normal.{Parts, with_text}
use Rattle.rnix.specs.StringParts.{string_parts, normalized_parts, value_parts}

-- the number that represents an interpolation among the bytes of a string
abbrev pub interpolation_symbol : ℕ
interpolation_symbol = 256

-- some bytes and interpolations, followed by those of one more part of a string
abbrev pub with_symbols : {I : Type 0} → List ℕ → InterpolPart (List ℕ) I → List ℕ
with_symbols symbols (Literal text) = symbols ++ text
with_symbols symbols (Interpolation i) = symbols ++ interpolation_symbol ∷ []

-- the bytes and interpolations of parts
abbrev pub symbols_of : {I : Type 0} → Parts I → List ℕ
symbols_of = fold with_symbols []

-- the parts of a string as they are written
abbrev pub written_parts : Located → Parts Located
written_parts string = map (with_text text_at) (string_parts string)

-- the value of a string: in `''` the bytes and interpolations of its normalized parts, in `"` those of its parts as they are written
abbrev pub value_of : Located → List ℕ
value_of string = if is_indented string then symbols_of (normalized_parts string) else symbols_of (written_parts string)

-- the value of a string in Nix: the bytes and interpolations of its parts
abbrev pub nix_value_of : Located → List ℕ
nix_value_of string = symbols_of (value_parts string)

-- both values of a string
abbrev pub both_values : Located → List ℕ × List ℕ
both_values string = (value_of string, nix_value_of string)

-- a value followed by others, or these alone if the flag is false
abbrev pub value_if : Bool → List ℕ → List (List ℕ) → List (List ℕ)
value_if true value values = value ∷ values
value_if false value values = values

-- the values of the strings that a walk enters, where `value` is the value of one
abbrev pub values_in : (Located → List ℕ) → List Event → List (List ℕ)
values_in value [] = []
values_in value (event ∷ events) =
    value_if (event.0 && (event.1.0 && same_kind NODE_STRING (item_of event.1.1).kind)) (value event.1.1) (values_in value events)

-- the values of all strings of a tree, in preorder
abbrev pub string_values : Tree → List (List ℕ)
string_values tree = values_in value_of (preorder_of record { tree = tree; number = 0 })

-- the values of all strings of a tree in Nix, in preorder
abbrev pub nix_string_values : Tree → List (List ℕ)
nix_string_values tree = values_in nix_value_of (preorder_of record { tree = tree; number = 0 })
