-- The parts of strings and paths.
use Rattle.std.specs.Prelude.{ℕ, Bool, true, false, List, [], ◌∷◌, map, Option, Some, None, if◌then◌else◌}
use Rattle.rnix_kinds.specs.declared.kinds.SyntaxKind.TheVariants as k
use Rattle.rnix_green.specs.Equality.{same_kind}
use Rattle.rnix_green.specs.Tree.{Located, text_at}
use Rattle.rnix_base.specs.declared.parts.InterpolPart.{InterpolPart}
use Rattle.rnix_base.specs.declared.parts.InterpolPart.TheVariants.{Literal}
use Rattle.rnix_base.specs.Kinds.{is_path_token}
use Rattle.rnix_base.specs.Select.{token_of}
use Rattle.rnix_base.specs.Parts.{parts_below, is_indented}
use Rattle.rnix_base.specs.Normal.{Parts, with_text, indented_parts, quoted_parts}
use Rattle.rnix_base.specs.Value.{indented_value, quoted_value}
use Rattle.rnix.specs.declared.ast.attributes.Path.{Path}
use Rattle.rnix.specs.declared.ast.attributes.Path.TheVariants as path

-- the parts of a string: its contents and its interpolations, in order
abbrev pub string_parts : Located → List (InterpolPart Located Located)
string_parts = parts_below (same_kind k.TOKEN_STRING_CONTENT) (same_kind k.NODE_INTERPOL)

-- the same parts, normalized
abbrev pub normalized_parts : Located → Parts Located
normalized_parts string =
    if is_indented string
    then indented_parts (map (with_text text_at) (string_parts string))
    else quoted_parts (map (with_text text_at) (string_parts string))

-- the parts of the value of a string as Nix makes it
abbrev pub value_parts : Located → Parts Located
value_parts string =
    if is_indented string
    then indented_value (map (with_text text_at) (string_parts string))
    else quoted_value (map (with_text text_at) (string_parts string))

-- the text of parts, if that is all that they have
abbrev pub only_text : {I : Type 0} → Parts I → Option (List ℕ)
only_text [] = Some []
only_text (Literal text ∷ []) = Some text
only_text parts = None

-- the value of a string without interpolations
abbrev pub plain_value : Located → Option (List ℕ)
plain_value string = only_text (value_parts string)

-- the parts of a path that may have interpolations, in order
abbrev pub path_parts : Located → List (InterpolPart Located Located)
path_parts = parts_below is_path_token (same_kind k.NODE_INTERPOL)

-- one literal, if there is one
abbrev pub one_literal : Option Located → List (InterpolPart Located Located)
one_literal None = []
one_literal (Some token) = Literal token ∷ []

-- the parts of a path of any kind
abbrev pub parts_of_path : Path → List (InterpolPart Located Located)
parts_of_path (path.PathAbs n) = path_parts n
parts_of_path (path.PathRel n) = path_parts n
parts_of_path (path.PathHome n) = path_parts n
parts_of_path (path.PathSearch n) = one_literal (token_of is_path_token n)

-- a path that is searched for
abbrev pub is_search : Path → Bool
is_search (path.PathSearch n) = true
is_search _ = false
