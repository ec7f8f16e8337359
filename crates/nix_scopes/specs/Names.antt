-- Names, each with the node that writes it.
use Rattle.std.specs.Prelude.{ℕ, ◌==◌, ◌||◌, Bool, List, [], ◌∷◌, Option, Some, None, flat_map, if◌then◌else◌}
use Rattle.std.specs.List.{list_any}
use Rattle.rnix_green.specs.Tree.{Located, text_at}
use Rattle.rnix_base.specs.Parts.{is_indented}
use Rattle.rnix_base.specs.declared.parts.InterpolPart.{InterpolPart}
use Rattle.rnix_base.specs.declared.parts.InterpolPart.TheVariants.{Literal}
use Rattle.rnix.specs.AttrName.{static_name}
use Rattle.rnix.specs.StringParts.{string_parts}

-- a name, and the node that writes it
pub record Named : Type 0 where
  pub text : List ℕ
  pub node : Located

-- the node with its name, if it has one
abbrev pub named_if : Located → Option (List ℕ) → List Named
named_if e None = []
named_if e (Some text) = record { text = text; node = e } ∷ []

-- the names of these attributes, where the text alone determines them
abbrev pub names_written : List Located → List Named
names_written nodes = flat_map (λ e. named_if e (static_name e)) nodes

-- a byte of a string in `"` whose value may be another byte, or none: a backslash, a quote or a carriage return
abbrev pub may_differ : ℕ → Bool
may_differ byte = byte == 92 || (byte == 34 || byte == 13)

-- the content of a string, if it has no interpolation and none of these bytes
abbrev pub plain_content : List (InterpolPart Located Located) → Option (List ℕ)
plain_content (Literal token ∷ []) = if list_any may_differ (text_at token) then None else Some (text_at token)
plain_content parts = None

-- the content of a string in `"`, if it is the string's value
abbrev pub quoted_content : Located → Option (List ℕ)
quoted_content e = if is_indented e then None else plain_content (string_parts e)
