-- What calls write for all strings of a text.
use Rattle.std.specs.Prelude.{ℕ, List, [], ◌∷◌, ◌++◌, length, fold, if◌then◌else◌}
use Rattle.rnix_kinds.specs.declared.kinds.SyntaxKind.TheVariants.{NODE_STRING}
use Rattle.rnix_green.specs.Equality.{same_kind}
use Rattle.rnix_green.specs.Tree.{Tree, Located, item_of}
use Rattle.rnix_green.specs.Walk.{Spot, elements_of}
use Rattle.rnix_base.specs.declared.parts.InterpolPart.{InterpolPart}
use Rattle.rnix_base.specs.declared.parts.InterpolPart.TheVariants.{Literal, Interpolation}
use Rattle.rnix.specs.StringParts.{normalized_parts}
use Rattle.rnix_c.specs.declared.all_strings.RnixStringPart.{RnixStringPart}
use Rattle.rnix_c.specs.StringCalls.{located}

-- the parts of some strings, and the concatenated texts of the literal parts
pub record Found : Type 0 where
  pub parts : List RnixStringPart
  pub text : List ℕ

abbrev pub found : List RnixStringPart → List ℕ → Found
found parts text = record { parts = parts; text = text }

-- with one more part of the string with this number: for a literal its range in the concatenated text, for an interpolation its range in the text
-- that was parsed
abbrev pub with_part : ℕ → Found → InterpolPart (List ℕ) Located → Found
with_part string before (Literal text) =
    found (before.parts ++ record { string = string; start = length before.text; end = length (before.text ++ text); is_interpolation = 0 } ∷ [])
    (before.text ++ text)
with_part string before (Interpolation node) =
    found (before.parts ++ record { string = string; start = (item_of node).start; end = (item_of node).end; is_interpolation = 1 } ∷ []) before.text

-- with the normalized parts of a node, if it is a string
abbrev pub with_node : Found → Located → Found
with_node before node = if same_kind NODE_STRING (item_of node).kind then fold (with_part node.number) before (normalized_parts node) else before

-- the same for an element
abbrev pub with_element : Found → Spot → Found
with_element before spot = if spot.0 then with_node before spot.1 else before

-- what is written for a tree: the normalized parts of its strings, in preorder
abbrev pub strings_in : Tree → Found
strings_in tree = fold with_element (found [] []) (elements_of (located tree 0))
