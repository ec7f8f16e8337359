-- What calls write for strings.
use Rattle.std.specs.Prelude.{◌≡◌, ◌⊎◌, ℕ, ℤ, ◌+◌, ◌-◌, ◌^◌, min, List, [], ◌∷◌, length}
use Rattle.std.specs.List.{flat_map}
use Rattle.rnix_kinds.specs.declared.kinds.SyntaxKind.TheVariants.{NODE_STRING}
use Rattle.rnix_green.specs.Tree.{Tree, Located, item_of, IsNodeAt}
use Rattle.rnix_base.specs.declared.parts.InterpolPart.{InterpolPart}
use Rattle.rnix_base.specs.declared.parts.InterpolPart.TheVariants.{Literal, Interpolation}
use Rattle.rnix_base.specs.Normal.{Parts}
use Rattle.rnix.specs.StringParts.{normalized_parts}
use Rattle.rnix_c.specs.declared.strings.RnixPart.{RnixPart}
use Rattle.rnix_c.specs.Answers.{none_such, IsWritten}

-- the element with a number
abbrev pub located : Tree → ℕ → Located
located tree number = record { tree = tree; number = number }

-- the element exists and is a string
abbrev pub IsString : Located → Type 0
IsString element = IsNodeAt element × ((item_of element).kind ≡ NODE_STRING)

-- no string has this number, or its items are written
abbrev pub WritesString : {A : Type 0} → (Located → List A) → Tree → ℕ → ℤ → List A → List A → Type 0
WritesString items tree number answer old new =
    ((answer ≡ none_such) × ¬ IsString (located tree number) × (new ≡ old))
    ⊎ (IsString (located tree number) × IsWritten (items (located tree number)) answer old new)

-- the text of a part; an interpolation has none
abbrev pub literal_text : InterpolPart (List ℕ) Located → List ℕ
literal_text (Literal text) = text
literal_text (Interpolation node) = []

-- the concatenated texts of a string's normalized parts
abbrev pub string_text : Located → List ℕ
string_text string = flat_map literal_text (normalized_parts string)

-- the end of a string's text after one more part, given its end before the part; an offset is at most the largest number of 64 bits
abbrev pub end_after : ℕ → InterpolPart (List ℕ) Located → ℕ
end_after before (Literal text) = min (before + length text) (2 ^ 64 - 1)
end_after before (Interpolation node) = before

-- what is written for a part: for a literal its range in the string's text, for an interpolation its range in the text that was parsed
abbrev pub part_at : ℕ → InterpolPart (List ℕ) Located → RnixPart
part_at before (Literal text) = record { start = before; end = end_after before (Literal text); is_interpolation = 0 }
part_at before (Interpolation node) = record { start = (item_of node).start; end = (item_of node).end; is_interpolation = 1 }

-- what is written for some parts, given the end of the string's text before them
abbrev pub parts_from : ℕ → Parts Located → List RnixPart
parts_from before [] = []
parts_from before (part ∷ parts) = part_at before part ∷ parts_from (end_after before part) parts

-- what is written for a string: each of its normalized parts
abbrev pub parts_written : Located → List RnixPart
parts_written string = parts_from 0 (normalized_parts string)
