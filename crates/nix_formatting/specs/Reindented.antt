-- A text that differs from another one only in white space and in the indentation of its strings in `''`.
use Rattle.std.specs.Prelude.{◌≡◌, ◌⊎◌, ℕ, List, []}
use Rattle.rnix_kinds.specs.Lexical.Tokens.{tokens_of}
use Rattle.rnix_green.specs.Tree.{Tree, forest_of}
use Rattle.rnix_grammar.specs.Reading.{IsReading}
use Rattle.nix_formatting.specs.SpaceChange.{IsSpaceChange}
use Rattle.nix_formatting.specs.Outline.{outline}
use Rattle.nix_formatting.specs.Values.{string_values, nix_string_values}

-- both texts have no errors; their trees, comments included, are the same except for white space and the contents of strings; the contents of
-- strings in `''` have the same normalized parts, empty texts aside, and those of strings in `"` are the same; and all strings have the same values as
-- Nix makes them
pub record IsReindented (old new : List ℕ) : Type 0 where
  pub before : Tree
  pub after : Tree
  pub old_read : IsReading (tokens_of old) before []
  pub new_read : IsReading (tokens_of new) after []
  pub trees : outline (forest_of after) ≡ outline (forest_of before)
  pub values : string_values after ≡ string_values before
  pub nix_values : nix_string_values after ≡ nix_string_values before

-- the new text differs from the old one only in white space, or also in the indentation of strings in `''`
abbrev pub IsReformatted : List ℕ → List ℕ → Type 0
IsReformatted old new = IsSpaceChange old new ⊎ IsReindented old new
