-- A text that differs from another one also in the commas of patterns and in the marks of comments.
use Rattle.std.specs.Prelude.{◌≡◌, ◌⊎◌, ℕ, List, []}
use Rattle.rnix_kinds.specs.Lexical.Tokens.{tokens_of}
use Rattle.rnix_green.specs.Tree.{Tree, forest_of}
use Rattle.rnix_grammar.specs.Reading.{IsReading}
use Rattle.nix_formatting.specs.Outline.{outline}
use Rattle.nix_formatting.specs.Reindented.{IsReformatted}
use Rattle.nix_formatting.specs.Values.{string_values, nix_string_values}
use Rattle.nix_formatting.specs.WithoutCommas.{without_commas}

-- both texts have no errors; their trees are the same except for white space, commas, the contents of strings, and the marks of comments and the blanks
-- beside these: each comment has the same contents, between the same other tokens; and the values of strings are the same as in `IsReindented`
pub record IsRetokened (old new : List ℕ) : Type 0 where
  pub before : Tree
  pub after : Tree
  pub old_read : IsReading (tokens_of old) before []
  pub new_read : IsReading (tokens_of new) after []
  pub trees : without_commas (outline (forest_of after)) ≡ without_commas (outline (forest_of before))
  pub values : string_values after ≡ string_values before
  pub nix_values : nix_string_values after ≡ nix_string_values before

-- the new text differs from the old one in white space and in the indentation of strings in `''`, or also in the commas of patterns and the marks of comments
abbrev pub IsFormatted : List ℕ → List ℕ → Type 0
IsFormatted old new = IsReformatted old new ⊎ IsRetokened old new
