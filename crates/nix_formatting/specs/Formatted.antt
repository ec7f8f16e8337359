-- The results of formatting a text.
use Rattle.std.specs.Prelude.{◌≡◌, ℕ, List, [], string_bytes}
use Rattle.rnix_kinds.specs.Lexical.Tokens.{tokens_of}
use Rattle.rnix_green.specs.Tree.{Tree}
use Rattle.rnix_grammar.specs.Fault.{Fault}
use Rattle.rnix_grammar.specs.Reading.{IsReading}
use Rattle.nix_formatting.specs.Reindented.{IsReformatted}
use Rattle.nix_formatting.specs.Retokened.{IsRetokened}
use Rattle.nix_formatting.specs.declared.formatting.Formatting.{Formatting}
use Rattle.nix_formatting.specs.declared.formatting.Formatting.TheVariants as formatting

-- the text has no errors
abbrev pub IsWithoutErrors : List ℕ → Type 0
IsWithoutErrors text = (tree : Tree) × IsReading (tokens_of text) tree []

-- the text has errors
pub record IsWithErrors (text : List ℕ) : Type 0 where
  pub tree : Tree
  pub faults : List Fault
  pub read : IsReading (tokens_of text) tree faults
  pub some : ¬ (faults ≡ [])

-- the result is correct: a formatted text differs only in white space and in the indentation of strings in `''`, a retokened one also in the commas of
-- patterns and the marks of comments, and the text has errors exactly if the result is `HasErrors`
abbrev pub IsOutcome : List ℕ → Formatting → Type 0
IsOutcome text (formatting.Formatted made) = IsReformatted text (string_bytes made)
IsOutcome text (formatting.Retokened made) = IsRetokened text (string_bytes made)
IsOutcome text formatting.HasErrors = IsWithErrors text
IsOutcome text formatting.Refused = IsWithoutErrors text
