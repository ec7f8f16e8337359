-- Fixes that were tried.
use Rattle.std.specs.Prelude.{◌≡◌, ℕ, ◌<◌, List, length, string_bytes}
use Rattle.rnix_kinds.specs.Lexical.Tokens.{tokens_of}
use Rattle.rnix_grammar.specs.Parsed.{IsParsed}
use Rattle.nix_fixes.specs.declared.tried.Tried.{Tried}
use Rattle.nix_fixes.specs.Fixes.{text_with, IsOfCharacters}

-- a fix replaces characters of a text, and the text with it, which was parsed, has fewer errors than a number
pub record IsTried (text : List ℕ) (errors : ℕ) (tried : Tried) : Type 0 where
  pub characters : IsOfCharacters text tried.fix.range
  pub made : string_bytes tried.made ≡ text_with text tried.fix
  pub is_read : IsParsed (tokens_of (string_bytes tried.made)) tried.read.tree tried.read.faults
  pub fewer : length tried.read.faults < errors
