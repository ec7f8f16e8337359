-- A text while fixes are applied to it.
use Rattle.std.specs.Prelude.{◌+◌, ◌<◌, ◌≤◌, List, ℕ, length, string_bytes}
use Rattle.rnix_kinds.specs.Lexical.Tokens.{tokens_of}
use Rattle.rnix_grammar.specs.Parsed.{IsParsed}
use Rattle.nix_fixes.specs.declared.all_fixes.Progress.{Progress}
use Rattle.nix_fixes.specs.declared.all_fixes.Found.{Found}
use Rattle.nix_fixes.specs.Fixes.{HasNoFewer}
use Rattle.nix_fixes.specs.AllFixes.{IsFixedOnce, IsFixed}
use Rattle.nix_fixes.specs.Tries.{IsTried}

-- a text so far: it comes from the old text by a number of fixes, it was parsed, and the old text has at least one error more for each fix
pub record IsProgress (text : List ℕ) (p : Progress) : Type 0 where
  pub fixed : IsFixed text p.fixes p.tried (string_bytes p.made)
  pub is_read : IsParsed (tokens_of (string_bytes p.made)) p.read.tree p.read.faults
  pub fewer : HasNoFewer text (length p.read.faults + p.fixes)

-- the next fix of a text that was parsed, among at most `most` diagnostics
pub record IsNextFix (p : Progress) (most : ℕ) (f : Found) : Type 0 where
  pub within : f.number < most
  pub tried : IsTried (string_bytes p.made) (length p.read.faults) f.tried
  pub once : IsFixedOnce (string_bytes p.made) (string_bytes f.tried.made) f.number
