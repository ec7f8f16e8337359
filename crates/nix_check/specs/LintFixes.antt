-- Fixes of what lints find: each is a replacement that a finding proposes, after which the text has no errors, its names mean the same, and less is found.
use Rattle.std.specs.Prelude.{◌≡◌, ℕ, ◌+◌, ◌<◌, Bool, List, [], length, map, slice_get, Option, Some, string_bytes}
use Rattle.rnix_kinds.specs.Lexical.Tokens.{tokens_of}
use Rattle.rnix_green.specs.Tree.{Located}
use Rattle.rnix_grammar.specs.Parsed.{IsParsed}
use Rattle.rnix.specs.ParseResult.{Reading, root_of}
use Rattle.nix_diagnostics.specs.declared.replacement.Replacement.{Replacement}
use Rattle.nix_fixes.specs.Fixes.{spliced, new_text}
use Rattle.nix_scopes.specs.{Scopes.{Bound, Resolved}, Resolved.{bindings_in, resolved_in}}
use Rattle.nix_lints.specs.{Found.found_of, Items.{finding, AreFindings}}
use Rattle.nix_lints.specs.declared.finding.Finding.{Finding}
use Rattle.nix_check.specs.declared.lint_fixes.Linted.{Linted}

-- a name, the number of the binding that it refers to, and whether it may come from a `with`
abbrev pub meaning_of : Resolved → List ℕ × (Option ℕ × Bool)
meaning_of name = (name.text, (name.binding, name.is_open))

-- the names that a text binds
abbrev pub texts_of : List Bound → List (List ℕ)
texts_of = map (λ (bound : Bound). bound.text)

-- two texts bind the same names, and the same names refer to them, in the same order
pub record KeepNames (old new : Located) : Type 0 where
  pub bindings : texts_of (bindings_in new) ≡ texts_of (bindings_in old)
  pub references : map meaning_of (resolved_in new) ≡ map meaning_of (resolved_in old)

-- a text without errors, and what the lints find in it
pub record IsLinted (disabled : List (List ℕ)) (linted : Linted) : Type 0 where
  pub is_read : IsParsed (tokens_of (string_bytes linted.made)) linted.read.tree linted.read.faults
  pub none : linted.read.faults ≡ []
  pub found : AreFindings disabled (root_of linted.read) (map finding (map found_of linted.found.items))

-- a finding of a list proposes a replacement
pub record Proposes (found : List Finding) (replacement : Replacement) : Type 0 where
  pub number : ℕ
  pub finding : Finding
  pub there : slice_get found number ≡ Some finding
  pub proposed : finding.replacement ≡ Some replacement

-- the names of two texts mean the same, and less is found in the second
pub record IsBetter (old new : Linted) : Type 0 where
  pub names : KeepNames (root_of old.read) (root_of new.read)
  pub fewer : length new.found.items < length old.found.items

-- a text becomes another one by a replacement that a finding proposes
pub record IsLintFix (old new : Linted) : Type 0 where
  pub replacement : Replacement
  pub proposed : Proposes old.found.items replacement
  pub is : string_bytes new.made
      ≡ spliced (string_bytes old.made) replacement.range.start replacement.range.end (new_text (string_bytes old.made) replacement)
  pub better : IsBetter old new

-- a text becomes another one by a number of such replacements, one after another
pub data IsLintFixed (disabled : List (List ℕ)) (text : List ℕ) : ℕ → List ℕ → Type 0 where
  unchanged : IsLintFixed disabled text 0 text
  once_more : (fixes : ℕ) (old new : Linted) → IsLintFixed disabled text fixes (string_bytes old.made) → IsLinted disabled old → IsLinted disabled new →
      IsLintFix old new → IsLintFixed disabled text (fixes + 1) (string_bytes new.made)
