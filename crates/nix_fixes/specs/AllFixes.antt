-- All fixes of a text, one after another.
use Rattle.std.specs.Prelude.{◌≡◌, ℕ, ◌+◌, ◌-◌, ◌≤◌, false, List, length, map, take, slice_get, Some}
use Rattle.std.specs.List.{All}
use Rattle.rnix_kinds.specs.Lexical.Tokens.{tokens_of}
use Rattle.rnix_grammar.specs.Parsed.{IsParsed}
use Rattle.rnix.specs.ParseResult.{Reading, root_of}
use Rattle.nix_diagnostics.specs.Mistakes.{mistake_of, mistakes}
use Rattle.nix_diagnostics.specs.declared.diagnostic.Diagnostic.{Diagnostic}
use Rattle.nix_fixes.specs.declared.fix.Fix.{Fix}
use Rattle.nix_fixes.specs.Fixes.{text_with, HaveNoFix, IsFix, IsFirstFix}

-- a text has this number of errors, and these are the diagnostics of its mistakes
pub record AreOfText (text : List ℕ) (errors : ℕ) (found : List Diagnostic) : Type 0 where
  pub read : Reading
  pub is_read : IsParsed (tokens_of text) read.tree read.faults
  pub count : length read.faults ≡ errors
  pub mistakes_are : map mistake_of found ≡ mistakes false (root_of read) read.faults

-- no note of these diagnostics has a replacement that helps
abbrev pub HaveNoFixes : List ℕ → ℕ → List Diagnostic → Type 0
HaveNoFixes text errors found = All (λ (d : Diagnostic). HaveNoFix text errors d.notes.items) found

-- a fix is the first one of the diagnostic with a number, and those before it have none
pub record IsFixAt (text : List ℕ) (errors : ℕ) (found : List Diagnostic) (number : ℕ) (fix : Fix) : Type 0 where
  pub diagnostic : Diagnostic
  pub there : slice_get found number ≡ Some diagnostic
  pub none : HaveNoFixes text errors (take number found)
  pub first : IsFirstFix text errors diagnostic.notes.items fix

-- a text becomes another one by the fix of its first diagnostic that has one, the one with a number; the new text has fewer errors
pub record IsFixedOnce (old new : List ℕ) (number : ℕ) : Type 0 where
  pub errors : ℕ
  pub found : List Diagnostic
  pub are : AreOfText old errors found
  pub fix : Fix
  pub first : IsFixAt old errors found number fix
  pub fixes : IsFix old errors fix
  pub is : new ≡ text_with old fix

-- a text becomes another one by a number of fixes, one after another, for which a number of diagnostics were tried
pub data IsFixed (text : List ℕ) : ℕ → ℕ → List ℕ → Type 0 where
  unchanged : IsFixed text 0 0 text
  once_more : (fixes tried number : ℕ) (old new : List ℕ) → IsFixed text fixes tried old → IsFixedOnce old new number →
      IsFixed text (fixes + 1) (tried + (number + 1)) new

-- none of the first `most` diagnostics of a text has a fix
pub record HasNoMore (text : List ℕ) (errors most : ℕ) : Type 0 where
  pub found : List Diagnostic
  pub are : AreOfText text errors found
  pub none : HaveNoFixes text errors (take most found)

-- a text becomes another one by a number of fixes; there no diagnostic has a fix, as far as diagnostics could be tried, at most `most` in all
pub record IsFixedUpTo (most : ℕ) (text : List ℕ) (fixes : ℕ) (new : List ℕ) (errors : ℕ) : Type 0 where
  pub tried : ℕ
  pub within : tried ≤ most
  pub fixed : IsFixed text fixes tried new
  pub end : HasNoMore new errors (most - tried)
