-- Fixing files: the output for each, the counts over all files, and the exit status. A text is the list of its bytes.
use Rattle.std.specs.Prelude.{◌≡◌, ℕ, ◌==◌, false, List, [], ◌++◌, codes, decimal, map, Option, Some, None, if◌then◌else◌, string_bytes}
use Rattle.std.specs.{Str.bytes_eq, Io.KnownBytes.{Appends, Keeps}}
use Rattle.nix_cli.specs.{KnownTexts.{KnownTexts, Agrees}, MessageLocations.display_name}
use Rattle.nix_fixes.specs.AllFixes.{IsFixedUpTo}
use Rattle.nix_check.specs.declared.fixing.TheConstants.{MAX_TRIED}
use Rattle.nix_check.specs.declared.style.Style.{Style}
use Rattle.nix_check.specs.declared.tally.{Tally.Tally, Counts.Counts}
use Rattle.nix_check.specs.{Tallies.{plus, with_counts, with_unread, status_of, AreTallied}, PrintedFindings.IsChecked, LintFixes.IsLintFixed}

-- the line with the number of fixes of a file, if it has some
abbrev pub fixes_line : List ℕ → ℕ → List ℕ
fixes_line name fixes =
    if fixes == 0 then [] else (if fixes == 1 then name ++ codes ": 1 fix\n" else name ++ codes ": " ++ decimal fixes ++ codes " fixes\n")

-- the names of the lints that are left out
abbrev pub disabled_by : Style → List (List ℕ)
disabled_by style = map string_bytes style.disabled.now

-- a text is fixed: its errors, up to the greatest number of diagnostics that are tried, and then what lints find in it
pub record IsFixOf (disabled : List (List ℕ)) (text : List ℕ) (fixes : ℕ) (made : List ℕ) : Type 0 where
  pub mid : List ℕ
  pub of_errors : ℕ
  pub of_lints : ℕ
  pub errors : ℕ
  pub fixed : IsFixedUpTo MAX_TRIED text of_errors mid errors
  pub linted : IsLintFixed disabled mid of_lints made
  pub sum : fixes ≡ plus of_errors of_lints

-- a text is fixed: the number of fixes is written, and the new text is checked
pub record IsTextFixed (style : Style) (name text : List ℕ) (old new : Option (List ℕ)) (remaining : Counts) : Type 0 where
  pub made : List ℕ
  pub fixes : ℕ
  pub fixed : IsFixOf (disabled_by style) text fixes made
  pub mid : Option (List ℕ)
  pub line : Appends old mid (fixes_line name fixes)
  pub checked : IsChecked style name made 0 mid new remaining

-- a file is fixed, and the remaining errors are counted
pub data IsFileFixed (style : Style) (texts : KnownTexts) (file : List ℕ) (before : Tally) (old new : Option (List ℕ)) (after : Tally) : Type 0 where
  -- it cannot be read
  unread : Agrees (texts file) None → Keeps old new → after ≡ with_unread before → IsFileFixed style texts file before old new after
  -- it has fixes, and cannot be written
  unwritten : (text made : List ℕ) (fixes : ℕ) → Agrees (texts file) (Some text) → IsFixOf (disabled_by style) text fixes made →
      ¬ (fixes ≡ 0) → bytes_eq file (codes "-") ≡ false → Keeps old new → after ≡ with_unread before → IsFileFixed style texts file before old new after
  -- its text is fixed
  fixed : (text : List ℕ) (mid : Option (List ℕ)) (remaining : Counts) → Agrees (texts file) (Some text) → Keeps old mid →
      IsTextFixed style (display_name file) text mid new remaining → after ≡ with_counts before remaining →
      IsFileFixed style texts file before old new after

-- the last line: the number of remaining errors; there is none if no errors remain and some files could not be read or written
abbrev pub remaining_line : Tally → List ℕ
remaining_line tally =
    if tally.errors == 0 then (if tally.unread == 0 then codes "no errors are left\n" else [])
    else (if tally.errors == 1 then codes "1 error is left\n" else decimal tally.errors ++ codes " errors are left\n")

-- some files are fixed
pub record AreFixed (style : Style) (texts : KnownTexts) (failed : ℕ) (files : List (List ℕ)) (old new : Option (List ℕ)) (status : ℕ) : Type 0 where
  pub done : Option (List ℕ)
  pub tally : Tally
  pub fixed : AreTallied (IsFileFixed style texts) failed old files done tally
  pub tail : Appends done new (remaining_line tally)
  pub status_is : status ≡ status_of style.is_strict tally
