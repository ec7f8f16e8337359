-- The report on some files: the output for each, the counts over all files, and the exit status.
use Rattle.std.specs.Prelude.{◌≡◌, ◌⊎◌, ℕ, ◌==◌, ◌&&◌, List, [], ◌++◌, codes, decimal, length, nat_lt, Option, Some, None, if◌then◌else◌}
use Rattle.std.specs.Io.KnownBytes.{Appends, Keeps}
use Rattle.nix_cli.specs.declared.arguments.TheConstants.{VERSION}
use Rattle.nix_cli.specs.KnownTexts.{KnownTexts, Agrees}
use Rattle.nix_cli.specs.MessageLocations.{display_name}
use Rattle.nix_check.specs.declared.tally.{Tally.Tally, Counts.Counts}
use Rattle.nix_check.specs.declared.style.Style.{Style}
use Rattle.nix_check.specs.declared.style.Format.{Format}
use Rattle.nix_check.specs.declared.style.Format.TheVariants as form
use Rattle.nix_check.specs.{Tallies.{with_counts, with_unread, found_by, status_of, AreTallied}, PrintedFindings.IsChecked, AsSarif.{sarif_head, sarif_tail}}

-- a text is checked, and its errors and warnings are added to the counts
abbrev pub IsTextCounted : Style → List ℕ → List ℕ → Tally → Option (List ℕ) → Option (List ℕ) → Tally → Type 0
IsTextCounted style name text before old new after =
    (counts : Counts) × IsChecked style name text (found_by before) old new counts × (after ≡ with_counts before counts)

-- a file has a text, which is counted
abbrev pub IsFileChecked : Style → KnownTexts → List ℕ → Tally → Option (List ℕ) → Option (List ℕ) → Tally → Type 0
IsFileChecked style texts file before old new after =
    (text : List ℕ) × Agrees (texts file) (Some text) × IsTextCounted style (display_name file) text before old new after

-- a file that cannot be read is counted, and nothing is printed
abbrev pub IsFileUnread : KnownTexts → List ℕ → Tally → Option (List ℕ) → Option (List ℕ) → Tally → Type 0
IsFileUnread texts file before old new after = Agrees (texts file) None × Keeps old new × (after ≡ with_unread before)

-- a file is counted, whether it is read or not
abbrev pub IsFileCounted : Style → KnownTexts → List ℕ → Tally → Option (List ℕ) → Option (List ℕ) → Tally → Type 0
IsFileCounted style texts file before old new after =
    IsFileUnread texts file before old new after ⊎ IsFileChecked style texts file before old new after

-- files are checked one after another
abbrev pub AreChecked : Style → KnownTexts → ℕ → Option (List ℕ) → List (List ℕ) → Option (List ℕ) → Tally → Type 0
AreChecked style texts failed old files new after = AreTallied (IsFileCounted style texts) failed old files new after

-- the output before the first file
abbrev pub report_head : Format → List ℕ
report_head form.Text = []
report_head form.Json = []
report_head form.Sarif = sarif_head (codes "rnix") VERSION.now

-- a number of things, of which one has another word
abbrev pub counted : ℕ → List ℕ → List ℕ → List ℕ
counted number one more = if number == 1 then codes "1 " ++ one else decimal number ++ codes " " ++ more

-- the numbers of errors and warnings, of which one is not 0
abbrev pub numbers_text : ℕ → ℕ → List ℕ
numbers_text errors warnings =
    if warnings == 0 then counted errors (codes "error") (codes "errors")
    else (if errors == 0 then counted warnings (codes "warning") (codes "warnings")
    else counted errors (codes "error") (codes "errors") ++ codes ", " ++ counted warnings (codes "warning") (codes "warnings"))

-- of how many files this is the report, if there are several
abbrev pub among : ℕ → List ℕ
among files = if nat_lt files 2 then [] else codes " in " ++ decimal files ++ codes " files"

-- in how many of these files something was found
abbrev pub found_in : ℕ → ℕ → List ℕ
found_in faulty files = if nat_lt files 2 then [] else codes " in " ++ decimal faulty ++ codes " of " ++ decimal files ++ codes " files"

-- the last line if nothing was found; there is none if some files could not be read
abbrev pub clean_line : ℕ → ℕ → List ℕ
clean_line unread files = if unread == 0 then codes "no errors" ++ (among files ++ codes "\n") else []

-- the last line of the text form: the numbers of errors and warnings, and of files
abbrev pub count_line : Tally → ℕ → List ℕ
count_line tally files =
    if tally.errors == 0 && tally.warnings == 0 then clean_line tally.unread files
    else numbers_text tally.errors tally.warnings ++ (found_in tally.faulty files ++ codes "\n")

-- the output after the last file
abbrev pub report_tail : Format → Tally → ℕ → List ℕ
report_tail form.Text tally files = count_line tally files
report_tail form.Json tally files = []
report_tail form.Sarif tally files = sarif_tail (tally.unread == 0)

-- the report on some files
pub record IsReport (style : Style) (texts : KnownTexts) (failed : ℕ) (files : List (List ℕ)) (old new : Option (List ℕ)) (status : ℕ) : Type 0 where
  pub begun : Option (List ℕ)
  pub done : Option (List ℕ)
  pub tally : Tally
  pub head : Appends old begun (report_head style.format)
  pub checked : AreChecked style texts failed begun files done tally
  pub tail : Appends done new (report_tail style.format tally (length files))
  pub status_is : status ≡ status_of style.is_strict tally
