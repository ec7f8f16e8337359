-- The results for files: what is printed for each, its outcome, the counts over all files, and the exit status. A text is the list of its bytes.
use Rattle.std.specs.Prelude.{◌≡◌, ℕ, ◌+◌, ◌-◌, ◌^◌, ◌==◌, nat_lt, min, length, Bool, true, false, List, [], ◌∷◌, ◌++◌, codes, Option, Some, None, if◌then◌else◌}
use Rattle.std.specs.{Str.bytes_eq, Io.KnownBytes.{Appends, Keeps}}
use Rattle.nix_cli.specs.KnownTexts.{KnownTexts, Agrees}
use Rattle.nix_cli.specs.MessageLocations.{display_name}
use Rattle.nix_formatting.specs.{Formatted.{IsWithErrors, IsWithoutErrors}, Retokened.IsFormatted}
use Rattle.nix_format.specs.declared.file.Task.{Task}
use Rattle.nix_format.specs.declared.file.Task.TheVariants.{Write, Check, Diff, Print}
use Rattle.nix_format.specs.declared.file.Outcome.{Outcome}
use Rattle.nix_format.specs.declared.file.Outcome.TheVariants.{Changed, Same, Failed}
use Rattle.nix_format.specs.declared.report.Tally.{Tally}
use Rattle.nix_diff.specs.Unified.{IsUnified}

-- whether a name means standard input
abbrev pub is_input : List ℕ → Bool
is_input name = bytes_eq name (codes "-")

-- bytes that satisfy a statement are appended
abbrev pub Prints : (List ℕ → Type 0) → Option (List ℕ) → Option (List ℕ) → Type 0
Prints Holds old new = (bytes : List ℕ) × Holds bytes × Appends old new bytes

-- the name of a file whose text differs
abbrev pub changed_name : Bool → List ℕ → List ℕ
changed_name is_same name = if is_same then [] else display_name name ++ codes "\n"

-- the diff of two texts, which is empty if they are equal
abbrev pub IsDiffOf : Bool → List ℕ → List ℕ → List ℕ → Type 0
IsDiffOf true text made bytes = bytes ≡ []
IsDiffOf false text made bytes = IsUnified text made bytes

-- the formatted text of standard input
abbrev pub input_text : List ℕ → List ℕ → List ℕ
input_text name made = if is_input name then made else []

-- what is printed for a text and its formatted text, depending on the task
abbrev pub IsPrinted : Task → Bool → List ℕ → List ℕ → List ℕ → List ℕ → Type 0
IsPrinted Check is_same name text made bytes = bytes ≡ changed_name is_same name
IsPrinted Diff is_same name text made bytes = IsDiffOf is_same text made bytes
IsPrinted Write is_same name text made bytes = bytes ≡ input_text name made
IsPrinted Print is_same name text made bytes = bytes ≡ made

-- whether formatted texts are written to the files
abbrev pub writes : Task → Bool
writes Write = true
writes Check = false
writes Diff = false
writes Print = false

-- the outcome after replacing a file, which may fail; for standard input, nothing fails
pub data IsReplaced (name : List ℕ) : Outcome → Type 0 where
  replaced : IsReplaced name Changed
  failed : is_input name ≡ false → IsReplaced name Failed

-- the outcome for a formatted text
pub data IsFinished (task : Task) (name text made : List ℕ) (old new : Option (List ℕ)) : Outcome → Type 0 where
  -- it equals the text
  same : bytes_eq made text ≡ true → Prints (IsPrinted task true name text made) old new → IsFinished task name text made old new Same
  -- it differs, and nothing is written to the file
  changed : bytes_eq made text ≡ false → writes task ≡ false → Prints (IsPrinted task false name text made) old new →
      IsFinished task name text made old new Changed
  -- it differs, and is written to the file
  written : (outcome : Outcome) → bytes_eq made text ≡ false → writes task ≡ true → IsReplaced name outcome →
      Prints (IsPrinted task false name text made) old new → IsFinished task name text made old new outcome

-- the outcome for a text
pub data IsTextFormatted (task : Task) (name text : List ℕ) (old new : Option (List ℕ)) : Outcome → Type 0 where
  -- it has errors
  faulty : IsWithErrors text → Keeps old new → IsTextFormatted task name text old new Failed
  -- it has no errors, and is refused all the same
  refused : IsWithoutErrors text → Keeps old new → IsTextFormatted task name text old new Failed
  -- it has a formatted text
  formatted : (made : List ℕ) (outcome : Outcome) → IsFormatted text made → IsFinished task name text made old new outcome →
      IsTextFormatted task name text old new outcome

-- the outcome for a file
pub data IsFileFormatted (task : Task) (texts : KnownTexts) (name : List ℕ) (old new : Option (List ℕ)) : Outcome → Type 0 where
  -- it is to be written, and cannot be replaced
  irreplaceable : writes task ≡ true → is_input name ≡ false → Keeps old new → IsFileFormatted task texts name old new Failed
  -- it cannot be read
  unread : Agrees (texts name) None → Keeps old new → IsFileFormatted task texts name old new Failed
  -- it has a text
  read : (text : List ℕ) (mid : Option (List ℕ)) (outcome : Outcome) → Agrees (texts name) (Some text) → Keeps old mid →
      IsTextFormatted task name text mid new outcome → IsFileFormatted task texts name old new outcome

-- a sum of 64 bits, which stops at the largest number
abbrev pub plus : ℕ → ℕ → ℕ
plus a b = min (a + b) (2 ^ 64 - 1)

-- the counts with one more file
abbrev pub counted : Outcome → Tally → Tally
counted Changed tally = record { changed = plus tally.changed 1; same = tally.same; failed = tally.failed }
counted Same tally = record { changed = tally.changed; same = plus tally.same 1; failed = tally.failed }
counted Failed tally = record { changed = tally.changed; same = tally.same; failed = plus tally.failed 1 }

-- the line before a text, if it has a heading
abbrev pub heading : Bool → List ℕ → List ℕ
heading has_headings name = if has_headings then codes "# " ++ display_name name ++ codes ":\n" else []

-- files are formatted one after another. Before the first one, only the folders that could not be read are counted
pub data AreFormatted (task : Task) (texts : KnownTexts) (has_headings : Bool) (failed : ℕ) (old : Option (List ℕ))
    : List (List ℕ) → Option (List ℕ) → Tally → Type 0 where
  none_formatted : AreFormatted task texts has_headings failed old [] old record { changed = 0; same = 0; failed = failed }
  one_formatted : (files : List (List ℕ)) (mid begun new : Option (List ℕ)) (tally : Tally) (outcome : Outcome) (file : List ℕ) →
      AreFormatted task texts has_headings failed old files mid tally → Appends mid begun (heading has_headings file) →
      IsFileFormatted task texts file begun new outcome → AreFormatted task texts has_headings failed old (files ++ file ∷ []) new (counted outcome tally)

-- the exit status of a check without failures: 1 if files would change
abbrev pub found_status : Tally → ℕ
found_status tally = if tally.changed == 0 then 0 else 1

-- the exit status without failures, depending on the task
abbrev pub status_without : Task → Tally → ℕ
status_without Check tally = found_status tally
status_without Diff tally = found_status tally
status_without Write tally = 0
status_without Print tally = 0

-- the exit status: 2 if something failed
abbrev pub status_of : Task → Tally → ℕ
status_of task tally = if tally.failed == 0 then status_without task tally else 2

-- whether texts have headings: whether several texts are printed
abbrev pub has_headings : Task → List (List ℕ) → Bool
has_headings Check files = false
has_headings Diff files = false
has_headings Write files = false
has_headings Print files = nat_lt 1 (length files)

-- the report on some files
pub record IsReport (task : Task) (texts : KnownTexts) (failed : ℕ) (files : List (List ℕ)) (old new : Option (List ℕ)) (status : ℕ) : Type 0 where
  pub tally : Tally
  pub formatted : AreFormatted task texts (has_headings task files) failed old files new tally
  pub status_is : status ≡ status_of task tally
