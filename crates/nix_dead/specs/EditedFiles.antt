-- Removing unused names from files: what is written about each, and its status.
use Rattle.std.specs.Prelude.{◌≡◌, ℕ, false, List, codes, Option, Some, None}
use Rattle.std.specs.{Str.bytes_eq, Io.KnownBytes.{Keeps}}
use Rattle.nix_cli.specs.KnownTexts.{KnownTexts, Agrees}
use Rattle.nix_cli.specs.MessageLocations.{display_name}
use Rattle.nix_dead.specs.declared.options.Options.{Options}
use Rattle.nix_dead.specs.Report.{IsReported}
use Rattle.nix_dead.specs.Editing.{IsWithout, IsWithErrors, IsRefused}

-- the unused names of a text are removed: those that are left are reported, as far as the new text can be written. A text with errors is reported as such.
-- A text that would have errors, or in which some name would mean something else, is left as it is
pub data IsTextEdited (options : Options) (name text : List ℕ) (old new : Option (List ℕ)) : ℕ → Type 0 where
  edited : (made : List ℕ) (status : ℕ) → IsWithout text options made → IsReported options (display_name name) made old new status →
      IsTextEdited options name text old new status
  unwritten : (made : List ℕ) → IsWithout text options made → bytes_eq name (codes "-") ≡ false → bytes_eq made text ≡ false → Keeps old new →
      IsTextEdited options name text old new 2
  faulty : (status : ℕ) → IsWithErrors text → IsReported options (display_name name) text old new status → IsTextEdited options name text old new status
  refused : IsRefused text options → Keeps old new → IsTextEdited options name text old new 2

-- the same for a file; nothing is written for a file that cannot be read, and its status is 2
pub data IsFileEdited (options : Options) (texts : KnownTexts) (file : List ℕ) (old new : Option (List ℕ)) : ℕ → Type 0 where
  unread : Agrees (texts file) None → Keeps old new → IsFileEdited options texts file old new 2
  read : (text : List ℕ) (mid end : Option (List ℕ)) (status : ℕ) → Agrees (texts file) (Some text) → Keeps old mid →
      IsTextEdited options file text mid end status → Keeps end new → IsFileEdited options texts file old new status
