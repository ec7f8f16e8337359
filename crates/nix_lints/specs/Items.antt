-- What is reported of a text: its mistakes, or if it has none, what the lints find.
use Rattle.std.specs.Prelude.{◌≡◌, ℕ, Bool, true, false, not, ◌&&◌, List, [], map, slice_get, Option, Some, None}
use Rattle.std.specs.List.{list_any, filter, AllZip}
use Rattle.std.specs.Str.{bytes_eq}
use Rattle.rnix_green.specs.Tree.{Located, text_at}
use Rattle.rnix_grammar.specs.Fault.{Fault}
use Rattle.nix_diagnostics.specs.Codes.{code_name, severity_of}
use Rattle.nix_diagnostics.specs.Described.{Describes}
use Rattle.nix_diagnostics.specs.Mistakes.{Mistake, mistake_of, mistakes, mistakes_at, HasMessage}
use Rattle.nix_diagnostics.specs.declared.code.Code.{Code}
use Rattle.nix_diagnostics.specs.declared.code.Severity.{Severity}
use Rattle.nix_diagnostics.specs.declared.code.Severity.TheVariants.{Error, Warning}
use Rattle.nix_diagnostics.specs.declared.diagnostic.Diagnostic.{Diagnostic}
use Rattle.nix_lints.specs.{Found.{Found, found_of}, Ignored.is_ignored, Lints.AreLints, Words.{said_of, said}}
use Rattle.nix_lints.specs.declared.reported.Reported.{Reported}
use Rattle.nix_lints.specs.declared.reported.Reported.TheVariants as reported

-- a mistake, or what a lint finds
pub data Item : Type 0 where
  mistake : Mistake → Item
  finding : Found → Item

abbrev pub code_of_item : Item → Code
code_of_item (mistake m) = m.code
code_of_item (finding f) = f.code

-- whether an item is an error, and not a warning
abbrev pub is_serious : Severity → Bool
is_serious Error = true
is_serious Warning = false

abbrev pub is_error : Item → Bool
is_error item = is_serious (severity_of (code_of_item item))

-- a lint with this code is left out, given the names of those that are
abbrev pub is_disabled : List (List ℕ) → Code → Bool
is_disabled disabled code = list_any (λ name. bytes_eq name (code_name code)) disabled

-- the lint of a finding is not left out, neither everywhere nor by a comment on the line before
abbrev pub is_enabled : List ℕ → List (List ℕ) → Found → Bool
is_enabled text disabled f = not (is_disabled disabled f.code) && not (is_ignored text f)

-- what the lints find, without those that are left out, in the order of where it begins
abbrev pub AreFindings : List (List ℕ) → Located → List Item → Type 0
AreFindings disabled root items = (all : List Found) × AreLints root all × (items ≡ map finding (filter (is_enabled (text_at root) disabled) all))

-- what is reported of a text: its mistakes, or each of its errors, or if it has none, what the lints find
pub record AreItems (is_each : Bool) (disabled : List (List ℕ)) (root : Located) (faults : List Fault) (items : List Item) : Type 0 where
  pub errors : ¬ (faults ≡ []) → items ≡ map mistake (mistakes is_each root faults)
  pub lints : faults ≡ [] → AreFindings disabled root items

-- the program holds these items
abbrev pub IsReported : List Item → Reported → Type 0
IsReported items (reported.Mistakes d) =
    (root : Located) × (faults : List Fault) × (starts : List ℕ) × Describes root faults starts d × (items ≡ map mistake (mistakes_at root faults starts))
IsReported items (reported.Findings found) = items ≡ map finding (map found_of found.items)

-- an item in words
abbrev pub IsWorded : Item → Diagnostic → Type 0
IsWorded (mistake m) d = (mistake_of d ≡ m) × HasMessage d
IsWorded (finding f) d = said_of d ≡ said f

-- the item with a number in words, if there is one
abbrev pub IsWordedAt : List Item → ℕ → Option Diagnostic → Type 0
IsWordedAt items number None = slice_get items number ≡ None
IsWordedAt items number (Some d) = (item : Item) × (slice_get items number ≡ Some item) × IsWorded item d

-- these items in words, one diagnostic for each
abbrev pub AreAllWorded : List Item → List Diagnostic → Type 0
AreAllWorded = AllZip IsWorded
