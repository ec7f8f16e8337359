-- The mistakes of a text: runs of errors, of which the first is shown and the others follow from it.
use Rattle.std.specs.Prelude.{◌≡◌, ℕ, ◌<◌, Bool, List, [], ◌∷◌, length, map, get_or, string_bytes, if◌then◌else◌}
use Rattle.std.specs.List.{All, range_with_len}
use Rattle.rnix_green.specs.Range.{Extent, bounds_of}
use Rattle.rnix_green.specs.Tree.{Located}
use Rattle.rnix_grammar.specs.Fault.{Fault, unexpected_eof}
use Rattle.nix_diagnostics.specs.declared.code.Code.{Code}
use Rattle.nix_diagnostics.specs.declared.diagnostic.Diagnostic.{Diagnostic}
use Rattle.nix_diagnostics.specs.Codes.{code_of}
use Rattle.nix_diagnostics.specs.Locations.{location_of}
use Rattle.nix_diagnostics.specs.Following.{firsts, next_or}

-- a run of errors: the code and the location of its first error, the number of this error, and the number after that of its last one
pub record Mistake : Type 0 where
  pub code : Code
  pub extent : Extent
  pub first : ℕ
  pub end : ℕ

-- what a diagnostic says of its mistake
abbrev pub mistake_of : Diagnostic → Mistake
mistake_of d = record { code = d.code; extent = bounds_of d.range; first = d.first_error; end = d.end_error }

-- the message of a diagnostic is not empty
abbrev pub HasMessage : Diagnostic → Type 0
HasMessage d = 0 < length (string_bytes d.message)

-- the error with a number, where there is one
abbrev pub fault_at : List Fault → ℕ → Fault
fault_at faults number = get_or faults number unexpected_eof

-- the run from an error up to another one
abbrev pub mistake_at : Located → Fault → ℕ → ℕ → Mistake
mistake_at root fault first end = record { code = code_of fault; extent = location_of root fault; first = first; end = end }

-- the runs that begin at some errors: each ends where the next begins
abbrev pub mistakes_at : Located → List Fault → List ℕ → List Mistake
mistakes_at root faults [] = []
mistakes_at root faults (first ∷ more) = mistake_at root (fault_at faults first) first (next_or (length faults) more) ∷ mistakes_at root faults more

-- the errors at which runs begin: those that follow from no earlier one, or each of them
abbrev pub starts : Bool → Located → List Fault → List ℕ
starts is_each root faults = if is_each then range_with_len 0 (length faults) else firsts root faults

-- the mistakes of a text, or each of its errors as one
abbrev pub mistakes : Bool → Located → List Fault → List Mistake
mistakes is_each root faults = mistakes_at root faults (starts is_each root faults)

-- diagnostics say what these mistakes are, each with a message
pub record AreWorded (all : List Mistake) (found : List Diagnostic) : Type 0 where
  pub are : map mistake_of found ≡ all
  pub messages : All HasMessage found
