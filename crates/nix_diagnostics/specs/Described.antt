-- What a `Diagnosis` says about the errors of a text.
use Rattle.std.specs.Prelude.{◌≡◌, ℕ, ◌<◌, List, length, false, Option, option_map, slice_get, IfSome}
use Rattle.std.specs.List.{All, list_all}
use Rattle.rnix_green.specs.Tree.{Located}
use Rattle.rnix_grammar.specs.Fault.{Fault}
use Rattle.rnix.specs.ParseResult.{root_of}
use Rattle.nix_diagnostics.specs.declared.diagnosis.Diagnosis.{Diagnosis}
use Rattle.nix_diagnostics.specs.declared.diagnostic.Diagnostic.{Diagnostic}
use Rattle.nix_diagnostics.specs.Locations.{end_of_items}
use Rattle.nix_diagnostics.specs.TokenErrors.{is_repeated_name}
use Rattle.nix_diagnostics.specs.Mistakes.{mistake_of, mistakes_at, HasMessage}

-- the errors are those of a parse, and runs begin at some of them; the end of the text is known unless all errors are about repeated names
pub record Describes (root : Located) (faults : List Fault) (starts : List ℕ) (d : Diagnosis) : Type 0 where
  pub root_is : root_of d.read.now ≡ root
  pub faults_are : d.read.now.faults ≡ faults
  pub starts_are : d.starts.items ≡ starts
  pub within : All (λ n. n < length faults) starts
  pub end : list_all is_repeated_name faults ≡ false → d.end ≡ end_of_items root

-- a diagnostic is that of the run with a number, if there is one, and has a message
pub record IsDiagnosed (root : Located) (faults : List Fault) (starts : List ℕ) (number : ℕ) (found : Option Diagnostic) : Type 0 where
  pub mistake : option_map mistake_of found ≡ slice_get (mistakes_at root faults starts) number
  pub has_message : IfSome found HasMessage

-- the number of runs, and the diagnostic of each of them
abbrev pub GivesDiagnostic : Diagnosis → Diagnosis → ℕ → Option Diagnostic → Type 0
GivesDiagnostic old new number found =
    (root : Located) (faults : List Fault) (starts : List ℕ) → Describes root faults starts old →
    Describes root faults starts new × IsDiagnosed root faults starts number found
