-- The codes and severities of diagnostics, and the table of what is said about each code.
use Rattle.std.specs.Prelude.{List, ℕ, [], Option, Some, None, map, slice_get, codes}
use Rattle.rnix_grammar.specs.Fault.{Fault, too_deep}
use Rattle.nix_diagnostics.specs.declared.code.Code.{Code}
use Rattle.nix_diagnostics.specs.declared.code.Code.TheVariants.{SyntaxError, NestedTooDeep}
use Rattle.nix_diagnostics.specs.declared.code.Severity.{Severity}
use Rattle.nix_diagnostics.specs.declared.code.Severity.TheVariants.{Error, Warning}
use Rattle.nix_diagnostics.specs.declared.rules.Rule.{Rule}
use Rattle.nix_diagnostics.specs.declared.rules.TheConstants.{CODES, TABLE}
use Rattle.nix_diagnostics.specs.contracts.code.Code.{the_type}
use denote.Enum.Declared.{tag_of}

-- the code of an error
abbrev pub code_of : Fault → Code
code_of too_deep = NestedTooDeep
code_of _ = SyntaxError

-- the name for tools
abbrev pub severity_name : Severity → List ℕ
severity_name Error = codes "error"
severity_name Warning = codes "warning"

-- a row of the table: the name for tools, the severity, the title, the message and the note; the last two are empty where they depend on the text
pub record Row : Type 0 where
  pub name : List ℕ
  pub severity : Severity
  pub title : List ℕ
  pub message : List ℕ
  pub note : List ℕ

abbrev pub row : List ℕ → Severity → List ℕ → List ℕ → List ℕ → Row
row name severity title message note = record { name = name; severity = severity; title = title; message = message; note = note }

-- a row of the program
abbrev pub row_of : Rule → Row
row_of rule = row rule.name.now rule.severity rule.title.now rule.message.now rule.note.now

-- the rows of the table
abbrev pub rows : List Row
rows = map (λ r. row r.1.now r.2 r.3.now r.4.now r.5.now) TABLE

-- a row, if there is one
abbrev pub row_or_none : Option Row → Row
row_or_none None = row [] Error [] [] []
row_or_none (Some r) = r

-- all codes, as the program lists them
abbrev pub all_codes : List Code
all_codes = CODES

-- the number of a code: its place among all codes, from 0
abbrev pub code_number : Code → ℕ
code_number = tag_of the_type

-- the row of a code
abbrev pub rule_of : Code → Row
rule_of code = row_or_none (slice_get rows (code_number code))

-- the severity and the name of a code
abbrev pub severity_of : Code → Severity
severity_of code = (rule_of code).severity

abbrev pub code_name : Code → List ℕ
code_name code = (rule_of code).name
