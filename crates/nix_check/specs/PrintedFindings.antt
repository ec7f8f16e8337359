-- The report on a text in the form that the style asks for.
use Rattle.std.specs.Prelude.{◌≡◌, ◌-◌, ◌==◌, nat_lt, ℕ, Bool, List, ◌++◌, codes, decimal, length, map, take, string_bytes, Option, if◌then◌else◌}
use Rattle.std.specs.List.{filter}
use Rattle.std.specs.Io.KnownBytes.{Appends}
use Rattle.rnix_kinds.specs.Lexical.Tokens.{tokens_of}
use Rattle.rnix_green.specs.Tree.{Tree}
use Rattle.rnix_grammar.specs.{Fault.Fault, Parsed.IsParsed}
use Rattle.nix_diagnostics.specs.declared.diagnostic.Diagnostic.{Diagnostic}
use Rattle.nix_check.specs.declared.style.Style.{Style}
use Rattle.nix_check.specs.declared.style.Format.{Format}
use Rattle.nix_check.specs.declared.style.Format.TheVariants as form
use Rattle.nix_check.specs.declared.tally.Counts.{Counts}
use Rattle.nix_lints.specs.Items.{Item, is_error, AreItems, IsWorded}
use Rattle.nix_check.specs.{Listed.AreListed, AsText.IsText, AsJson.json_line, AsSarif.{sarif_result, separator}}

-- a diagnostic of a text in a form; a result of SARIF is separated from what precedes it
abbrev pub IsPrintedAs : Format → Bool → List ℕ → List ℕ → Bool → Diagnostic → List ℕ → Type 0
IsPrintedAs form.Text is_colored name text is_first d bytes = IsText is_colored name text d bytes
IsPrintedAs form.Json is_colored name text is_first d bytes = bytes ≡ json_line name text d
IsPrintedAs form.Sarif is_colored name text is_first d bytes = bytes ≡ separator is_first ++ sarif_result name text d

-- a diagnostic in the form that the style asks for
abbrev pub IsPrinted : Style → List ℕ → List ℕ → Bool → Diagnostic → List ℕ → Type 0
IsPrinted style name text is_first d bytes = IsPrintedAs style.format style.is_colored name text is_first d bytes

-- an item in words, in this form
abbrev pub IsPrintedItem : Style → List ℕ → List ℕ → Bool → Item → List ℕ → Type 0
IsPrintedItem style name text is_first item bytes = (d : Diagnostic) × IsWorded item d × IsPrinted style name text is_first d bytes

-- items in this form, after a number of earlier ones
abbrev pub AreFormed : Style → List ℕ → List ℕ → ℕ → List Item → List ℕ → Type 0
AreFormed style name text earlier items bytes =
    AreListed (λ (number : ℕ) (item : Item) (piece : List ℕ). IsPrintedItem style name text (number == 0) item piece) earlier items bytes

-- the numbers of errors and warnings
abbrev pub errors_in : List Item → ℕ
errors_in items = length (filter is_error items)

abbrev pub counts_of : List Item → Counts
counts_of items = record { errors = errors_in items; warnings = length items - errors_in items }

-- the line about errors that are not printed, and about errors and warnings
abbrev pub more_errors : List ℕ → ℕ → List ℕ
more_errors name more =
    if more == 0 then codes ""
    else (if more == 1 then name ++ codes ": 1 more error (shown with --all)\n"
    else name ++ codes ": " ++ decimal more ++ codes " more errors (shown with --all)\n")

abbrev pub more_of_both : List ℕ → ℕ → List ℕ
more_of_both name more =
    if more == 0 then codes ""
    else (if more == 1 then name ++ codes ": 1 more error or warning (shown with --all)\n"
    else name ++ codes ": " ++ decimal more ++ codes " more errors and warnings (shown with --all)\n")

-- the line about items that are not printed; they are called errors if there are no warnings
abbrev pub more_line : List ℕ → Bool → ℕ → List ℕ
more_line name has_warnings more = if has_warnings then more_of_both name more else more_errors name more

-- the first items up to the limit, and a line about the others
pub record ArePrinted (style : Style) (name text : List ℕ) (earlier : ℕ) (items : List Item) (bytes : List ℕ) : Type 0 where
  pub shown : List ℕ
  pub are_shown : AreFormed style name text earlier (take style.limit items) shown
  pub whole : bytes ≡ shown ++ more_line name (nat_lt 0 (counts_of items).warnings) (length items - style.limit)

-- a text is checked after earlier diagnostics: what is reported of it is counted and printed, and nothing else is printed
pub record IsChecked (style : Style) (name text : List ℕ) (earlier : ℕ) (old new : Option (List ℕ)) (counts : Counts) : Type 0 where
  pub tree : Tree
  pub faults : List Fault
  pub read : IsParsed (tokens_of text) tree faults
  pub items : List Item
  pub are : AreItems style.is_each (map string_bytes style.disabled.now) record { tree = tree; number = 0 } faults items
  pub counted : counts ≡ counts_of items
  pub bytes : List ℕ
  pub are_printed : ArePrinted style name text earlier items bytes
  pub written : Appends old new bytes
