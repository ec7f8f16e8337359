-- A diagnostic as text: its location and its message, an excerpt of the text, and its notes. A text is the list of its bytes.
use Rattle.std.specs.Prelude.{◌≡◌, ℕ, Bool, List, ◌∷◌, ◌++◌, codes, string_bytes, Option, Some, None, if◌then◌else◌}
use Rattle.rnix_green.specs.declared.range.TextRange.{TextRange}
use Rattle.nix_cli.specs.MessageLocations.{location_text}
use Rattle.nix_diagnostics.specs.Codes.{severity_of}
use Rattle.nix_diagnostics.specs.declared.code.Severity.{Severity}
use Rattle.nix_diagnostics.specs.declared.code.Severity.TheVariants.{Error, Warning}
use Rattle.nix_diagnostics.specs.declared.diagnostic.Diagnostic.{Diagnostic}
use Rattle.nix_diagnostics.specs.declared.notes.Note.{Note}
use Rattle.nix_check.specs.Listed.{AreListed}

-- a word, in bold and in a color if the text is colored
abbrev pub word_text : Bool → List ℕ → List ℕ → List ℕ
word_text is_colored color word = if is_colored then 27 ∷ codes "[1;" ++ color ++ codes "m" ++ word ++ 27 ∷ codes "[0m" else word

-- a kind of message, and the message
abbrev pub message_text : Bool → List ℕ → List ℕ → List ℕ → List ℕ
message_text is_colored color kind message = word_text is_colored color kind ++ codes " " ++ message ++ codes "\n"

-- the name of a severity, errors in red and warnings in yellow, and a message
abbrev pub severity_text : Bool → Severity → List ℕ → List ℕ
severity_text is_colored Error message = message_text is_colored (codes "31") (codes "error:") message
severity_text is_colored Warning message = message_text is_colored (codes "33") (codes "warning:") message

-- a note without a location
abbrev pub help_text : Bool → List ℕ → List ℕ
help_text is_colored message = codes "  " ++ message_text is_colored (codes "36") (codes "help:") message

-- a note with a location: the location, the message and an excerpt
abbrev pub IsLocatedText : Bool → List ℕ → List ℕ → ℕ → List ℕ → List ℕ → Type 0
IsLocatedText is_colored name text start message bytes =
    (excerpt : List ℕ) × (bytes ≡ location_text name text start ++ message_text is_colored (codes "36") (codes "note:") message ++ excerpt)

-- a note with or without a location
abbrev pub HasLocation : Bool → List ℕ → List ℕ → List ℕ → Option TextRange → List ℕ → Type 0
HasLocation is_colored name text message None bytes = bytes ≡ help_text is_colored message
HasLocation is_colored name text message (Some range) bytes = IsLocatedText is_colored name text range.start message bytes

-- a note as text
abbrev pub IsNoteText : Bool → List ℕ → List ℕ → Note → List ℕ → Type 0
IsNoteText is_colored name text note bytes = HasLocation is_colored name text note.message.now note.range bytes

-- notes as text, one after another
abbrev pub AreNoteTexts : Bool → List ℕ → List ℕ → List Note → List ℕ → Type 0
AreNoteTexts is_colored name text notes bytes =
    AreListed (λ (number : ℕ) (note : Note) (piece : List ℕ). IsNoteText is_colored name text note piece) 0 notes bytes

-- a diagnostic as text
pub record IsText (is_colored : Bool) (name text : List ℕ) (d : Diagnostic) (bytes : List ℕ) : Type 0 where
  pub excerpt : List ℕ
  pub notes : List ℕ
  pub are_notes : AreNoteTexts is_colored name text d.notes.items notes
  pub whole : bytes ≡ location_text name text d.range.start ++ severity_text is_colored (severity_of d.code) (string_bytes d.message) ++ excerpt ++ notes
