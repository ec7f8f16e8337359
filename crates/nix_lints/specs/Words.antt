-- Findings in words.
use Rattle.std.specs.Prelude.{ℕ, ◌/◌, ◌%◌, ◌+◌, nat_lt, List, [], ◌∷◌, ◌++◌, codes, map, Option, Some, None, string_bytes, if◌then◌else◌}
use Rattle.rnix_green.specs.declared.range.TextRange.{TextRange}
use Rattle.rnix_green.specs.Range.{Extent, bounds_of}
use Rattle.nix_diagnostics.specs.declared.code.Code.{Code}
use Rattle.nix_diagnostics.specs.declared.diagnostic.Diagnostic.{Diagnostic}
use Rattle.nix_diagnostics.specs.declared.notes.Note.{Note}
use Rattle.nix_diagnostics.specs.Codes.{rule_of}
use Rattle.nix_lints.specs.Found.{Found, About, nothing, character, place}

-- the code of a diagnostic, its range and its message, and its notes: their ranges, if they have some, and their messages
pub record Said : Type 0 where
  pub code : Code
  pub extent : Extent
  pub message : List ℕ
  pub notes : List (List Extent × List ℕ)

-- the bounds of a range, if there is one
abbrev pub bounds_if : Option TextRange → List Extent
bounds_if None = []
bounds_if (Some range) = bounds_of range ∷ []

-- the range and the message of a note
abbrev pub note_of : Note → List Extent × List ℕ
note_of note = (bounds_if note.range, note.message.now)

-- what a diagnostic says
abbrev pub said_of : Diagnostic → Said
said_of d = record {
  code = d.code;
  extent = bounds_of d.range;
  message = string_bytes d.message;
  notes = map note_of d.notes.items;
}

-- a hexadecimal digit
abbrev pub upper_digit : ℕ → ℕ
upper_digit n = if nat_lt n 10 then 48 + n else 55 + n

-- the code point of a character of white space in four hexadecimal digits; no such character needs more
abbrev pub code_point : ℕ → List ℕ
code_point c = upper_digit (c / 4096 % 16) ∷ upper_digit (c / 256 % 16) ∷ upper_digit (c / 16 % 16) ∷ upper_digit (c % 16) ∷ []

-- the message on a character that Nix does not read as white space
abbrev pub space_message : ℕ → List ℕ
space_message c = codes "Nix does not read U+" ++ code_point c ++ codes " as white space"

-- the message on a finding: that of its code, or on a character
abbrev pub message_about : Code → About → List ℕ
message_about code nothing = (rule_of code).message
message_about code (character c) = space_message c
message_about code (place extent) = (rule_of code).message

-- the ranges of the note on a finding
abbrev pub ranges_about : About → List Extent
ranges_about nothing = []
ranges_about (character c) = []
ranges_about (place extent) = extent ∷ []

-- a note with these ranges, unless its message is empty
abbrev pub note_with : List ℕ → List Extent → List (List Extent × List ℕ)
note_with [] extents = []
note_with (byte ∷ message) extents = (extents, byte ∷ message) ∷ []

-- a finding in words
abbrev pub said : Found → Said
said f = record {
  code = f.code;
  extent = f.extent;
  message = message_about f.code f.about;
  notes = note_with (rule_of f.code).note (ranges_about f.about);
}
