-- A diagnostic as a line of JSON. A text is the list of its bytes.
use Rattle.std.specs.Prelude.{ℕ, ◌-◌, List, ◌++◌, codes, decimal, map, string_bytes, unwrap_or}
use Rattle.rnix_green.specs.declared.range.TextRange.{TextRange}
use Rattle.nix_cli.specs.{JsonString.json_string, MessageLocations.line_and_column}
use Rattle.nix_diagnostics.specs.Codes.{code_name, severity_of, severity_name}
use Rattle.nix_diagnostics.specs.declared.code.Code.{Code}
use Rattle.nix_diagnostics.specs.declared.diagnostic.Diagnostic.{Diagnostic}
use Rattle.nix_diagnostics.specs.declared.notes.Note.{Note}
use Rattle.nix_check.specs.Listed.{comma_joined}

-- a location: its line and its column, and the offsets of its start and its end
abbrev pub location_members : ℕ × ℕ → ℕ → ℕ → List ℕ
location_members location start end =
    codes "\"line\":" ++ decimal location.0 ++ codes ",\"column\":" ++ decimal location.1 ++ codes ",\"start\":" ++ decimal start ++ codes ",\"end\":"
    ++ decimal end

-- a location in a text, and a message
abbrev pub message_members : List ℕ → TextRange → List ℕ → List ℕ
message_members text range message =
    location_members (line_and_column text range.start) range.start range.end ++ codes ",\"message\":" ++ json_string message

-- a note: its location, or else that of its diagnostic, and its message
abbrev pub note_object : List ℕ → TextRange → Note → List ℕ
note_object text range note = codes "{" ++ message_members text (unwrap_or note.range range) note.message.now ++ codes "}"

-- the severity and the code of a diagnostic, and the number of errors that it covers
abbrev pub errors_member : Code → ℕ → List ℕ
errors_member code errors =
    codes ",\"severity\":\"" ++ (severity_name (severity_of code) ++ (codes "\",\"code\":\"" ++ (code_name code
    ++ (codes "\",\"errors\":" ++ (decimal errors ++ codes ",\"notes\":[")))))

-- a diagnostic: the file, the location, the message, the severity and the code, the number of errors that it covers, and the notes
abbrev pub json_line : List ℕ → List ℕ → Diagnostic → List ℕ
json_line name text d =
    codes "{\"file\":" ++ json_string name ++ codes "," ++ message_members text d.range (string_bytes d.message)
    ++ errors_member d.code (d.end_error - d.first_error) ++ comma_joined (map (note_object text d.range) d.notes.items) ++ codes "]}\n"
