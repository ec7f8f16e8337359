-- Diagnostics in SARIF 2.1.0. A text is the list of its bytes.
use Rattle.std.specs.Prelude.{ℕ, ◌/◌, ◌%◌, ◌==◌, ◌||◌, Bool, List, [], ◌∷◌, ◌++◌, codes, decimal, map, string_bytes, unwrap_or, if◌then◌else◌}
use Rattle.std.specs.{List.flat_map, Char.is_ascii_alphanumeric}
use Rattle.rnix_green.specs.declared.range.TextRange.{TextRange}
use Rattle.nix_cli.specs.{JsonString.json_string, MessageLocations.line_and_column}
use Rattle.nix_diagnostics.specs.Codes.{all_codes, rule_of, code_name, severity_of, severity_name}
use Rattle.nix_diagnostics.specs.declared.code.Code.{Code}
use Rattle.nix_diagnostics.specs.declared.diagnostic.Diagnostic.{Diagnostic}
use Rattle.nix_diagnostics.specs.declared.notes.Note.{Note}
use Rattle.nix_lints.specs.Words.{upper_digit}
use Rattle.nix_check.specs.Listed.{comma_joined}

-- a rule: the name of a code, its title and its severity
abbrev pub rule_object : Code → List ℕ
rule_object code =
    codes "{\"id\":\"" ++ ((rule_of code).name ++ (codes "\",\"shortDescription\":{\"text\":\"" ++ ((rule_of code).title
    ++ (codes "\"},\"defaultConfiguration\":{\"level\":\"" ++ (severity_name (rule_of code).severity ++ codes "\"}}")))))

-- the rules, one for each code
abbrev pub sarif_rules : List ℕ
sarif_rules = codes ",\"rules\":[" ++ comma_joined (map rule_object all_codes)

-- what precedes the first result: the version of the format, and the program with its version and its rules
abbrev pub sarif_head : List ℕ → List ℕ → List ℕ
sarif_head program version =
    codes "{\"$schema\":\"https://json.schemastore.org/sarif-2.1.0.json\",\"version\":\"2.1.0\",\"runs\":[{\"tool\":{\"driver\":{\"name\":"
    ++ json_string program ++ codes ",\"version\":" ++ json_string version
    ++ sarif_rules ++ codes "]}},\"columnKind\":\"unicodeCodePoints\",\"results\":["

-- true or false
abbrev pub bool_text : Bool → List ℕ
bool_text is_true = if is_true then codes "true" else codes "false"

-- what follows the last result: whether all files were read
abbrev pub sarif_tail : Bool → List ℕ
sarif_tail is_complete = codes "\n],\"invocations\":[{\"executionSuccessful\":" ++ bool_text is_complete ++ codes "}]}]}\n"

-- whether a byte needs no escape in a URI: an ASCII letter, a digit or one of `/.-_~`
abbrev pub is_unreserved : ℕ → Bool
is_unreserved b = is_ascii_alphanumeric b || (b == 47 || (b == 46 || (b == 45 || (b == 95 || b == 126))))

-- a byte in a URI: the byte itself, or its number after `%`
abbrev pub uri_byte : ℕ → List ℕ
uri_byte b = if is_unreserved b then b ∷ [] else 37 ∷ upper_digit (b / 16) ∷ upper_digit (b % 16) ∷ []

-- the name of a file as a URI
abbrev pub uri : List ℕ → List ℕ
uri name = codes "\"" ++ flat_map uri_byte name ++ codes "\""

-- the lines and columns of a region
abbrev pub region : ℕ × ℕ → ℕ × ℕ → List ℕ
region start end =
    codes "\"startLine\":" ++ (decimal start.0 ++ (codes ",\"startColumn\":" ++ (decimal start.1
    ++ (codes ",\"endLine\":" ++ (decimal end.0 ++ (codes ",\"endColumn\":" ++ (decimal end.1 ++ codes "}}")))))))

-- a range of a file
abbrev pub location : List ℕ → List ℕ → TextRange → List ℕ
location name text range =
    codes "\"physicalLocation\":{\"artifactLocation\":{\"uri\":" ++ uri name ++ codes "},\"region\":{"
    ++ region (line_and_column text range.start) (line_and_column text range.end)

-- a message
abbrev pub message_object : List ℕ → List ℕ
message_object message = codes "\"message\":{\"text\":" ++ json_string message ++ codes "}"

-- a note: its location, or else that of its diagnostic, and its message
abbrev pub related_location : List ℕ → List ℕ → TextRange → Note → List ℕ
related_location name text range note =
    codes "{" ++ location name text (unwrap_or note.range range) ++ codes "," ++ message_object note.message.now ++ codes "}"

-- the code and the severity of a result
abbrev pub rule_members : Code → List ℕ
rule_members code =
    codes "{\"ruleId\":\"" ++ (code_name code ++ (codes "\",\"level\":\"" ++ (severity_name (severity_of code) ++ codes "\",")))

-- a diagnostic as a result, with its notes as related locations
abbrev pub sarif_result : List ℕ → List ℕ → Diagnostic → List ℕ
sarif_result name text d =
    rule_members d.code ++ message_object (string_bytes d.message)
    ++ codes ",\"locations\":[{" ++ location name text d.range
    ++ codes "}],\"relatedLocations\":[" ++ comma_joined (map (related_location name text d.range) d.notes.items) ++ codes "]}"

-- what separates a result from what precedes it
abbrev pub separator : Bool → List ℕ
separator is_first = if is_first then codes "\n" else codes ",\n"
