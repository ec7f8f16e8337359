-- The report on texts: a line for each name that is never used, and the exit status. A text is the list of its bytes.
use Rattle.std.specs.Prelude.{◌≡◌, ◌⊎◌, ℕ, Bool, List, [], ◌∷◌, ◌++◌, codes, decimal, Option, Some, None, if◌then◌else◌}
use Rattle.std.specs.List.{flat_map}
use Rattle.std.specs.Cow.{cow_str_bytes}
use Rattle.std.specs.Io.KnownBytes.{Appends, Keeps}
use Rattle.rnix_kinds.specs.Lexical.Tokens.{tokens_of}
use Rattle.rnix_green.specs.Tree.{Tree, Located}
use Rattle.rnix_grammar.specs.Fault.{Fault}
use Rattle.rnix_grammar.specs.Parsed.{IsParsed}
use Rattle.nix_cli.specs.JsonString.{json_string, shown_text}
use Rattle.nix_cli.specs.KnownTexts.{KnownTexts, Agrees}
use Rattle.nix_cli.specs.MessageLocations.{display_name, line_and_column, location_text}
use Rattle.nix_lints.specs.declared.unused.UnusedName.{UnusedName}
use Rattle.nix_dead.specs.Dead.{start_of}
use Rattle.nix_dead.specs.DeadNames.{AreDead}
use Rattle.nix_dead.specs.declared.options.Options.{Options}

-- the line of a name in a file
abbrev pub name_line : List ℕ → List ℕ → UnusedName → List ℕ
name_line file text name = location_text file text (start_of name) ++ (shown_text (cow_str_bytes name.text) ++ codes " is never used\n")

-- the members of a JSON object that say where a name is: its line, its column and its offset
abbrev pub location_members : ℕ × ℕ → ℕ → List ℕ
location_members location start =
    codes ",\"line\":" ++ decimal location.0 ++ codes ",\"column\":" ++ decimal location.1 ++ codes ",\"start\":" ++ decimal start ++ codes ",\"name\":"

-- the line of a name in a file, as a JSON object
abbrev pub name_object : List ℕ → List ℕ → UnusedName → List ℕ
name_object file text name =
    codes "{\"file\":" ++ json_string file ++ location_members (line_and_column text (start_of name)) (start_of name) ++ json_string (cow_str_bytes name.text)
    ++ codes "}\n"

-- the line of a name, as text or as JSON
unfoldable pub name_output : Bool → List ℕ → List ℕ → UnusedName → List ℕ
name_output is_json file text name = if is_json then name_object file text name else name_line file text name

-- the exit status, given the names that are reported: 1 if there are any
abbrev pub status_of : List UnusedName → ℕ
status_of [] = 0
status_of (name ∷ names) = 1

-- a tree is reported: a line is written for each of its unused names that is not left out, in the order of the text
pub record AreReported (options : Options) (file text : List ℕ) (root : Located) (old new : Option (List ℕ)) (status : ℕ) : Type 0 where
  pub names : List UnusedName
  pub exactly : AreDead text options root names
  pub written : Appends old new (flat_map (name_output options.is_json file text) names)
  pub status_is : status ≡ status_of names

-- a text is reported: if it has errors, nothing is written, and the status is 2; otherwise its tree is reported
pub record IsReported (options : Options) (file text : List ℕ) (old new : Option (List ℕ)) (status : ℕ) : Type 0 where
  pub tree : Tree
  pub faults : List Fault
  pub read : IsParsed (tokens_of text) tree faults
  pub faulty : ¬ (faults ≡ []) → (status ≡ 2) × Keeps old new
  pub faultless : faults ≡ [] → AreReported options file text record { tree = tree; number = 0 } old new status

-- a file is reported: nothing is written for a file that cannot be read, and its status is 2; otherwise its text is reported
abbrev pub IsFileReported : Options → KnownTexts → List ℕ → Option (List ℕ) → Option (List ℕ) → ℕ → Type 0
IsFileReported options texts file old new status =
    (Agrees (texts file) None × Keeps old new × (status ≡ 2))
    ⊎ ((text : List ℕ) × Agrees (texts file) (Some text) × IsReported options (display_name file) text old new status)
