-- Findings that the comment `# nix-check: ignore CODE` on the line before leaves out.
use Rattle.std.specs.Prelude.{◌≡◌, ◌≤◌, ◌-◌, ℕ, ◌==◌, ◌&&◌, ◌||◌, nat_eq, Bool, true, false, List, [], ◌∷◌, ◌++◌, length, take, drop, get_or, fold, codes, if◌then◌else◌}
use Rattle.std.specs.List.{starts_with}
use Rattle.nix_diagnostics.specs.declared.code.Code.{Code}
use Rattle.nix_diagnostics.specs.Codes.{code_name, code_number}
use Rattle.nix_lints.specs.declared.ignored.Place.{Place}
use Rattle.nix_lints.specs.Found.{Found}

-- spaces, tabs and carriage returns
abbrev pub is_blank : ℕ → Bool
is_blank byte = byte == 32 || (byte == 9 || byte == 13)

-- what separates names: blanks and commas
abbrev pub is_separator : ℕ → Bool
is_separator byte = is_blank byte || byte == 44

-- a name ends before this text
abbrev pub ends_before : List ℕ → Bool
ends_before [] = true
ends_before (byte ∷ rest) = is_separator byte

-- a text begins with a whole name
abbrev pub begins_with_name : List ℕ → List ℕ → Bool
begins_with_name text name = starts_with nat_eq text name && ends_before (drop (length name) text)

-- a name is among those in a text, each of which follows a separator
abbrev pub has_name : List ℕ → List ℕ → Bool
has_name [] name = false
has_name (byte ∷ rest) name = (is_separator byte && begins_with_name rest name) || has_name rest name

-- a line without the blanks before it
abbrev pub without_blanks : List ℕ → List ℕ
without_blanks [] = []
without_blanks (byte ∷ rest) = if is_blank byte then without_blanks rest else byte ∷ rest

-- how such a comment begins
abbrev pub marker : List ℕ
marker = codes "# nix-check: ignore"

-- the names in a line, if it is such a comment
abbrev pub names_of : List ℕ → List ℕ
names_of line = if starts_with nat_eq (without_blanks line) marker then drop (length marker) (without_blanks line) else []

-- a line and the line before it
pub record Lines : Type 0 where
  pub before : List ℕ
  pub current : List ℕ

-- the lines after one more byte: a line feed begins a new line
abbrev pub next_lines : Lines → ℕ → Lines
next_lines lines byte =
    if byte == 10 then record { before = lines.current; current = [] } else record { before = lines.before; current = lines.current ++ byte ∷ [] }

-- the line of an offset, up to the offset, and the line before it
abbrev pub lines_at : List ℕ → ℕ → Lines
lines_at text offset = fold next_lines record { before = []; current = [] } (take offset text)

-- the line before that in which a finding begins leaves out its lint
abbrev pub is_ignored : List ℕ → Found → Bool
is_ignored text f = has_name (names_of (lines_at text f.extent.start).before) (code_name f.code)

-- the marks say for each code by its number whether its name is among those in a text
abbrev pub AreMarks : List ℕ → List Bool → Type 0
AreMarks names marks = (code : Code) → get_or marks (code_number code) false ≡ has_name names (code_name code)

-- the program is at an offset of a text, and knows the line and what the line before it leaves out
pub record IsAt (text : List ℕ) (offset : ℕ) (place : Place) : Type 0 where
  pub text_is : place.text.now ≡ text
  pub offset_is : place.offset ≡ offset
  pub within : offset ≤ length text
  pub order : place.start ≤ offset
  pub current : (lines_at text offset).current ≡ take (offset - place.start) (drop place.start text)
  pub marks : AreMarks (names_of (lines_at text offset).before) place.marks.items

-- the marks say that a lint is left out
abbrev pub is_marked : Place → Code → Bool
is_marked place code = get_or place.marks.items (code_number code) false
