-- The names of a dotted path.
use Rattle.std.specs.Prelude.{ℕ, ◌+◌, ◌-◌, ◌*◌, ◌^◌, ◌==◌, nat_lt, ◌&&◌, Bool, true, false, List, [], ◌∷◌, ◌++◌, map, string_bytes, Option, Some, None, option_and_then, if◌then◌else◌}
use Rattle.std.specs.Char.{is_ascii_digit, encode_utf8}
use Rattle.std.specs.Str.{chars}
use Rattle.nix_values.specs.declared.path_names.PathName.{PathName}
use Rattle.nix_values.specs.declared.path_names.State.{State}
use Rattle.nix_values.specs.declared.path_names.State.TheVariants as state
use Rattle.nix_values.specs.declared.path_names.Reading.{Reading}
use Rattle.nix_values.specs.Each.{each}

-- a name of a path, and the index that it is, if it is one
pub record Name : Type 0 where
  pub text : List ℕ
  pub index : Option ℕ

abbrev pub name_of : PathName → Name
name_of name = record { text = string_bytes name.text; index = name.index }

-- a number with one more digit, if the byte is one and the number fits in 64 bits
abbrev pub with_digit : ℕ → ℕ → Option ℕ
with_digit number byte =
    if is_ascii_digit byte && nat_lt (number * 10 + (byte - 48)) (2 ^ 64) then Some (number * 10 + (byte - 48)) else None

-- the number that more digits make of a number
abbrev pub with_digits : ℕ → List ℕ → Option ℕ
with_digits number [] = Some number
with_digits number (byte ∷ bytes) = option_and_then (λ more. with_digits more bytes) (with_digit number byte)

-- the index that a name is, if it is digits
abbrev pub index_of : List ℕ → Option ℕ
index_of [] = None
index_of (byte ∷ bytes) = with_digits 0 (byte ∷ bytes)

-- a path that is being read: its names so far, the bytes of the name that is being read, whether this is in quotes, and what was read last
pub record Progress : Type 0 where
  pub names : List Name
  pub text : List ℕ
  pub is_quoted : Bool
  pub state : State

abbrev pub progress_of : Reading → Progress
progress_of reading = record {
  names = map name_of reading.names.items;
  text = string_bytes reading.text;
  is_quoted = reading.is_quoted;
  state = reading.state;
}

-- before the first character
abbrev pub started : Progress
started = record { names = []; text = []; is_quoted = false; state = state.Start }

-- after a character is added to the name
abbrev pub added : ℕ → State → Progress → Progress
added letter next p = record { names = p.names; text = p.text ++ encode_utf8 letter; is_quoted = p.is_quoted; state = next }

-- after a character that is no part of the name
abbrev pub moved : State → Progress → Progress
moved next p = record { names = p.names; text = p.text; is_quoted = p.is_quoted; state = next }

-- after the name begins with a quote
abbrev pub opened : Progress → Progress
opened p = record { names = p.names; text = p.text; is_quoted = true; state = state.Quoted }

-- the name that is being read: one in quotes is no index
abbrev pub name_read : Progress → Name
name_read p = record { text = p.text; index = if p.is_quoted then None else index_of p.text }

-- after the name ends
abbrev pub ended : Progress → Progress
ended p = record { names = p.names ++ name_read p ∷ []; text = []; is_quoted = false; state = state.Start }

-- the character that a backslash and a letter mean in quotes
abbrev pub unescaped : ℕ → ℕ
unescaped letter = if letter == 110 then 10 else (if letter == 114 then 13 else (if letter == 116 then 9 else letter))

-- after a character outside of quotes, and in quotes: a dot ends a name, a quote ends the quotes, and a backslash escapes the next character
abbrev pub plain_read : ℕ → Progress → Progress
plain_read letter p = if letter == 46 then ended p else added letter state.Plain p

abbrev pub quoted_read : ℕ → Progress → Progress
quoted_read letter p =
    if letter == 34 then moved state.Closed p else (if letter == 92 then moved state.Escape p else added letter state.Quoted p)

-- after a character, by what was read last: only a dot may follow a closing quote
abbrev pub read_after : State → ℕ → Progress → Option Progress
read_after state.Start letter p = Some (if letter == 34 then opened p else plain_read letter p)
read_after state.Plain letter p = Some (plain_read letter p)
read_after state.Quoted letter p = Some (quoted_read letter p)
read_after state.Escape letter p = Some (added (unescaped letter) state.Quoted p)
read_after state.Closed letter p = if letter == 46 then Some (ended p) else None

abbrev pub letter_read : ℕ → Progress → Option Progress
letter_read letter p = read_after p.state letter p

-- the names of a path that has been read: its last name has no quote that is not closed
abbrev pub names_read : State → Progress → Option (List Name)
names_read state.Quoted p = None
names_read state.Escape p = None
names_read _ p = Some (ended p).names

abbrev pub finished : Progress → Option (List Name)
finished p = names_read p.state p

-- the names of a path
abbrev pub path_names : List ℕ → Option (List Name)
path_names path = option_and_then finished (each letter_read (chars path) started)
