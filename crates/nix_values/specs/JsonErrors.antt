-- Where and why a text is not JSON. Offsets count bytes.
use Rattle.std.specs.Prelude.{ℕ, zero, suc, ◌+◌, ◌-◌, ◌==◌, nat_lt, Bool, ◌||◌, List, [], ◌∷◌, drop, slice_index, Option, Some, None, option_map, option_and_then, if◌then◌else◌}
use Rattle.std.specs.Char.{is_ascii_digit}
use Rattle.nix_values.specs.declared.json_error.JsonReason.{JsonReason}
use Rattle.nix_values.specs.declared.json_error.JsonReason.TheVariants.{NoValue, NoName, NoColon, NoCommaInList, NoCommaInObject, AfterValue, OpenString, ControlCharacter, NoEscape, LoneSurrogate, HasNul, NoNumber, TooLarge, NoFloat, TooDeep}
use Rattle.nix_values.specs.declared.json_error.JsonError.{JsonError}
use Rattle.nix_values.specs.JsonContent.{code_unit, escape_at}
use Rattle.nix_values.specs.JsonNumbers.{number_end}
use Rattle.nix_values.specs.Json.{Token, opening, is_space, token_at, Part, value, first_item, more_items, first_member, more_members, member, named, parts_from}

-- an error at one offset
abbrev pub error_at : JsonReason → ℕ → JsonError
error_at reason offset = record { reason = reason; offset = offset; first = None }

-- a function of what was found, or a default if nothing was found
abbrev pub if_found : {T U : Type 0} → U → (T → U) → Option T → U
if_found none some None = none
if_found none some (Some x) = some x

-- ---- bytes that are not a token

-- why `\u` with this number, or without one, is not an escape
abbrev pub no_unit : Option ℕ → JsonReason
no_unit None = NoEscape
no_unit (Some unit) = if unit == 0 then HasNul else LoneSurrogate

-- why the bytes after a backslash are not an escape
abbrev pub no_escape : List ℕ → JsonReason
no_escape rest = if slice_index rest 0 == 117 then no_unit (code_unit (drop 1 rest)) else NoEscape

-- why a control character is not allowed in a string
abbrev pub no_character : ℕ → JsonReason
no_character b = if b == 0 then HasNul else ControlCharacter

-- the error of bytes that are not the rest of a string, given the offsets of the opening quote and of the bytes: it is at the first wrong escape or control
-- character, or else at the quote. The first bytes, as many as given, are skipped.
unfoldable pub string_error : ℕ → ℕ → ℕ → List ℕ → JsonError
string_error quote passed at [] = error_at OpenString quote
string_error quote (suc passed) at (b ∷ bs) = string_error quote passed (suc at) bs
string_error quote zero at (b ∷ bs) =
    if b == 92 then if_found (error_at (no_escape bs) at) (λ e. string_error quote e.1 (suc at) bs) (escape_at bs)
    else (if nat_lt b 32 then error_at (no_character b) at
    else string_error quote zero (suc at) bs)

-- why no number begins here, given the end of its digits and whether it is an integer
abbrev pub no_value : Option (ℕ × Bool) → JsonReason
no_value None = NoNumber
no_value (Some n) = if n.1 then TooLarge else NoFloat

abbrev pub no_number : List ℕ → JsonReason
no_number text = no_value (number_end text)

-- ---- tokens that do not fit

-- what is missing if these parts remain
abbrev pub expected : List Part → JsonReason
expected [] = AfterValue
expected (value depth name ∷ parts) = NoValue
expected (first_item depth ∷ parts) = NoValue
expected (more_items depth ∷ parts) = NoCommaInList
expected (first_member depth ∷ parts) = NoName
expected (more_members depth ∷ parts) = NoCommaInObject
expected (member depth ∷ parts) = NoName
expected (named depth name ∷ parts) = NoColon

-- why parts cannot begin with a token: an opening bracket where a value may come nests too deep; for other tokens something is missing
abbrev pub unfitting : List Part → Token → JsonReason
unfitting (value depth name ∷ parts) (opening is_set) = TooDeep
unfitting (first_item depth ∷ parts) (opening is_set) = TooDeep
unfitting parts token = expected parts

-- the error at an offset where no token begins
abbrev pub token_error : List Part → ℕ → ℕ → List ℕ → JsonError
token_error parts at b bs =
    if b == 34 then string_error at 0 (at + 1) bs
    else (if b == 45 || is_ascii_digit b then error_at (no_number (b ∷ bs)) at
    else error_at (expected parts) at)

-- ---- texts

-- where a text stops being JSON: the parts that remain, and the bytes from this offset on
pub record Stop : Type 0 where
  pub parts : List Part
  pub offset : ℕ
  pub rest : List ℕ

abbrev pub stop_at : List Part → ℕ → List ℕ → Stop
stop_at parts offset rest = record { parts = parts; offset = offset; rest = rest }

-- the parts that remain after the next token, and the token's length
abbrev pub parts_behind : List Part → ℕ → List ℕ → Option (List Part × ℕ)
parts_behind parts b bs = option_and_then (λ t. option_map (λ r. (r.0, t.1)) (parts_from parts t.0)) (token_at b bs)

-- where a text ends although parts remain
abbrev pub stop_at_end : List Part → ℕ → Option Stop
stop_at_end [] at = None
stop_at_end (part ∷ parts) at = Some (stop_at (part ∷ parts) at [])

-- where bytes at an offset stop forming these parts, one after another: where no token begins, at the first token that does not fit, or at the end. The
-- first bytes, as many as given, are skipped.
unfoldable pub stop_in : List Part → ℕ → ℕ → List ℕ → Option Stop
stop_in parts passed at [] = stop_at_end parts at
stop_in parts (suc passed) at (b ∷ bs) = stop_in parts passed (suc at) bs
stop_in parts zero at (b ∷ bs) =
    if is_space b then stop_in parts zero (suc at) bs
    else if_found (Some (stop_at parts at (b ∷ bs))) (λ r. stop_in r.0 (r.1 - 1) (suc at) bs) (parts_behind parts b bs)

-- where a text stops being JSON
abbrev pub json_stop : List ℕ → Option Stop
json_stop bytes = stop_in (value 0 [] ∷ []) 0 0 bytes

-- why a text stops being JSON at a place
abbrev pub stop_error : List Part → ℕ → List ℕ → JsonError
stop_error parts at [] = error_at (expected parts) at
stop_error parts at (b ∷ bs) = if_found (token_error parts at b bs) (λ t. error_at (unfitting parts t.0) at) (token_at b bs)

abbrev pub error_of : Stop → JsonError
error_of stop = stop_error stop.parts stop.offset stop.rest

-- the error of a text that is not JSON
abbrev pub json_error : List ℕ → Option JsonError
json_error bytes = option_map error_of (json_stop bytes)
