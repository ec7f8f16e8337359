-- Floats as both Nix and JSON write them.
use Rattle.std.specs.Prelude.{ℕ, ◌==◌, nat_le, Bool, true, false, not, ◌&&◌, ◌||◌, List, [], ◌∷◌, ◌++◌, length, take, drop, slice_index, Option, Some, None, if◌then◌else◌}
use Rattle.std.specs.List.{prefix_len}
use Rattle.std.specs.Char.{is_ascii_digit}
use Rattle.std.specs.Float.{is_normal}
use Rattle.std.specs.Float.Ieee.{Float, binary64, eq}
use Rattle.std.specs.Float.Parse.{parse_float}
use Rattle.nix_values.specs.declared.float.TheConstants.{ZERO}

-- whether a number has a digit other than 0 before its exponent
abbrev pub has_value : List ℕ → Bool
has_value [] = false
has_value (b ∷ bs) = if nat_le 49 b && nat_le b 57 then true else (if b == 101 || b == 69 then false else has_value bs)

-- whether a float represents a number: it is neither infinite nor so small that digits are lost
abbrev pub holds : Option Float → List ℕ → Bool
holds None number = false
holds (Some float) number = is_normal binary64 float || (eq float ZERO && not (has_value number))

-- whether Nix can hold a number
abbrev pub is_held : List ℕ → Bool
is_held number = holds (parse_float binary64 number) number

-- a text without its first byte, if that is the given one
abbrev pub without_first : ℕ → List ℕ → List ℕ
without_first byte text = if slice_index text 0 == byte then drop 1 text else text

-- the digits with which a text begins, and what follows them
abbrev pub first_digits : List ℕ → List ℕ
first_digits text = take (prefix_len is_ascii_digit text) text

abbrev pub after_digits : List ℕ → List ℕ
after_digits text = drop (prefix_len is_ascii_digit text) text

-- digits, or `0` if there are none
abbrev pub or_zero : List ℕ → List ℕ
or_zero digits = if length digits == 0 then 48 ∷ [] else digits

-- the digits and the exponent that follow a point
abbrev pub fraction_text : List ℕ → List ℕ
fraction_text text = or_zero (first_digits text) ++ after_digits text

-- a number without a sign, with a point between digits
abbrev pub unsigned_text : List ℕ → List ℕ
unsigned_text text = or_zero (first_digits text) ++ (46 ∷ fraction_text (without_first 46 (after_digits text)))

-- a number with a point between digits
abbrev pub with_point : List ℕ → List ℕ
with_point number = (if slice_index number 0 == 45 then 45 ∷ [] else []) ++ unsigned_text (without_first 45 number)

-- a number as both Nix and JSON write it, if Nix can hold it
abbrev pub float_text : List ℕ → Option (List ℕ)
float_text number = if is_held number then Some (with_point number) else None
