-- Numbers in JSON (RFC 8259, section 6). Each part is given the offset at which it begins, and returns the offset at which it ends.
use Rattle.std.specs.Prelude.{ℕ, ◌+◌, ◌^◌, ◌==◌, nat_lt, pos, neg_ℤ, Bool, ◌||◌, List, take, drop, slice_index, Option, Some, None, option_map, option_and_then, if◌then◌else◌}
use Rattle.std.specs.List.{prefix_len}
use Rattle.std.specs.Char.{is_ascii_digit}
use Rattle.std.specs.Str.Parse.{digits_value}
use Rattle.nix_values.specs.Contents.{Plain, integer, float}
use Rattle.nix_values.specs.Floats.{without_first, float_text}

abbrev pub digits_end : ℕ → List ℕ → ℕ
digits_end from text = from + prefix_len is_ascii_digit (drop from text)

-- at least one digit
abbrev pub some_digits : ℕ → List ℕ → Option ℕ
some_digits from text = if digits_end from text == from then None else Some (digits_end from text)

-- `0`, or digits that begin with another digit
abbrev pub whole_end : ℕ → List ℕ → Option ℕ
whole_end from text = if slice_index text from == 48 then Some (from + 1) else some_digits from text

-- a point and digits, if there is a point
abbrev pub fraction_end : ℕ → List ℕ → Option ℕ
fraction_end from text = if slice_index text from == 46 then some_digits (from + 1) text else Some from

-- an `e`, an optional sign, and digits, if there is an `e`
abbrev pub exponent_end : ℕ → List ℕ → Option ℕ
exponent_end from text =
    if slice_index text from == 101 || slice_index text from == 69
    then (if slice_index text (from + 1) == 43 || slice_index text (from + 1) == 45 then some_digits (from + 2) text
    else some_digits (from + 1) text)
    else Some from

-- the fraction and the exponent after the integer part
abbrev pub decimals_end : ℕ → List ℕ → Option ℕ
decimals_end from text = option_and_then (λ end. exponent_end end text) (fraction_end from text)

-- the offset at which the integer part begins
abbrev pub unsigned_start : List ℕ → ℕ
unsigned_start text = if slice_index text 0 == 45 then 1 else 0

-- the offset at which a number ends, and whether it is an integer: without fraction and exponent
abbrev pub number_end : List ℕ → Option (ℕ × Bool)
number_end text =
    option_and_then (λ whole. option_map (λ end. (end, end == whole)) (decimals_end whole text)) (whole_end (unsigned_start text) text)

-- the absolute value of an integer
abbrev pub magnitude : List ℕ → ℕ
magnitude number = digits_value 10 (without_first 45 number)

-- an integer that Nix can write: more than -2^63 and less than 2^63
abbrev pub integer_value : List ℕ → Option Plain
integer_value number =
    if nat_lt (magnitude number) (2 ^ 63)
    then Some (integer (if slice_index number 0 == 45 then neg_ℤ (pos (magnitude number)) else pos (magnitude number)))
    else None

-- the value of a number
abbrev pub number_value : Bool → List ℕ → Option Plain
number_value is_integer number = if is_integer then integer_value number else option_map float (float_text number)

-- the number with which a text begins, and its length
unfoldable pub number_at : List ℕ → Option (Plain × ℕ)
number_at text = option_and_then (λ n. option_map (λ value. (value, n.0)) (number_value n.1 (take n.0 text))) (number_end text)
