-- The values of JSON strings (RFC 8259, section 7). A text is the list of its bytes.
use Rattle.std.specs.Prelude.{◌≡◌, ◌<◌, ℕ, zero, suc, ◌+◌, ◌-◌, ◌*◌, ◌==◌, nat_lt, nat_le, Bool, true, ◌&&◌, List, [], ◌∷◌, ◌++◌, drop, slice_index, Option, Some, None, option_map, option_and_then, if◌then◌else◌}
use Rattle.std.specs.Char.{digit_value, is_digit, encode_utf8}

-- the value of the hexadecimal digit at an index
abbrev pub hex_at : List ℕ → ℕ → ℕ
hex_at text i = digit_value (slice_index text i)

-- the byte at an index is a hexadecimal digit with this value
abbrev pub IsHexAt : List ℕ → ℕ → ℕ → Type 0
IsHexAt text i value = (is_digit (slice_index text i) 16 ≡ true) × (value ≡ hex_at text i) × (value < 16)

-- whether a text begins with four hexadecimal digits
abbrev pub begins_hex : List ℕ → Bool
begins_hex text =
    is_digit (slice_index text 0) 16
    && (is_digit (slice_index text 1) 16 && (is_digit (slice_index text 2) 16 && is_digit (slice_index text 3) 16))

-- the code unit that four hexadecimal digits write
abbrev pub code_unit : List ℕ → Option ℕ
code_unit text =
    if begins_hex text then Some (hex_at text 0 * 4096 + (hex_at text 1 * 256 + (hex_at text 2 * 16 + hex_at text 3)))
    else None

-- whether a code unit is the first half of a surrogate pair; whether it is the second half
abbrev pub is_high : ℕ → Bool
is_high unit = nat_le 0xD800 unit && nat_lt unit 0xDC00

abbrev pub is_low : ℕ → Bool
is_low unit = nat_le 0xDC00 unit && nat_lt unit 0xE000

-- the character of a surrogate pair
abbrev pub pair_of : ℕ → ℕ → ℕ
pair_of high low = (high - 0xD800) * 1024 + (low - 0xDC00) + 0x10000

-- the second half of a pair, written as an escape
abbrev pub low_half : List ℕ → Option ℕ
low_half text = if slice_index text 0 == 92 && slice_index text 1 == 117 then code_unit (drop 2 text) else None

-- the character of a pair, given its first half and the second half that follows, and the length of both escapes after the backslash
abbrev pub paired : ℕ → Option ℕ → Option (ℕ × ℕ)
paired high None = None
paired high (Some low) = if is_low low then Some (pair_of high low, 11) else None

-- the character of a code unit, given what follows it, and the length of the escape after the backslash. A string in Nix cannot contain the character 0.
abbrev pub escaped_unit : Option ℕ → List ℕ → Option (ℕ × ℕ)
escaped_unit None rest = None
escaped_unit (Some unit) rest =
    if unit == 0 then None
    else (if is_high unit then paired unit (low_half rest)
    else (if is_low unit then None
    else Some (unit, 5)))

-- the character that a letter after a backslash means
abbrev pub short_escape : ℕ → Option ℕ
short_escape x =
    if x == 34 then Some 34
    else (if x == 92 then Some 92
    else (if x == 47 then Some 47
    else (if x == 98 then Some 8
    else (if x == 102 then Some 12
    else (if x == 110 then Some 10
    else (if x == 114 then Some 13
    else (if x == 116 then Some 9
    else None)))))))

-- the character with the four digits after `\u`, and the length of the escape after the backslash
abbrev pub numbered : List ℕ → Option (ℕ × ℕ)
numbered text = escaped_unit (code_unit text) (drop 4 text)

-- the character of the escape after a backslash, and the length of the escape there
unfoldable pub escape_at : List ℕ → Option (ℕ × ℕ)
escape_at rest =
    if slice_index rest 0 == 117 then numbered (drop 1 rest)
    else option_map (λ c. (c, 1)) (short_escape (slice_index rest 0))

-- what is found after a number of bytes, preceded by the value of these bytes
abbrev pub behind : List ℕ → ℕ → Option (List ℕ × ℕ) → Option (List ℕ × ℕ)
behind bytes n found = option_map (λ r. (bytes ++ r.0, n + r.1)) found

-- the value of the bytes up to the closing quote, and their number including the quote; the first `passed` bytes are counted, but add nothing to the value
unfoldable pub content : ℕ → List ℕ → Option (List ℕ × ℕ)
content passed [] = None
content (suc passed) (b ∷ bs) = behind [] 1 (content passed bs)
content zero (b ∷ bs) =
    if b == 34 then Some ([], 1)
    else (if b == 92 then option_and_then (λ e. behind (encode_utf8 e.0) 1 (content e.1 bs)) (escape_at bs)
    else (if nat_lt b 32 then None
    else behind (b ∷ []) 1 (content zero bs)))
