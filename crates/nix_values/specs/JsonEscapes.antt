-- A text as a JSON string. A text is the list of its bytes.
use Rattle.std.specs.Prelude.{ℕ, ◌==◌, nat_lt, ◌/◌, ◌%◌, Bool, not, ◌&&◌, List, [], ◌∷◌, ◌++◌, codes, if◌then◌else◌}
use Rattle.std.specs.Char.{digit_char}
use Rattle.std.specs.List.{flat_map}

-- whether a byte needs no escape: it is not a control character below 32, a quote or a backslash
abbrev pub is_plain : ℕ → Bool
is_plain b = not (nat_lt b 32) && (not (b == 34) && not (b == 92))

-- the number of a control character in four digits
abbrev pub numbered : ℕ → List ℕ
numbered b = codes "\\u00" ++ digit_char (b / 16) ∷ digit_char (b % 16) ∷ []

-- the escape of a control character below 32, without the backslash: a letter, or else its number
abbrev pub control : ℕ → List ℕ
control b =
    if b == 8 then codes "\\b"
    else (if b == 9 then codes "\\t"
    else (if b == 10 then codes "\\n"
    else (if b == 12 then codes "\\f"
    else (if b == 13 then codes "\\r"
    else numbered b))))

-- a byte as it is written in a string: a control character, a quote and a backslash are escaped
unfoldable pub escape : ℕ → List ℕ
escape b =
    if is_plain b then b ∷ []
    else (if nat_lt b 32 then control b
    else 92 ∷ b ∷ [])

-- a text between quotes, with escapes
abbrev pub json_string : List ℕ → List ℕ
json_string text = codes "\"" ++ (flat_map escape text ++ codes "\"")
