-- A text as a JSON string. A text is the list of its bytes.
use Rattle.std.specs.Prelude.{ℕ, ◌==◌, nat_lt, ◌/◌, ◌%◌, Bool, not, ◌&&◌, List, [], ◌∷◌, ◌++◌, codes, if◌then◌else◌}
use Rattle.std.specs.Char.{digit_char}
use Rattle.std.specs.List.{flat_map, list_all}

-- whether a byte needs no escape: it is not a control character below 32, a quote or a backslash
abbrev pub is_plain : ℕ → Bool
is_plain b = not (nat_lt b 32) && (not (b == 34) && not (b == 92))

-- a byte as it is written in a string: itself, the number of a control character below 32 in four digits, or a quote or a backslash after a backslash
unfoldable pub escape : ℕ → List ℕ
escape b =
    if is_plain b then b ∷ []
    else (if nat_lt b 32 then codes "\\u00" ++ digit_char (b / 16) ∷ digit_char (b % 16) ∷ []
    else 92 ∷ b ∷ [])

-- the text between quotes, with escapes
abbrev pub json_string : List ℕ → List ℕ
json_string text = codes "\"" ++ (flat_map escape text ++ codes "\"")

-- a name in messages: the text itself, or the JSON string if that has escapes
abbrev pub shown_text : List ℕ → List ℕ
shown_text text = if list_all is_plain text then text else json_string text
