-- How the characters of a line are shown: what is printed for each, and the spaces and carets below it.
use Rattle.std.specs.Prelude.{ℕ, ◌+◌, ◌==◌, nat_lt, ◌||◌, ◌&&◌, not, Bool, List, [], ◌∷◌, if◌then◌else◌}
use Rattle.std.specs.Char.{encode_utf8}
use Rattle.std.specs.Str.{chars}
use Rattle.std.specs.List.{flat_map}

-- whether a character is ASCII and not a control character
abbrev pub is_simple : ℕ → Bool
is_simple c = not (nat_lt c 32) && nat_lt c 127

-- whether a number is between two others
abbrev pub is_between : ℕ → ℕ → ℕ → Bool
is_between low high c = not (nat_lt c low) && not (nat_lt high c)

-- the character that is printed for another: a picture if that is below 32 and not a tab; the replacement character if it is another control character, or
-- changes the direction of text
abbrev pub printed : ℕ → ℕ
printed c =
    if c == 9 then c
    else (if nat_lt c 32 then 9216 + c
    else (if is_between 127 159 c || (is_between 8234 8238 c || is_between 8294 8297 c) then 65533
    else c))

-- the bytes that are printed for a character
abbrev pub shown : ℕ → List ℕ
shown c = encode_utf8 (printed c)

-- whether a character has no width
abbrev pub is_joined : ℕ → Bool
is_joined c = is_between 768 879 c || (is_between 8203 8205 c || is_between 65024 65039 c)

-- whether a character is two columns wide
abbrev pub is_wide : ℕ → Bool
is_wide c =
    is_between 4352 4447 c || (is_between 11904 12350 c || (is_between 12353 42191 c || (is_between 44032 55203 c || (is_between 63744 64255 c
    || (is_between 65072 65135 c || (is_between 65280 65376 c || (is_between 65504 65510 c || (is_between 127744 128591 c
    || (is_between 129280 129535 c || is_between 131072 262141 c)))))))))

-- the width of a character in columns of a terminal
unfoldable pub columns_of : ℕ → ℕ
columns_of c = if is_joined c then 0 else (if is_wide c then 2 else 1)

-- the spaces below a character; a tab stays a tab
abbrev pub spaces : ℕ → List ℕ
spaces c =
    if c == 9 then 9 ∷ []
    else (if columns_of c == 0 then []
    else (if columns_of c == 1 then 32 ∷ []
    else 32 ∷ 32 ∷ []))

-- the carets below a character
abbrev pub carets : ℕ → List ℕ
carets c = if columns_of c == 2 then 94 ∷ 94 ∷ [] else 94 ∷ []

-- the carets below a text, at least one
abbrev pub carets_below : List ℕ → List ℕ
carets_below [] = 94 ∷ []
carets_below (b ∷ bs) = flat_map carets (chars (b ∷ bs))
