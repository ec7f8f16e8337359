-- Definitions about a text, which is a list of bytes.
use Rattle.std.specs.Prelude.{ℕ, suc, ◌+◌, Bool, true, cond, ◌&&◌, ◌||◌, ◌==◌, nat_lt, List, [], ◌∷◌, take, drop, length, slice_index}
use Rattle.std.specs.List.{prefix_len, take_while, list_any}
use Rattle.std.specs.Char.{is_whitespace, len_utf8}
use Rattle.std.specs.Str.{chars, encode_utf8_all}

-- these bytes occur in the text at the index i
abbrev pub occurs_at : List ℕ → ℕ → List ℕ → Bool
occurs_at [] i text = true
occurs_at (b ∷ []) i text = slice_index text i == b
occurs_at (b ∷ c ∷ bs) i text = slice_index text i == b && occurs_at (c ∷ bs) (suc i) text

-- these bytes begin the text
abbrev pub begins : List ℕ → List ℕ → Bool
begins bytes = occurs_at bytes 0

-- where the longest run of bytes that pass the test ends, if it begins at the index i
abbrev pub run_end : (ℕ → Bool) → ℕ → List ℕ → ℕ
run_end test i text = i + prefix_len test (drop i text)

-- how many bytes come before the first a that a b follows; all of them, if there is none
unfoldable pub before_pair : ℕ → ℕ → List ℕ → ℕ
before_pair a b [] = 0
before_pair a b (x ∷ text) = cond (x == a && slice_index text 0 == b) 0 (1 + before_pair a b text)

-- white space of ASCII
abbrev pub is_blank : ℕ → Bool
is_blank b = (nat_lt 8 b && nat_lt b 14) || b == 32

-- the length of the longest run of white space at the front
unfoldable pub space_len : List ℕ → ℕ
space_len text = length (encode_utf8_all (take_while is_whitespace (chars text)))

-- the text begins with white space
unfoldable pub begins_space : List ℕ → Bool
begins_space text = list_any is_whitespace (take 1 (chars text))

-- the length of the first character
unfoldable pub char_len : List ℕ → ℕ
char_len text = len_utf8 (slice_index (chars text) 0)
