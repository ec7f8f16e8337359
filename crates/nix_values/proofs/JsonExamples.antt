-- What certain texts mean as JSON, by computation.
use Rattle.std.proofs.Common.{◌≡◌, ℕ, pos, negsuc, true, false, List, [], ◌∷◌, ◌++◌, refl, None}
use Rattle.std.specs.Prelude.{codes}
use Rattle.std.specs.Char.{encode_utf8}
use Rattle.nix_values.specs.declared.json_reader.TheConstants.{MOST_DEPTH}
use Rattle.nix_values.specs.Contents.{Plain, null, boolean, integer, text, list, set, Entry}
use Rattle.nix_values.specs.JsonContent.{escape_at, content}
use Rattle.nix_values.specs.JsonNumbers.{number_at}
use Rattle.nix_values.specs.Json.{opening, token_at, tokens_behind, value_from, meaning, json_values, IsJson}

abbrev at : ℕ → List ℕ → Plain → Entry
at depth name plain = record { depth = depth; name = name; plain = plain }

-- white space around a word
word : IsJson (32 ∷ 9 ∷ 10 ∷ 13 ∷ codes "null" ++ 10 ∷ []) (at 0 [] null ∷ [])
unfolding tokens_behind token_at meaning
word = refl

items : IsJson (codes "[1, -20,[ ] , true]")
    (at 0 [] list ∷ at 1 [] (integer (pos 1)) ∷ at 1 [] (integer (negsuc 19)) ∷ at 1 [] list ∷ at 1 [] (boolean true) ∷ [])
unfolding tokens_behind token_at meaning number_at
items = refl

members : IsJson (codes "{\"a\": {}, \"b\" :[\"x\"]}") (at 0 [] set ∷ at 1 (codes "a") set ∷ at 1 (codes "b") list ∷ at 2 [] (text (codes "x")) ∷ [])
unfolding tokens_behind token_at meaning content
members = refl

-- each escape: a letter of two bytes, and a surrogate pair for four bytes
escapes : IsJson (codes "\"\\\"\\\\\\/\\b\\f\\n\\r\\t\\u00E9\\ud83d\\uDE00\"")
    (at 0 [] (text (34 ∷ 92 ∷ 47 ∷ 8 ∷ 12 ∷ 10 ∷ 13 ∷ 9 ∷ 195 ∷ 169 ∷ 240 ∷ 159 ∷ 152 ∷ 128 ∷ [])) ∷ [])
unfolding tokens_behind token_at meaning content escape_at encode_utf8
escapes = refl

-- half of a pair, the character 0, a letter that makes no escape, a control character, and no closing quote
half : json_values (codes "\"\\ud83d\"") ≡ None
unfolding tokens_behind token_at meaning content escape_at
half = refl

nul : json_values (codes "\"\\u0000\"") ≡ None
unfolding tokens_behind token_at meaning content escape_at
nul = refl

no_escape : json_values (codes "\"\\x\"") ≡ None
unfolding tokens_behind token_at meaning content escape_at
no_escape = refl

control : json_values (34 ∷ 9 ∷ 34 ∷ []) ≡ None
unfolding tokens_behind token_at meaning content
control = refl

unclosed : json_values (codes "\"a") ≡ None
unfolding tokens_behind token_at meaning content
unclosed = refl

-- the smallest integer, and the first one that is too large
smallest : IsJson (codes "-9223372036854775807") (at 0 [] (integer (negsuc 9223372036854775806)) ∷ [])
unfolding tokens_behind token_at meaning number_at
smallest = refl

too_large : json_values (codes "9223372036854775808") ≡ None
unfolding tokens_behind token_at meaning number_at
too_large = refl

leading_zero : json_values (codes "01") ≡ None
unfolding tokens_behind token_at meaning number_at
leading_zero = refl

no_fraction : json_values (codes "1.") ≡ None
unfolding tokens_behind token_at meaning number_at
no_fraction = refl

-- the grammar
no_value : json_values [] ≡ None
unfolding tokens_behind meaning
no_value = refl

trailing_comma : json_values (codes "[1,]") ≡ None
unfolding tokens_behind token_at meaning number_at
trailing_comma = refl

no_comma : json_values (codes "[1 2]") ≡ None
unfolding tokens_behind token_at meaning number_at
no_comma = refl

no_colon : json_values (codes "{\"a\" 1}") ≡ None
unfolding tokens_behind token_at meaning content number_at
no_colon = refl

other_bracket : json_values (codes "[}") ≡ None
unfolding tokens_behind token_at meaning
other_bracket = refl

two_values : json_values (codes "1 2") ≡ None
unfolding tokens_behind token_at meaning number_at
two_values = refl

too_deep : value_from MOST_DEPTH [] (opening false) ≡ None
too_deep = refl
