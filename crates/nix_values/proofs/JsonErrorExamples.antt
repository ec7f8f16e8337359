-- The errors of certain texts, by computation. Most of the texts are those of JSONTestSuite that a parser must refuse.
use Rattle.std.proofs.Common.{◌≡◌, ℕ, List, [], ◌∷◌, ◌++◌, refl, Some, None}
use Rattle.std.specs.Prelude.{codes}
use Rattle.nix_values.specs.declared.json_reader.TheConstants.{MOST_DEPTH}
use Rattle.nix_values.specs.declared.json_error.JsonReason.{JsonReason}
use Rattle.nix_values.specs.declared.json_error.JsonReason.TheVariants.{NoValue, NoName, NoColon, NoCommaInList, NoCommaInObject, AfterValue, OpenString, ControlCharacter, NoEscape, LoneSurrogate, HasNul, NoNumber, TooLarge, TooDeep}
use Rattle.nix_values.specs.JsonContent.{content, escape_at}
use Rattle.nix_values.specs.JsonNumbers.{number_at}
use Rattle.nix_values.specs.Json.{token_at, value, first_item, more_items}
use Rattle.nix_values.specs.JsonErrors.{stop_at, error_at, string_error, stop_in, json_error, error_of}

abbrev Stops : List ℕ → JsonReason → ℕ → Type 0
Stops text reason offset = json_error text ≡ Some (error_at reason offset)

-- texts that are JSON
none : (json_error (codes "[1, {\"a\": [true, null], \"b\" : {}}] ") ≡ None) × (json_error (codes " \"\\u00e9\"") ≡ None) × (json_error (codes "-0") ≡ None)
unfolding stop_in token_at number_at content escape_at
none = (refl, refl, refl)

-- a value is missing
values : Stops [] NoValue 0 × Stops (codes "  ") NoValue 2 × Stops (codes "[") NoValue 1 × Stops (codes "[\"\",]") NoValue 4 × Stops (codes "[1,,2]") NoValue 3
    × Stops (codes "[,]") NoValue 1 × Stops (codes "[}") NoValue 1 × Stops (codes "{\"a\":") NoValue 5 × Stops (codes "{\"x\"::\"b\"}") NoValue 5
    × Stops (codes "[{\"\":[{\"\":") NoValue 10
unfolding stop_in token_at number_at content
values = (refl, refl, refl, refl, refl, refl, refl, refl, refl, refl)

-- words that are no keywords, and other bytes
words : Stops (codes "[tru]") NoValue 1 × Stops (codes "[True]") NoValue 1 × Stops (codes "[nul") NoValue 1 × Stops (codes "[NaN]") NoValue 1
    × Stops (codes "[+1]") NoValue 1 × Stops (codes "[.123]") NoValue 1 × Stops (codes "['a']") NoValue 1 × Stops (239 ∷ 187 ∷ 191 ∷ codes "1") NoValue 0
    × Stops (codes "nullx") AfterValue 4
unfolding stop_in token_at
words = (refl, refl, refl, refl, refl, refl, refl, refl, refl)

-- lists
lists : Stops (codes "[\"\": 1]") NoCommaInList 3 × Stops (codes "[1:2]") NoCommaInList 2 × Stops (codes "[\"x\"") NoCommaInList 4
    × Stops (codes "[1 true]") NoCommaInList 3 × Stops (codes "[1}") NoCommaInList 2 × Stops (codes "[[] []") NoCommaInList 4
unfolding stop_in token_at number_at content
lists = (refl, refl, refl, refl, refl, refl)

-- objects
objects : Stops (codes "{\"asd\":\"asd\"") NoCommaInObject 12 × Stops (codes "{\"a\":1]") NoCommaInObject 6 × Stops (codes "{\"a\":1 \"b\"") NoCommaInObject 7
    × Stops (codes "{1:1}") NoName 1 × Stops (codes "{'a':0}") NoName 1 × Stops (codes "{") NoName 1 × Stops (codes "{\"id\":0,}") NoName 8
    × Stops (codes "{\"a\":\"b\",,\"c\":\"d\"}") NoName 9 × Stops (codes "{[") NoName 1
    × Stops (codes "{\"a\" b}") NoColon 5 × Stops (codes "{\"x\", null}") NoColon 4 × Stops (codes "{\"a\"") NoColon 4
unfolding stop_in token_at number_at content
objects = (refl, refl, refl, refl, refl, refl, refl, refl, refl, refl, refl, refl)

-- bytes after the value
more : Stops (codes "[\"\"],") AfterValue 4 × Stops (codes "[\"x\"]]") AfterValue 5 × Stops (codes "{\"a\":\"b\"}#") AfterValue 9
    × Stops (codes "{}}") AfterValue 2 × Stops (codes "1]") AfterValue 1 × Stops (codes "1 [") AfterValue 2 × Stops (codes "\"\" \"\"") AfterValue 3
unfolding stop_in token_at number_at content
more = (refl, refl, refl, refl, refl, refl, refl)

-- malformed numbers, and numbers that end before a byte that looks like a part of them
numbers : Stops (codes "[2.e3]") NoNumber 1 × Stops (codes "[1eE2]") NoNumber 1 × Stops (codes "[-]") NoNumber 1 × Stops (codes "[-a]") NoNumber 1
    × Stops (codes "[0e+") NoNumber 1 × Stops (codes "[-01]") NoCommaInList 3 × Stops (codes "[0x1]") NoCommaInList 2
    × Stops (codes "[1 000]") NoCommaInList 3 × Stops (codes "[9223372036854775808]") TooLarge 1 × Stops (codes "01") AfterValue 1
unfolding stop_in token_at number_at
numbers = (refl, refl, refl, refl, refl, refl, refl, refl, refl, refl)

-- malformed strings
strings : Stops (codes "[\"a\\x00\"]") NoEscape 3 × Stops (codes "[\"\\u00A\"]") NoEscape 2 × Stops (codes "[\"\\") NoEscape 2
    × Stops (codes "[\"\\\"]") OpenString 1 × Stops (codes "\"a") OpenString 0 × Stops (codes "[\"\\uD800\\\"]") LoneSurrogate 2
    × Stops (codes "[\"\\u00e9\\uDC00\"]") LoneSurrogate 8 × Stops (codes "\"\\u0000\"") HasNul 1 × Stops (34 ∷ 97 ∷ 0 ∷ 34 ∷ []) HasNul 2
    × Stops (codes "[\"new" ++ 10 ∷ codes "line\"]") ControlCharacter 5 × Stops (codes "{\"\\n" ++ 9 ∷ codes "\":1}") ControlCharacter 4
unfolding stop_in token_at content escape_at string_error
strings = (refl, refl, refl, refl, refl, refl, refl, refl, refl, refl, refl)

-- one list more than allowed
deep : (error_of (stop_at (value MOST_DEPTH [] ∷ more_items MOST_DEPTH ∷ []) 700 (codes "[]")) ≡ error_at TooDeep 700)
    × (error_of (record { parts = first_item MOST_DEPTH ∷ []; offset = 600; rest = codes "{}" }) ≡ error_at TooDeep 600)
unfolding token_at
deep = (refl, refl)
