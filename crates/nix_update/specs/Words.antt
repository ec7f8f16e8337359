-- The words of a text, and a list of strings.
use Rattle.std.specs.Prelude.{◌≡◌, ℕ, ◌<◌, List, [], ◌∷◌, ◌++◌, length, flat_map, codes}
use Rattle.std.specs.Str.{NoCharPasses, EmptyOrStartsWithPassing}
use Rattle.std.specs.Char.{is_whitespace, is_not_whitespace}
use Rattle.rnix_base.specs.Quoted.{nix_string, IsQuoted}

-- a text consists of white space, a word, and a rest, which is empty or begins with white space
pub record StartsWithWord (text word rest : List ℕ) : Type 0 where
  pub gap : List ℕ
  pub split : text ≡ gap ++ (word ++ rest)
  pub some : 0 < length word
  pub gap_is_blank : NoCharPasses is_not_whitespace gap
  pub word_has_no_space : NoCharPasses is_whitespace word
  pub rest_starts_blank : (more : List ℕ) × EmptyOrStartsWithPassing is_whitespace rest more

-- these are the words of a text, in order
abbrev pub AreWords : List ℕ → List (List ℕ) → Type 0
AreWords text [] = NoCharPasses is_not_whitespace text
AreWords text (word ∷ words) = (rest : List ℕ) × StartsWithWord text word rest × AreWords rest words

-- an item of the list
abbrev pub item_text : List ℕ → List ℕ
item_text word = nix_string word ++ codes " "

-- the list of some words as strings
abbrev pub list_text : List (List ℕ) → List ℕ
list_text words = codes "[ " ++ (flat_map item_text words ++ codes "]")

-- a text is the list of the words of a value as strings, in order
pub record IsListOf (value text : List ℕ) : Type 0 where
  pub words : List (List ℕ)
  pub are_words : AreWords value words
  pub text_is : text ≡ list_text words
  pub are_quoted : (word : List ℕ) → IsQuoted word (nix_string word)
