-- A value as a string in `"`. A value is the list of its bytes.
use Rattle.std.specs.Prelude.{ℕ, ◌≡◌, ◌==◌, Bool, false, not, ◌&&◌, ◌||◌, List, [], ◌∷◌, ◌++◌, length, codes, if◌then◌else◌}
use Rattle.rnix_kinds.specs.Lexical.Strings.{content_len}
use Rattle.rnix_base.specs.Escapes.{unescaped}

-- whether a byte is written as it is whatever follows: it is no quote, no backslash, no end of a line, no tab and no dollar sign
abbrev pub is_ordinary : ℕ → Bool
is_ordinary b = not (b == 9) && (not (b == 10) && (not (b == 13) && (not (b == 34) && (not (b == 36) && not (b == 92)))))

-- whether a text begins with a brace
abbrev pub begins_with_brace : List ℕ → Bool
begins_with_brace [] = false
begins_with_brace (b ∷ rest) = b == 123

-- what is written of a byte in front of a rest: a letter or the byte itself after a backslash, or the byte alone
unfoldable pub escape_of : ℕ → List ℕ → List ℕ
escape_of b rest =
    if b == 9 then codes "\\t"
    else (if b == 10 then codes "\\n"
    else (if b == 13 then codes "\\r"
    else (if (b == 34) || ((b == 92) || ((b == 36) && begins_with_brace rest)) then 92 ∷ b ∷ []
    else b ∷ [])))

-- what is written of a value between the quotes
unfoldable pub inside_of : List ℕ → List ℕ
inside_of [] = []
inside_of (b ∷ rest) = escape_of b rest ++ inside_of rest

-- a value between quotes
abbrev pub nix_string : List ℕ → List ℕ
nix_string value = codes "\"" ++ (inside_of value ++ codes "\"")

-- a text is one string in `"` whose value is the given one: whatever follows, its content ends at the closing quote and has no interpolation
pub record IsQuoted (value text : List ℕ) : Type 0 where
  pub inside : List ℕ
  pub text_is : text ≡ codes "\"" ++ inside ++ codes "\""
  pub value_is : unescaped false inside ≡ value
  pub is_content : (rest : List ℕ) → content_len false (inside ++ codes "\"" ++ rest) ≡ length inside
