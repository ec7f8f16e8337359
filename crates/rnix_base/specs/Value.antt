-- The value of a string as Nix makes it.
use Rattle.std.specs.Prelude.{◌≡◌, ◌<◌, ℕ, zero, suc, ◌-◌, Bool, true, false, not, ◌==◌, ◌&&◌, if◌then◌else◌, List, [], ◌∷◌, map, length, slice_index, encode_utf8, Some, None}
use Rattle.std.specs.List.{flat_map, fold, list_any}
use Rattle.rnix_base.specs.declared.parts.InterpolPart.TheVariants.{Literal, Interpolation}
use Rattle.rnix_base.specs.Escapes.{indented_piece, unescaped}
use Rattle.rnix_base.specs.Normal.{Parts, Symbol, with_text, symbols, lines, least_indentation, shortened, with_texts, opened, trimmed, without_last_spaces}

-- the length of the escape that a text in `''` begins with; 0 if it begins with none
abbrev pub escape_len : List ℕ → ℕ
escape_len text = elim (indented_piece text) [ None ↦ 0 | Some piece ↦ if piece.len == 1 then 0 else piece.len ]

-- the byte that stands for an escape, which is text where the indentation is counted
abbrev pub escape_mark : ℕ
escape_mark = 39

-- a text in `''` with a mark in place of each escape, after its first `inside` bytes, which belong to an escape
unfoldable pub marked : ℕ → List ℕ → List ℕ
marked inside [] = []
marked (suc inside) (b ∷ text) = marked inside text
marked zero (b ∷ text) =
    if escape_len (b ∷ text) == 0 then b ∷ marked 0 text else escape_mark ∷ marked (escape_len (b ∷ text) - 1) text

-- a text in `''` with a mark in place of each escape
abbrev pub without_escapes : List ℕ → List ℕ
without_escapes text = marked 0 text

-- the last byte of a text; 0 if it has none
abbrev pub last_byte : List ℕ → ℕ
last_byte = fold (λ before b. b) 0

-- a text in `''` without the spaces after its last line feed, if nothing else is there; an escaped line feed ends no line
abbrev pub without_last_line : List ℕ → List ℕ
without_last_line text = if last_byte (without_escapes (trimmed text)) == 10 then without_last_spaces text else text

-- a rest of a text in `''` that is not empty: its first letter, a byte or the mark of an escape, and what follows
pub record IsLetter (text : List ℕ) (letter : ℕ) (rest : List ℕ) : Type 0 where
  pub split : without_escapes text ≡ letter ∷ without_escapes rest
  pub shorter : length rest < length text

-- the parts; the last, if it is a literal, without the spaces after its last line feed, if nothing else is there
unfoldable pub ended : {I : Type 0} → Parts I → Parts I
ended [] = []
ended (Literal text ∷ []) = Literal (without_last_line text) ∷ []
ended (part ∷ parts) = part ∷ ended parts

-- the least indentation of the parts, where an escape is text and ends no line
abbrev pub value_indentation : {I : Type 0} → Parts I → ℕ
value_indentation parts = least_indentation (lines (symbols 0 (map (with_text without_escapes) parts)))

-- the parts whose lines lose up to n of the spaces that they begin with
abbrev pub dedented : {I : Type 0} → ℕ → Parts I → Parts I
dedented n parts = with_texts (flat_map (shortened n) (lines (symbols 0 parts))) 0 parts

-- the value of a string in `''`: escapes are replaced before the lines lose their indentation, so an escaped line feed begins a line that does
abbrev pub indented_value : {I : Type 0} → Parts I → Parts I
indented_value parts = dedented (value_indentation (opened parts)) (map (with_text (unescaped true)) (ended (opened parts)))

-- a text between `"` in which a carriage return, with a line feed after it or without, is a line feed; a byte that a backslash precedes stays
unfoldable pub with_line_feeds : Bool → List ℕ → List ℕ
with_line_feeds is_escaped [] = []
with_line_feeds true (b ∷ text) = b ∷ with_line_feeds false text
with_line_feeds false (b ∷ text) =
    if b == 13
    then (if slice_index text 0 == 10 then with_line_feeds false text else 10 ∷ with_line_feeds false text)
    else b ∷ with_line_feeds (b == 92) text

-- what is written of a character in front of a rest: a line feed for a carriage return, or nothing if a line feed follows, unless the character is escaped
abbrev pub letter_with_line_feed : ℕ → List ℕ → Bool → List ℕ
letter_with_line_feed letter rest is_escaped =
    if letter == 13 && not is_escaped then (if slice_index rest 0 == 10 then [] else 10 ∷ []) else encode_utf8 letter

-- whether a text has a carriage return
abbrev pub has_return : List ℕ → Bool
has_return text = list_any (λ byte. byte == 13) text

-- the value of a text between `"`
abbrev pub quoted_text : List ℕ → List ℕ
quoted_text text = unescaped false (with_line_feeds false text)

-- the value of a string between `"`
abbrev pub quoted_value : {I : Type 0} → Parts I → Parts I
quoted_value = map (with_text quoted_text)
