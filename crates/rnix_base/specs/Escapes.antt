-- What the text inside a string means: its pieces, each with its value, up to the first place where no piece fits.
use Rattle.std.specs.Prelude.{ℕ, zero, suc, ◌≡◌, ◌<◌, ◌+◌, ◌-◌, Bool, not, ◌==◌, ◌&&◌, if◌then◌else◌, nat_lt, List, [], ◌∷◌, ◌++◌, drop, length, codes, slice_index, encode_utf8, Option, Some, None}
use Rattle.rnix_kinds.specs.Lexical.Texts.{begins}

-- a piece of a text: how many bytes it has, and what they mean
pub record Piece : Type 0 where
  pub len : ℕ
  pub value : List ℕ

-- what a byte after a backslash means: `n`, `r` and `t` for a line feed, a carriage return and a tab, any other for itself
abbrev pub escaped : ℕ → ℕ
escaped b = if b == 110 then 10 else (if b == 114 then 13 else (if b == 116 then 9 else b))

-- a byte that means itself, as each byte of a longer character does
abbrev pub itself : List ℕ → Option Piece
itself text = Some record { len = 1; value = slice_index text 0 ∷ [] }

-- a backslash after `before` bytes, with the byte that follows it, which may be the first of a longer character; no piece, if the text ends there
abbrev pub backslash : ℕ → List ℕ → Option Piece
backslash before text =
    if nat_lt (before + 1) (length text)
    then Some record { len = before + 2; value = escaped (slice_index text (before + 1)) ∷ [] }
    else None

-- the piece that begins a text between `"`
abbrev pub quoted_piece : List ℕ → Option Piece
quoted_piece text =
    if begins (codes "\"") text then None
    else (if begins (codes "\\") text then backslash 0 text
    else itself text)

-- the piece that begins a text between `''`
abbrev pub indented_piece : List ℕ → Option Piece
indented_piece text =
    if begins (codes "'''") text then Some record { len = 3; value = codes "''" }
    else (if begins (codes "''$") text then Some record { len = 3; value = codes "$" }
    else (if begins (codes "''\\") text then backslash 2 text
    else (if begins (codes "''") text then None
    else itself text)))

-- a byte that means itself if a piece begins with it
abbrev pub is_plain : Bool → ℕ → Bool
is_plain multiline b = if multiline then not (b == 39) else (not (b == 34) && not (b == 92))

-- the piece that begins a text that is not empty
abbrev pub first_piece : Bool → List ℕ → Option Piece
first_piece multiline text = if multiline then indented_piece text else quoted_piece text

-- what a text means after its first `inside` bytes, which belong to a piece that was read
unfoldable pub values : Bool → ℕ → List ℕ → List ℕ
values multiline inside [] = []
values multiline (suc inside) (b ∷ text) = values multiline inside text
values multiline zero (b ∷ text) =
    elim (first_piece multiline (b ∷ text)) [ None ↦ [] | Some piece ↦ piece.value ++ values multiline (piece.len - 1) text ]

-- what a text means
abbrev pub unescaped : Bool → List ℕ → List ℕ
unescaped multiline text = values multiline 0 text

-- a text is a first character and a rest
abbrev pub IsFirstChar : List ℕ → List ℕ → List ℕ → Type 0
IsFirstChar text first rest = (c : ℕ) × (first ≡ encode_utf8 c) × (text ≡ first ++ rest)

-- a text means this value and then what this shorter rest means
pub record Begins (multiline : Bool) (text value rest : List ℕ) : Type 0 where
  pub split : unescaped multiline text ≡ value ++ unescaped multiline rest
  pub shorter : length rest < length text

-- after a backslash, a text means this value and then what this shorter rest means
pub record Escapes (text value rest : List ℕ) : Type 0 where
  pub split : (multiline : Bool) → escaped (slice_index text 0) ∷ unescaped multiline (drop 1 text) ≡ value ++ unescaped multiline rest
  pub shorter : length rest < length text
