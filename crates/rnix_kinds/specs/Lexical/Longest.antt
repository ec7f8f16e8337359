-- What the definitions of lengths mean: a longest run, a longest sequence of pieces, a first pair, the longest operator; and where a scheme ends.
use Rattle.std.specs.Prelude.{◌≡◌, ◌==◌, ◌⊎◌, ℕ, ◌+◌, ◌<◌, ◌≤◌, Bool, true, not, List, [], ◌∷◌, take, drop, length, slice_index}
use Rattle.std.specs.List.{list_all, prefix_len}
use Rattle.rnix_kinds.specs.declared.kinds.SyntaxKind.{SyntaxKind}
use Rattle.rnix_kinds.specs.declared.tokenizer.text.Class.TheVariants.{Step}
use Rattle.rnix_kinds.specs.Lexical.Classes.{class_test}
use Rattle.rnix_kinds.specs.Lexical.Texts.{begins}
use Rattle.rnix_kinds.specs.Lexical.Strings.{piece_len}

-- n is a member, and no larger number is
pub record IsLongest (Member : ℕ → Type 0) (n : ℕ) : Type 0 where
  pub member : Member n
  pub longest : (m : ℕ) → Member m → m ≤ n

-- the text has n bytes or more, and the first n pass the test
abbrev pub IsRun : (ℕ → Bool) → List ℕ → ℕ → Type 0
IsRun test text n = (n ≤ length text) × (list_all test (take n text) ≡ true)

-- the first n bytes are pieces of a string, one after another
pub data IsRow (multiline : Bool) : ℕ → List ℕ → Type 0 where
  empty : (text : List ℕ) → IsRow multiline 0 text
  piece : (n : ℕ) (text : List ℕ) → 0 < piece_len multiline text → piece_len multiline text ≤ length text
      → IsRow multiline n (drop (piece_len multiline text) text) → IsRow multiline (piece_len multiline text + n) text

-- n is the largest number of first bytes that are pieces of a string, if the text continues after them
abbrev pub IsLongestContent : Bool → List ℕ → ℕ → Type 0
IsLongestContent multiline text n = n < length text → IsLongest (λ m. IsRow multiline m text) n

-- the bytes at the indices k and k + 1 are a and b
abbrev pub IsPair : ℕ → ℕ → List ℕ → ℕ → Type 0
IsPair a b text k = (k + 1 < length text) × (slice_index text k ≡ a) × (slice_index text (k + 1) ≡ b)

-- n is the first index of the pair, or the length of the text if there is none
pub record IsFirstPair (a b : ℕ) (text : List ℕ) (n : ℕ) : Type 0 where
  pub within : n ≤ length text
  pub found : n < length text → IsPair a b text n
  pub first : (k : ℕ) → IsPair a b text k → n ≤ k

-- one of the rows has n bytes, and they begin the text
abbrev pub FitsRow : List (List ℕ × SyntaxKind) → List ℕ → ℕ → Type 0
FitsRow [] text n = ⊥
FitsRow (row ∷ rows) text n = ((begins row.0 text ≡ true) × (length row.0 ≡ n)) ⊎ FitsRow rows text n

-- the path characters other than `/` that begin the text contain no `_`, and `:` follows them
abbrev pub IsScheme : List ℕ → Type 0
IsScheme text =
    (list_all (λ b. not (b == 95)) (take (prefix_len (class_test Step) text) text) ≡ true)
    × (slice_index text (prefix_len (class_test Step) text) ≡ 58)
