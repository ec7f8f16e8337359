-- The tokens of a text as the reader stores them.
use Rattle.std.specs.Prelude.{◌≡◌, ◌≤◌, ◌+◌, ◌-◌, ℕ, zero, suc, List, [], ◌∷◌, length, take, drop, flat_map, true, refl}
use Rattle.std.specs.Coded.{Coded, code_by, coded×, coded_ℕ, coded_list}
use Rattle.std.specs.Str.{IsCharBoundary}
use Rattle.rnix_kinds.specs.declared.kinds.SyntaxKind.{SyntaxKind}
use Rattle.rnix_kinds.specs.contracts.kinds.SyntaxKind.{the_row}
use Rattle.rnix_kinds.specs.SyntaxKind.{is_trivia}
use Rattle.rnix_kinds.specs.Lexical.Tokens.{Lexeme}
use Rattle.rnix_grammar.specs.AnnotatedForest.{Token}
use Rattle.rnix_grammar.specs.Layout.{from_item, tail_of}
use Rattle.rnix_reader.specs.declared.cursor.PlacedToken.{PlacedToken}
use Rattle.rnix_reader.specs.declared.cursor.TokenEnd.{TokenEnd}

-- the token that the reader sees
abbrev pub token_of : PlacedToken → Token
token_of t = record { kind = t.kind; text = t.text.now; start = t.start; end = t.end }

-- tokens as numbers and lists
abbrev pub tokens_code : Coded (List Token)
tokens_code =
    coded_list
    (code_by (SyntaxKind × (List ℕ × (ℕ × ℕ))) (coded× the_row.coded (coded× (coded_list coded_ℕ) (coded× coded_ℕ coded_ℕ)))
    (λ t. (t.kind, (t.text, (t.start, t.end)))) (λ p. record { kind = p.0; text = p.1.0; start = p.1.1.0; end = p.1.1.1 }) (λ _. refl))

-- the texts of some tokens, joined
abbrev pub texts_in : List Token → List ℕ
texts_in ts = flat_map (λ (t : Token). t.text) ts

-- the kinds and the ends of tokens, the first of which begins at an offset
abbrev pub ends_from : ℕ → List Lexeme → List TokenEnd
ends_from start [] = []
ends_from start (l ∷ ls) = record { kind = l.0; end = start + length l.1 } ∷ ends_from (start + length l.1) ls

-- the token of a text with a kind, a start and an end
abbrev pub token_cut : List ℕ → ℕ → TokenEnd → Token
token_cut text start t = record { kind = t.kind; text = take (t.end - start) (drop start text); start = start; end = t.end }

-- the tokens of a text, by their kinds and ends, the first of which begins at an offset
abbrev pub tokens_cut : List ℕ → ℕ → List TokenEnd → List Token
tokens_cut text start [] = []
tokens_cut text start (t ∷ ts) = token_cut text start t ∷ tokens_cut text t.end ts

-- where the token with a number begins, if the first begins at an offset
abbrev pub start_of : ℕ → ℕ → List TokenEnd → ℕ
start_of start zero ts = start
start_of start (suc i) [] = start
start_of start (suc i) (t ∷ ts) = start_of t.end i ts

-- each token ends where the text may be cut, and not before it begins
abbrev pub AreEnds : List ℕ → ℕ → List TokenEnd → Type 0
AreEnds text start [] = Unit {0}
AreEnds text start (t ∷ ts) = (start ≤ t.end) × IsCharBoundary text t.end × AreEnds text t.end ts

-- each token begins where the last one ended, or after that
abbrev pub AreInOrder : ℕ → List Token → Type 0
AreInOrder n [] = Unit {0}
AreInOrder n (t ∷ ts) = (n ≤ t.start) × (t.start ≤ t.end) × AreInOrder t.end ts

-- the token is the first of these, and it is trivia
abbrev pub BeginsWithTrivia : Token → List Token → Type 0
BeginsWithTrivia t ts = (ts ≡ t ∷ tail_of ts) × (is_trivia t.kind ≡ true)

-- the first item from an index on is at another
abbrev pub IsItemFrom : List ℕ → List TokenEnd → ℕ → ℕ → Type 0
IsItemFrom text ts from at = from_item (drop from (tokens_cut text 0 ts)) ≡ drop at (tokens_cut text 0 ts)

-- the tokens of the text from an index on are left, and the next item is at another
pub record IsCursor (text : List ℕ) (ts : List TokenEnd) (at next : ℕ) : Type 0 where
  pub ends : AreEnds text 0 ts
  pub item : IsItemFrom text ts at next
