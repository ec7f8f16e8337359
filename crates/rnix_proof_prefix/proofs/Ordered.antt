-- The items of a text are in order: each begins where the one before it ends, or later.
use Rattle.{std.proofs.Common.{ℕ, ◌≤◌, ◌+◌, true, false, List, [], ◌∷◌, ◌++◌, length, arith}, rnix_kinds.specs.{Lexical.Tokens.Lexeme, SyntaxKind.is_trivia}}
use Rattle.{rnix_grammar.specs.{AnnotatedForest.{Token, placed_from, end_from}, Layout.{items, item_if}}, rnix_proof_prefix.proofs.Late.AreFrom}

-- no token begins before the end of the one before it, or ends before it begins
abbrev pub AreOrdered : ℕ → List Token → Type 0
AreOrdered n [] = Unit {0}
AreOrdered n (t ∷ ts) = (n ≤ t.start) × (t.start ≤ t.end) × AreOrdered t.end ts

earlier : (m n : ℕ) (ts : List Token) → m ≤ n → AreOrdered n ts → AreOrdered m ts
earlier m n [] l h = tt
earlier m n (t ∷ ts) l h = (omega (arith, l, h.0), h.1, h.2)

-- the tokens of a text are in order
pub ordered_placed : (n : ℕ) (ls : List Lexeme) → AreOrdered n (placed_from n ls)
ordered_placed n [] = tt
ordered_placed n (l ∷ ls) = (omega arith, omega arith, ordered_placed (n + length l.1) ls)

-- the items among tokens in order are in order
pub ordered_items : (n : ℕ) (ts : List Token) → AreOrdered n ts → AreOrdered n (items ts)
ordered_items n [] h = tt
ordered_items n (t ∷ ts) h =
    elim (is_trivia t.kind) as (λ x. AreOrdered n (item_if x t (items ts)))
    [ true ↦ earlier n t.end (items ts) (omega (arith, h.0, h.1)) (ordered_items t.end ts h.2) | false ↦ (h.0, h.1, ordered_items t.end ts h.2) ]

-- tokens after a byte begin there or later
ordered_from : (m n : ℕ) (ts : List Token) → m ≤ n → AreOrdered n ts → AreFrom m ts
ordered_from m n [] l h = tt
ordered_from m n (t ∷ ts) l h = (omega (arith, l, h.0), ordered_from m t.end ts (omega (arith, l, h.0, h.1)) h.2)

pub from_end : (n : ℕ) (q xs : List Token) → AreOrdered n (q ++ xs) → AreFrom (end_from n q) xs
from_end n [] xs h = ordered_from n n xs (omega arith) h
from_end n (t ∷ q) xs h = from_end t.end q xs h.2
