-- The tokens of a text are spelled as their kinds say, by the lexical rules.
use Rattle.std.{specs.List.All, proofs.Common.{◌≡◌, ℕ, ◌+◌, Bool, true, false, List, [], ◌∷◌, ◌++◌, length, refl, ap, codes, if◌then◌else◌}}
use Rattle.std.proofs.lemmas.{List.Elements.{All-head, All-tail}, Slice.Eq.bytes_eq-Decides}
use Rattle.rnix_kinds.specs.{declared.kinds.SyntaxKind.{SyntaxKind, TheVariants.{TOKEN_CUR_POS, TOKEN_IDENT, TOKEN_OR}}, SyntaxKind.is_trivia}
use Rattle.{rnix_kinds.specs.Lexical.Tokens.{Lexeme, MayBe}, rnix_grammar.specs.AnnotatedForest.{Token, AnnotatedForest, blank, token, branch, fault, token_if}}
use Rattle.rnix_grammar.specs.AnnotatedForest.{tokens_in, without_trivia, placed_from}
use Rattle.rnix_proof_lemmas.specs.Spelled.{is_spelled, AreSpelled}
use Rattle.rnix_grammar.specs.Tables as tables

-- a text that is `or` passes the test for it
or_is : (text : List ℕ) → text ≡ codes "or" → tables.is_or text ≡ true
or_is text e = (bytes_eq-Decides text (codes "or")).1 e

or_is_not : (text : List ℕ) → (text ≡ codes "or" → ⊥) → (if tables.is_or text then false else true) ≡ true
or_is_not text h = by (tables.is_or text) refl
  where
    by : (w : Bool) → tables.is_or text ≡ w → (if tables.is_or text then false else true) ≡ true
    by true e = absurd (h ((bytes_eq-Decides text (codes "or")).0 e))
    by false e = ap (λ w. if w then false else true) e

-- a token's text is spelled as its kind requires
spelled_by : (k : SyntaxKind) (text : List ℕ) → MayBe k text → is_spelled k text ≡ true
spelled_by TOKEN_CUR_POS text h = absurd h
spelled_by TOKEN_OR text h = or_is text h
spelled_by TOKEN_IDENT text h = or_is_not text h
spelled_by _ text h = h

-- the texts of the tokens are those that the lexical rules allow for their kinds
abbrev pub AreRuled : List Lexeme → Type 0
AreRuled tokens = All (λ (l : Lexeme). MayBe l.0 l.1) tokens

-- the tokens of a text are spelled as the lexical rules say
pub spelled_from : (n : ℕ) (tokens : List Lexeme) → AreRuled tokens → AreSpelled (placed_from n tokens)
spelled_from n [] h = tt
spelled_from n (l ∷ ls) h =
    (spelled_by l.0 l.1 (All-head (λ (l : Lexeme). MayBe l.0 l.1) l ls h), spelled_from (n + length l.1) ls (All-tail (λ (l : Lexeme). MayBe l.0 l.1) l ls h))

-- if joined tokens are spelled, so are the first ones
pub spelled_first : (ts us : List Token) → AreSpelled (ts ++ us) → AreSpelled ts
spelled_first [] us h = tt
spelled_first (t ∷ ts) us h = (h.0, spelled_first ts us h.1)

-- if joined tokens are spelled, so are the second ones
pub spelled_rest : (ts us : List Token) → AreSpelled (ts ++ us) → AreSpelled us
spelled_rest [] us h = h
spelled_rest (t ∷ ts) us h = spelled_rest ts us h.1

-- if two lists of tokens are spelled, so are both joined
spelled-++ : (ts us : List Token) → AreSpelled ts → AreSpelled us → AreSpelled (ts ++ us)
spelled-++ [] us h k = k
spelled-++ (t ∷ ts) us h k = (h.0, spelled-++ ts us h.1 k)

spelled_if : (w : Bool) (k : SyntaxKind) (t : Token) (f : AnnotatedForest) → is_spelled t.kind t.text ≡ true → AreSpelled (tokens_in f)
    → AreSpelled (tokens_in (token_if w k t f))
spelled_if true k t f h s = s
spelled_if false k t f h s = (h, s)

-- if the tokens of a forest are spelled, so are those of the forest without trivia
pub without_trivia_spelled : (f : AnnotatedForest) → AreSpelled (tokens_in f) → AreSpelled (tokens_in (without_trivia f))
without_trivia_spelled blank h = tt
without_trivia_spelled (token k t f) h = spelled_if (is_trivia t.kind) k t (without_trivia f) h.0 (without_trivia_spelled f h.1)
without_trivia_spelled (branch k c f) h =
    spelled-++ (tokens_in (without_trivia c)) (tokens_in (without_trivia f)) (without_trivia_spelled c (spelled_first (tokens_in c) (tokens_in f) h))
    (without_trivia_spelled f (spelled_rest (tokens_in c) (tokens_in f) h))
without_trivia_spelled (fault n c f) h =
    spelled-++ (tokens_in (without_trivia c)) (tokens_in (without_trivia f)) (without_trivia_spelled c (spelled_first (tokens_in c) (tokens_in f) h))
    (without_trivia_spelled f (spelled_rest (tokens_in c) (tokens_in f) h))
