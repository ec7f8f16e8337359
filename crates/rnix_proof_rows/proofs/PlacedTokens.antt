-- Tokens one after another, and their text.
use Rattle.std.proofs.Common.{◌≡◌, ℕ, ◌+◌, true, List, [], ◌∷◌, ◌++◌, length, refl, ap, sym, ◌∙◌, arith, length-append, subst}
use Rattle.{rnix_kinds.specs.Lexical.Tokens.Lexeme, rnix_green.specs.{Forest.text_of, Range.Extent}, rnix_grammar.specs.AnnotatedForest.Token}
use Rattle.rnix_grammar.specs.AnnotatedForest.{AnnotatedForest, blank, token, branch, fault, tokens_in, forget, placed_from, is_some, extent_of, end_from}
use Rattle.rnix_proof_lemmas.proofs.Basics.{true_is_not_false}

-- each token begins where the one before ends, the first at the given place
abbrev pub ArePlaced : ℕ → List Token → Type 0
ArePlaced n [] = Unit {0}
ArePlaced n (t ∷ ts) = (t.start ≡ n) × (t.end ≡ n + length t.text) × ArePlaced (n + length t.text) ts

-- the tokens of a text are placed one after another
pub placed_all : (n : ℕ) (ls : List Lexeme) → ArePlaced n (placed_from n ls)
placed_all n [] = tt
placed_all n (l ∷ ls) = (refl, refl, placed_all (n + length l.1) ls)

-- the text of some tokens
abbrev pub text_in : List Token → List ℕ
text_in [] = []
text_in (t ∷ ts) = t.text ++ text_in ts

-- the text of two joined lists of tokens is as long as both texts together
pub text_in-length : (ts us : List Token) → length (text_in (ts ++ us)) ≡ length (text_in ts) + length (text_in us)
text_in-length [] us = omega arith
text_in-length (t ∷ ts) us = omega (arith, length-append t.text (text_in (ts ++ us)), length-append t.text (text_in ts), text_in-length ts us)

-- the trees of a forest have as much text as its tokens
pub forget-length : (f : AnnotatedForest) → length (text_of (forget f)) ≡ length (text_in (tokens_in f))
forget-length blank = refl
forget-length (token k t f) = omega (arith, length-append t.text (text_of (forget f)), length-append t.text (text_in (tokens_in f)), forget-length f)
forget-length (branch k c f) = omega (
  arith,
  length-append (text_of (forget c)) (text_of (forget f)),
  text_in-length (tokens_in c) (tokens_in f),
  forget-length c,
  forget-length f,
)
forget-length (fault n c f) = omega (
  arith,
  length-append (text_of (forget c)) (text_of (forget f)),
  text_in-length (tokens_in c) (tokens_in f),
  forget-length c,
  forget-length f,
)

-- the first of placed tokens are placed
pub placed_first : (n : ℕ) (ts us : List Token) → ArePlaced n (ts ++ us) → ArePlaced n ts
placed_first n [] us h = tt
placed_first n (t ∷ ts) us h = (h.0, h.1, placed_first (n + length t.text) ts us h.2)

-- the tokens after the first of placed tokens are placed where these end
pub placed_rest : (n m : ℕ) (ts us : List Token) → n + length (text_in ts) ≡ m → ArePlaced n (ts ++ us) → ArePlaced m us
placed_rest n m [] us e h = subst (λ z. ArePlaced z us) (omega (arith, e)) h
placed_rest n m (t ∷ ts) us e h = placed_rest (n + length t.text) m ts us (omega (arith, e, length-append t.text (text_in ts))) h.2

-- placed tokens end where their text does
pub placed_end : (n o : ℕ) (ts : List Token) → o ≡ n → ArePlaced n ts → end_from o ts ≡ n + length (text_in ts)
placed_end n o [] e h = omega (arith, e)
placed_end n o (t ∷ ts) e h = placed_end (n + length t.text) t.end ts h.1 h.2 ∙ omega (arith, length-append t.text (text_in ts))

-- the range between two offsets
abbrev pub between : ℕ → ℕ → Extent
between a b = record { start = a; end = b }

-- the extent of placed tokens is that of their text
pub placed_extent : (n m : ℕ) (ts : List Token) → is_some ts ≡ true → n + length (text_in ts) ≡ m → ArePlaced n ts → extent_of ts ≡ between n m
placed_extent n m [] s e h = absurd (true_is_not_false (sym s))
placed_extent n m (t ∷ ts) s e h = same t.start n (end_from t.end ts) m h.0 (placed_end n n (t ∷ ts) refl h ∙ e)
  where
    same : (a b c d : ℕ) → a ≡ b → c ≡ d → between a c ≡ between b d
    same a b c d e g = cc

-- the extent of a forest's tokens is that of its trees' text
pub row_extent : (s : ℕ) (f : AnnotatedForest) → is_some (tokens_in f) ≡ true → ArePlaced s (tokens_in f)
    → extent_of (tokens_in f) ≡ between s (s + length (text_of (forget f)))
row_extent s f some h = placed_extent s (s + length (text_of (forget f))) (tokens_in f) some (ap (λ z. s + z) (sym (forget-length f))) h
