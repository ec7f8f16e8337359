-- The rest of the builder's text is the text of the tokens that are left.
use Rattle.std.{proofs.{Common.{◌≡◌, ℕ, ◌+◌, List, [], ◌∷◌, ◌++◌, length, take, refl, ap, ◌∙◌}, Math.Seq.take-append_seam}, specs.Prelude.flat_map}
use Rattle.{rnix_kinds.specs.Lexical.Tokens.{Lexeme, text_of}, rnix_grammar.specs.{AnnotatedForest.{Token, placed_from}, Layout.tail_of}}
use Rattle.rnix_reader.specs.Placed.{texts_in}

-- the rest of the text begins with the next token
pub next_text : (remaining : List ℕ) (ts : List Token) (t : Token) → remaining ≡ texts_in ts → ts ≡ t ∷ tail_of ts → take (length t.text) remaining ≡ t.text
next_text remaining ts t l h = ap (take (length t.text)) (l ∙ ap texts_in h) ∙ take-append_seam t.text (texts_in (tail_of ts))

-- the text of placed tokens is that of the tokens
pub placed_text : (n : ℕ) (ls : List Lexeme) → texts_in (placed_from n ls) ≡ flat_map text_of ls
placed_text n [] = refl
placed_text n (l ∷ ls) = ap (λ z. l.1 ++ z) (placed_text (n + length l.1) ls)
