-- The tokens of a text in which a bracketed node was replaced.
use Rattle.std.proofs.Common.{◌≡◌, ℕ, ◌+◌, true, List, [], ◌∷◌, ◌++◌, map, length, refl, ap, sym, ◌∙◌, subst, append_assoc}
use Rattle.std.proofs.lemmas.List.{map-append}
use Rattle.rnix_kinds.specs.declared.kinds.SyntaxKind.{SyntaxKind}
use Rattle.rnix_kinds.specs.Lexical.Tokens.{Lexeme, tokens_of}
use Rattle.rnix_grammar.specs.AnnotatedForest.{Token, lexeme_of, placed_from}
use Rattle.rnix_proof_replacement.specs.Replaced.{is_opening, is_closing, are_balanced, texts, AreBrackets, MayReplace}
use Rattle.rnix_proof_reparse.proofs.FoundNodes.{tokens_text, text_tokens}

pub lexemes_placed : (n : ℕ) (ls : List Lexeme) → map lexeme_of (placed_from n ls) ≡ ls
lexemes_placed n [] = refl
lexemes_placed n (l ∷ ls) = ap (λ z. l ∷ z) (lexemes_placed (n + length l.1) ls)

pub lexeme_same : (t u : Token) → t.kind ≡ u.kind → t.text ≡ u.text → lexeme_of t ≡ lexeme_of u
lexeme_same t u e h = ap (λ (k : SyntaxKind). (k, t.text)) e ∙ ap (λ (s : List ℕ). (u.kind, s)) h

pub texts_lexemes : (ts : List Token) → texts (map lexeme_of ts) ≡ tokens_text ts
texts_lexemes [] = refl
texts_lexemes (t ∷ ts) = ap (λ z. t.text ++ z) (texts_lexemes ts)

-- a node in a text, by its first and last tokens, those between them, and those around it
pub record HasNode (before part after : List ℕ) (t u : Token) (inner first last : List Token) : Type 0 where
  pub whole : placed_from 0 (tokens_of (before ++ (part ++ after))) ≡ first ++ (t ∷ (inner ++ (u ∷ last)))
  pub place : tokens_text first ≡ before
  pub extent : tokens_text (t ∷ (inner ++ (u ∷ []))) ≡ part

-- its first and last tokens are brackets, and those between them are balanced
pub record HasBrackets (t u : Token) (inner : List Token) : Type 0 where
  pub opening : is_opening t.kind ≡ true
  pub closing : is_closing u.kind ≡ true
  pub balanced : are_balanced (map lexeme_of inner) 0 ≡ true

-- the lexemes of such tokens
pub four_lexemes : (first inner last : List Token) (t u : Token) → map lexeme_of (first ++ (t ∷ (inner ++ (u ∷ last))))
    ≡ map lexeme_of first ++ (lexeme_of t ∷ (map lexeme_of inner ++ (lexeme_of u ∷ map lexeme_of last)))
four_lexemes first inner last t u =
    map-append lexeme_of first (t ∷ (inner ++ (u ∷ last)))
    ∙ ap (λ z. map lexeme_of first ++ (lexeme_of t ∷ z)) (map-append lexeme_of inner (u ∷ last))

are_brackets : {before part after : List ℕ} {t u : Token} {inner first last : List Token} → HasNode before part after t u inner first last
    → HasBrackets t u inner → AreBrackets before part after (lexeme_of t) (lexeme_of u) (map lexeme_of inner) (map lexeme_of first) (map lexeme_of last)
are_brackets {before} {part} {after} {t} {u} {inner} {first} {last} h b = record {
  whole = sym (lexemes_placed 0 (tokens_of (before ++ (part ++ after)))) ∙ ap (map lexeme_of) h.whole ∙ four_lexemes first inner last t u;
  before_is = texts_lexemes first ∙ h.place;
  extent = ap (λ z. t.text ++ texts z) (sym (map-append lexeme_of inner (u ∷ []))) ∙ texts_lexemes (t ∷ (inner ++ (u ∷ []))) ∙ h.extent;
  opening = b.opening;
  closing = b.closing;
  balanced = b.balanced;
}

-- the tokens of the new text are those of the new node, and the old ones around it
pub new_lexemes : {before old after start new : List ℕ} {t u a b : Token} {inner first last others front : List Token}
    → MayReplace before old after start new [] → HasNode before old after t u inner first last → HasBrackets t u inner
    → HasNode start new [] a b others front [] → HasBrackets a b others → lexeme_of t ≡ lexeme_of a → lexeme_of u ≡ lexeme_of b
    → tokens_of (before ++ (new ++ after)) ≡ map lexeme_of first ++ (lexeme_of a ∷ (map lexeme_of others ++ (lexeme_of b ∷ map lexeme_of last)))
new_lexemes {before} {old} {after} {t = t} {a = a} {b = b} {inner = inner} {first = first} {last = last} {others = others} {front = front} may was old_ends
    now new_ends left right =
    (may (lexeme_of a) (lexeme_of b) (map lexeme_of inner) (map lexeme_of first) (map lexeme_of last) (map lexeme_of others) (map lexeme_of front) []
    (subst (λ z. AreBrackets before old after z (lexeme_of b) (map lexeme_of inner) (map lexeme_of first) (map lexeme_of last)) left
    (subst (λ z. AreBrackets before old after (lexeme_of t) z (map lexeme_of inner) (map lexeme_of first) (map lexeme_of last)) right
    (are_brackets was old_ends)))
    (are_brackets now new_ends)).whole

-- the node behind its first tokens
behind : (head : List Token) (a : Token) (rest us : List Token) → (head ++ (a ∷ rest)) ++ us ≡ head ++ (a ∷ (rest ++ us))
behind head a rest us = append_assoc head (a ∷ rest) us

module _ {before part after : List ℕ} {t u : Token} {inner first last : List Token} (h : HasNode before part after t u inner first last)
    (head : List Token) (a : Token) (rest : List Token) (is : inner ≡ head ++ (a ∷ rest)) where
  pub part_behind : part ≡ tokens_text (t ∷ head) ++ tokens_text (a ∷ (rest ++ (u ∷ [])))
  part_behind =
      sym h.extent ∙ ap (λ z. tokens_text (t ∷ z)) (ap (λ z. z ++ (u ∷ [])) is ∙ behind head a rest (u ∷ []))
      ∙ text_tokens (t ∷ head) (a ∷ (rest ++ (u ∷ [])))

  pub text_behind : before ++ (part ++ after) ≡ (before ++ tokens_text (t ∷ head)) ++ (tokens_text (a ∷ (rest ++ (u ∷ []))) ++ after)
  text_behind =
      ap (λ z. before ++ (z ++ after)) part_behind
      ∙ ap (λ z. before ++ z) (append_assoc (tokens_text (t ∷ head)) (tokens_text (a ∷ (rest ++ (u ∷ [])))) after)
      ∙ sym (append_assoc before (tokens_text (t ∷ head)) (tokens_text (a ∷ (rest ++ (u ∷ []))) ++ after))

  pub node_behind : HasNode (before ++ tokens_text (t ∷ head)) (tokens_text (a ∷ (rest ++ (u ∷ [])))) after a u rest (first ++ (t ∷ head)) last
  node_behind = record {
    whole = ap (λ z. placed_from 0 (tokens_of z)) (sym text_behind) ∙ h.whole
        ∙ ap (λ z. first ++ (t ∷ z)) (ap (λ z. z ++ (u ∷ last)) is ∙ behind head a rest (u ∷ last))
        ∙ sym (append_assoc first (t ∷ head) (a ∷ (rest ++ (u ∷ last))));
    place = text_tokens first (t ∷ head) ∙ ap (λ z. z ++ tokens_text (t ∷ head)) h.place;
    extent = refl;
  }
