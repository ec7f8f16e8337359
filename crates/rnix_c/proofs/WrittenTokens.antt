-- Writing tokens one after another.
use Rattle.std.proofs.Common.{◌≡◌, ℕ, suc, ◌+◌, ◌<◌, ◌≤◌, List, [], ◌∷◌, length, drop, get_or, IsUtf8, refl, sym, ap, ◌∙◌, arith, add-one, length-append}
use Rattle.std.{proofs.{Math.Seq.{drop-cons}, lemmas.List.{Elements.{All-head, All-tail}}}, specs.List.{flat_map, All}}
use Rattle.rnix_kinds.{specs.{declared.kinds.SyntaxKind.{SyntaxKind}, SyntaxKind.{discriminant_of}, Lexical.Tokens.{Lexeme, text_of, tokens_of}}, proofs.LexicalLemmas.Laws.{AreSound-tokens_under}}
use Rattle.rnix_c.specs.{declared.tokens.RnixToken.{RnixToken}, TokenCalls.{tokens_from, tokens_written}}

-- a token's text is not empty
abbrev HasText : Lexeme → Type 0
HasText token = 0 < length token.1

-- `count` tokens of a text have been passed, the next one begins at `start`, and these remain
pub record IsAt (text : List ℕ) (remaining : List Lexeme) (count start : ℕ) : Type 0 where
  pub rest : drop count (tokens_written text) ≡ tokens_from start remaining
  pub counted : count + length remaining ≡ length (tokens_written text)
  pub fits : start + length (flat_map text_of remaining) ≡ length text
  pub some : All HasText remaining
  pub ahead : count ≤ start

length-tokens_from : (start : ℕ) (tokens : List Lexeme) → length (tokens_from start tokens) ≡ length tokens
length-tokens_from start [] = refl
length-tokens_from start ((kind, text) ∷ tokens) = ap suc (length-tokens_from (start + length text) tokens)

-- at the beginning all tokens remain
pub at_first : (text : List ℕ) → IsUtf8 text → IsAt text (tokens_of text) 0 0
at_first text utf8 =
    let sound = AreSound-tokens_under [] text utf8 in
    record {
      rest = refl;
      counted = omega (arith, length-tokens_from 0 (tokens_of text));
      fits = omega (arith, ap length sound.joined);
      some = sound.some;
      ahead = omega arith;
    }

-- what is written for a token that begins at an offset
abbrev token_at : ℕ → SyntaxKind → List ℕ → RnixToken
token_at start kind token = record { start = start; end = start + length token; kind = discriminant_of kind }

module _ (text : List ℕ) (kind : SyntaxKind) (token : List ℕ) (remaining : List Lexeme) (count start : ℕ) (h : IsAt text ((kind, token)
    ∷ remaining) count start) where
  -- the next token is an element of the list
  pub is_there : count < length (tokens_written text)
  is_there = omega (arith, h.counted)

  cut : token_at start kind token ∷ tokens_from (start + length token) remaining
      ≡ get_or (tokens_written text) count (token_at start kind token) ∷ drop (suc count) (tokens_written text)
  cut = sym h.rest ∙ drop-cons (tokens_written text) count (token_at start kind token) is_there

  -- what is written for the next token is the next element of the list
  pub next_is : token_at start kind token ≡ get_or (tokens_written text) count (token_at start kind token)
  next_is = cc cut

  -- the next token ends within the text
  pub ends_inside : start + length token ≤ length text
  ends_inside = omega (arith, h.fits, length-append token (flat_map text_of remaining))

  -- after the next token, the others remain
  pub at_next : IsAt text remaining (count + 1) (start + length token)
  at_next = record {
    rest = ap (λ n. drop n (tokens_written text)) (add-one count) ∙ (cc cut);
    counted = omega (arith, h.counted);
    fits = omega (arith, h.fits, length-append token (flat_map text_of remaining));
    some = All-tail HasText (kind, token) remaining h.some;
    ahead = omega (arith, h.ahead, All-head HasText (kind, token) remaining h.some);
  }
