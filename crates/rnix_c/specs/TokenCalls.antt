-- The tokens of a text as they are written for C.
use Rattle.std.specs.Prelude.{◌≡◌, ◌⊎◌, ℕ, ℤ, ◌+◌, List, [], ◌∷◌, length, take, IsUtf8}
use Rattle.rnix_kinds.specs.SyntaxKind.{discriminant_of}
use Rattle.rnix_kinds.specs.Lexical.Tokens.{Lexeme, tokens_of}
use Rattle.rnix_c.specs.declared.tokens.RnixToken.{RnixToken}
use Rattle.rnix_c.specs.Answers.{filled, IsWritten, not_utf8, no_memory}

-- what is written for some tokens, the first of which begins at the given offset
abbrev pub tokens_from : ℕ → List Lexeme → List RnixToken
tokens_from start [] = []
tokens_from start ((kind, text) ∷ tokens) =
    record { start = start; end = start + length text; kind = discriminant_of kind } ∷ tokens_from (start + length text) tokens

-- what is written for a text: each of its tokens, in order
abbrev pub tokens_written : List ℕ → List RnixToken
tokens_written text = tokens_from 0 (tokens_of text)

-- some of the first tokens are written, as far as they fit
abbrev pub AreBegun : List ℕ → List RnixToken → List RnixToken → Type 0
AreBegun text old new = (n : ℕ) × (new ≡ filled (take n (tokens_written text)) old)

-- memory is refused after some of the tokens were written, or all are written as far as they fit, and their number is returned
abbrev pub WritesTokens : List ℕ → ℤ → List RnixToken → List RnixToken → Type 0
WritesTokens text answer old new = ((answer ≡ no_memory) × AreBegun text old new) ⊎ IsWritten (tokens_written text) answer old new

-- the outcome of a call for the tokens of a text
abbrev pub AnswersTokens : List ℕ → ℤ → List RnixToken → List RnixToken → Type 0
AnswersTokens text answer old new = ((answer ≡ not_utf8) × ¬ IsUtf8 text × (new ≡ old)) ⊎ (IsUtf8 text × WritesTokens text answer old new)
