-- A text in which what is inside brackets was replaced.
use Rattle.std.specs.Prelude.{◌≡◌, ◌++◌, ℕ, zero, suc, Bool, true, false, if◌then◌else◌, List, [], ◌∷◌}
use Rattle.std.specs.List.{flat_map}
use Rattle.rnix_kinds.specs.declared.kinds.SyntaxKind.{SyntaxKind}
use Rattle.rnix_kinds.specs.declared.kinds.SyntaxKind.TheVariants.{TOKEN_INTERPOL_END, TOKEN_INTERPOL_START, TOKEN_L_BRACE, TOKEN_L_BRACK, TOKEN_L_PAREN}
use Rattle.rnix_kinds.specs.declared.kinds.SyntaxKind.TheVariants.{TOKEN_R_BRACE, TOKEN_R_BRACK, TOKEN_R_PAREN, TOKEN_STRING_END, TOKEN_STRING_START}
use Rattle.rnix_kinds.specs.Lexical.Tokens.{Lexeme, text_of, tokens_of}

-- `{`, `${`, or the quotes with which a string begins: a level opens
abbrev pub opens_level : SyntaxKind → Bool
opens_level TOKEN_L_BRACE = true
opens_level TOKEN_INTERPOL_START = true
opens_level TOKEN_STRING_START = true
opens_level kind = false

-- what ends them: a level closes
abbrev pub closes_level : SyntaxKind → Bool
closes_level TOKEN_R_BRACE = true
closes_level TOKEN_INTERPOL_END = true
closes_level TOKEN_STRING_END = true
closes_level kind = false

-- an opening bracket: one of these, `[` or `(`
abbrev pub is_opening : SyntaxKind → Bool
is_opening TOKEN_L_BRACK = true
is_opening TOKEN_L_PAREN = true
is_opening kind = opens_level kind

-- a closing bracket
abbrev pub is_closing : SyntaxKind → Bool
is_closing TOKEN_R_BRACK = true
is_closing TOKEN_R_PAREN = true
is_closing kind = closes_level kind

-- one level less, if one is open
abbrev pub one_less : ℕ → (ℕ → Bool) → Bool
one_less zero more = false
one_less (suc depth) more = more depth

-- with so many levels open, every level is closed, and none before it is opened
abbrev pub are_balanced : List Lexeme → ℕ → Bool
are_balanced [] zero = true
are_balanced [] (suc depth) = false
are_balanced (token ∷ tokens) depth =
    if opens_level token.0 then are_balanced tokens (suc depth)
    else (if closes_level token.0 then one_less depth (are_balanced tokens)
    else are_balanced tokens depth)

-- the text of tokens
abbrev pub texts : List Lexeme → List ℕ
texts = flat_map text_of

-- a part of a text is brackets with balanced tokens between them, and other tokens are before and after it
pub record AreBrackets (before part after : List ℕ) (left right : Lexeme) (inner first last : List Lexeme) : Type 0 where
  pub whole : tokens_of (before ++ (part ++ after)) ≡ first ++ (left ∷ (inner ++ (right ∷ last)))
  pub before_is : texts first ≡ before
  pub extent : texts (left ∷ (inner ++ (right ∷ []))) ≡ part
  pub opening : is_opening left.0 ≡ true
  pub closing : is_closing right.0 ≡ true
  pub balanced : are_balanced inner 0 ≡ true

-- brackets of one text may replace the same brackets of another: the tokens before and after them stay the same, and between these are those that the
-- new brackets have in their own text
abbrev pub MayReplace : List ℕ → List ℕ → List ℕ → List ℕ → List ℕ → List ℕ → Type 0
MayReplace before old after start new end =
    (left right : Lexeme) (inner first last others front back : List Lexeme) → AreBrackets before old after left right inner first last
    → AreBrackets start new end left right others front back → AreBrackets before new after left right others first last
