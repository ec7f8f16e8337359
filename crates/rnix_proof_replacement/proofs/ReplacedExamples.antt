-- Brackets that may be replaced, and tokens that may not be between them.
use Rattle.std.{proofs.{lemmas.Bool.eqb-false, Common.{◌≡◌, ℕ, false, List, [], ◌∷◌, ◌++◌, refl, ap, length}}, specs.{Prelude.codes, Str.chars}}
use Rattle.rnix_kinds.specs.declared.kinds.SyntaxKind.TheVariants.{TOKEN_ASSIGN, TOKEN_COMMENT, TOKEN_IDENT, TOKEN_INTERPOL_END, TOKEN_INTERPOL_START}
use Rattle.rnix_kinds.specs.declared.kinds.SyntaxKind.TheVariants.{TOKEN_L_BRACE, TOKEN_L_BRACK, TOKEN_L_PAREN, TOKEN_R_BRACE, TOKEN_R_BRACK, TOKEN_SEMICOLON}
use Rattle.rnix_kinds.specs.declared.kinds.SyntaxKind.TheVariants.{TOKEN_STRING_CONTENT, TOKEN_STRING_END, TOKEN_STRING_START, TOKEN_WHITESPACE}
use Rattle.rnix_kinds.specs.Lexical.{Texts.{space_len, begins_space}, Strings.content_from, Tokens.{Lexeme, normal_cut, cut_at, tokens_behind, tokens_of}}
use Rattle.rnix_proof_replacement.specs.Replaced.{are_balanced, AreBrackets}
use lib.Utf8.{encode}

-- `[a]` in `f [a]`
pub lists : AreBrackets (codes "f ") (codes "[a]") [] (TOKEN_L_BRACK, codes "[") (TOKEN_R_BRACK, codes "]") ((TOKEN_IDENT, codes "a") ∷ [])
    ((TOKEN_IDENT, codes "f") ∷ (TOKEN_WHITESPACE, codes " ") ∷ []) []
unfolding tokens_behind cut_at normal_cut space_len chars begins_space content_from encode
lists = record { whole = refl; before_is = refl; extent = refl; opening = refl; closing = refl; balanced = refl }

-- `${b}` in `''a${b}''`
pub interpolations : AreBrackets (codes "''a") (codes "${b}") (codes "''") (TOKEN_INTERPOL_START, codes "${") (TOKEN_INTERPOL_END, codes "}")
    ((TOKEN_IDENT, codes "b") ∷ []) ((TOKEN_STRING_START, codes "''") ∷ (TOKEN_STRING_CONTENT, codes "a") ∷ []) ((TOKEN_STRING_END, codes "''") ∷ [])
unfolding tokens_behind cut_at normal_cut space_len chars begins_space content_from encode
interpolations = record { whole = refl; before_is = refl; extent = refl; opening = refl; closing = refl; balanced = refl }

-- `{a="";}`
pub sets : AreBrackets [] (codes "{a=\"\";}") [] (TOKEN_L_BRACE, codes "{") (TOKEN_R_BRACE, codes "}")
    ((TOKEN_IDENT, codes "a") ∷ (TOKEN_ASSIGN, codes "=") ∷ (TOKEN_STRING_START, codes "\"") ∷ (TOKEN_STRING_END, codes "\"")
    ∷ (TOKEN_SEMICOLON, codes ";") ∷ []) [] []
unfolding tokens_behind cut_at normal_cut space_len chars begins_space content_from encode
sets = record { whole = refl; before_is = refl; extent = refl; opening = refl; closing = refl; balanced = refl }

-- `(a#)` ends with a comment, not with a bracket
pub comments : tokens_of (codes "(a#)") ≡ (TOKEN_L_PAREN, codes "(") ∷ (TOKEN_IDENT, codes "a") ∷ (TOKEN_COMMENT, codes "#)") ∷ []
unfolding tokens_behind cut_at normal_cut space_len chars begins_space content_from encode
comments = refl

-- `[}]` closes what it did not open, and `[{]` does not close what it opens
pub below : are_balanced ((TOKEN_R_BRACE, codes "}") ∷ []) 0 ≡ false
below = refl

pub left_over : are_balanced ((TOKEN_L_BRACE, codes "{") ∷ []) 0 ≡ false
left_over = refl

-- the law without its condition on the tokens between the new brackets
abbrev ReplacesAlways : Type 0
ReplacesAlways =
    (before old new after : List ℕ) (left right : Lexeme) (inner others first last : List Lexeme)
    → AreBrackets before old after left right inner first last → tokens_of new ≡ left ∷ (others ++ (right ∷ []))
    → tokens_of (before ++ (new ++ after)) ≡ first ++ (left ∷ (others ++ (right ∷ last)))

-- it does not hold of `"${[]}"`, where `[}]` in place of `[]` would end the interpolation
pub unlimited : ReplacesAlways → ⊥
unfolding tokens_behind cut_at normal_cut space_len chars begins_space content_from encode
unlimited claim =
    let old : AreBrackets (codes "\"${") (codes "[]") (codes "}\"") (TOKEN_L_BRACK, codes "[") (TOKEN_R_BRACK, codes "]") []
    ((TOKEN_STRING_START, codes "\"") ∷ (TOKEN_INTERPOL_START, codes "${") ∷ [])
    ((TOKEN_INTERPOL_END, codes "}") ∷ (TOKEN_STRING_END, codes "\"") ∷ []) =
    record { whole = refl; before_is = refl; extent = refl; opening = refl; closing = refl; balanced = refl } in
    eqb-false (length (tokens_of (codes "\"${[}]}\""))) 7 refl
    (ap length (claim (codes "\"${") (codes "[]") (codes "[}]") (codes "}\"") (TOKEN_L_BRACK, codes "[") (TOKEN_R_BRACK, codes "]") []
    ((TOKEN_R_BRACE, codes "}") ∷ []) ((TOKEN_STRING_START, codes "\"") ∷ (TOKEN_INTERPOL_START, codes "${") ∷ [])
    ((TOKEN_INTERPOL_END, codes "}") ∷ (TOKEN_STRING_END, codes "\"") ∷ []) old refl))
