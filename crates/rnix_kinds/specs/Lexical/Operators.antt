-- Operators and brackets.
use Rattle.std.specs.Prelude.{true, false, ℕ, zero, suc, ◌+◌, ◌^◌, ◌<◌, if◌then◌else◌, List, [], ◌∷◌, length, codes, Option, Some, None}
use Rattle.rnix_kinds.specs.declared.kinds.SyntaxKind.{SyntaxKind}
use Rattle.rnix_kinds.specs.declared.kinds.SyntaxKind.TheVariants.{TOKEN_ADD, TOKEN_AND_AND, TOKEN_ASSIGN, TOKEN_AT, TOKEN_COLON, TOKEN_COMMA, TOKEN_CONCAT, TOKEN_DOT, TOKEN_ELLIPSIS, TOKEN_EQUAL, TOKEN_IMPLICATION, TOKEN_INTERPOL_END, TOKEN_INTERPOL_START, TOKEN_INVERT, TOKEN_L_BRACE, TOKEN_L_BRACK, TOKEN_L_PAREN, TOKEN_LESS, TOKEN_LESS_OR_EQ, TOKEN_MORE, TOKEN_MORE_OR_EQ, TOKEN_MUL, TOKEN_NOT_EQUAL, TOKEN_OR_OR, TOKEN_PIPE_LEFT, TOKEN_PIPE_RIGHT, TOKEN_QUESTION, TOKEN_R_BRACE, TOKEN_R_BRACK, TOKEN_R_PAREN, TOKEN_SEMICOLON, TOKEN_STRING_START, TOKEN_SUB}
use Rattle.rnix_kinds.specs.declared.tokenizer.rule.Cut.{Cut}
use Rattle.rnix_kinds.specs.declared.tokenizer.rule.Mode.{Mode}
use Rattle.rnix_kinds.specs.declared.tokenizer.rule.Mode.TheVariants.{Quoted, Interpolation}
use Rattle.rnix_kinds.specs.declared.tokenizer.rule.Change.TheVariants.{Open, Close, Count}
use Rattle.rnix_kinds.specs.Lexical.Texts.{begins}
use Rattle.rnix_kinds.specs.Lexical.Plain.{plain}

abbrev pub ellipsis : List ℕ → Option Cut
ellipsis text = if begins (codes "...") text then Some (plain TOKEN_ELLIPSIS 3) else None

-- what opens a mode
abbrev pub opener : List ℕ → Option Cut
opener text =
    if begins (codes "${") text then Some (record { kind = TOKEN_INTERPOL_START; len = 2; change = Open (Interpolation 0) })
    else (if begins (codes "''") text then Some (record { kind = TOKEN_STRING_START; len = 2; change = Open (Quoted true) })
    else (if begins (codes "\"") text then Some (record { kind = TOKEN_STRING_START; len = 1; change = Open (Quoted false) })
    else None))

-- an interpolation counts its braces, and ends at a `}` too many
abbrev pub opening_brace : Option Mode → Cut
opening_brace (Some (Interpolation braces)) = record { kind = TOKEN_L_BRACE; len = 1; change = Count (braces + 1) }
opening_brace _ = plain TOKEN_L_BRACE 1

abbrev pub closing_brace : Option Mode → Cut
closing_brace (Some (Interpolation zero)) = record { kind = TOKEN_INTERPOL_END; len = 1; change = Close }
closing_brace (Some (Interpolation (suc braces))) = record { kind = TOKEN_R_BRACE; len = 1; change = Count braces }
closing_brace _ = plain TOKEN_R_BRACE 1

abbrev pub brace : Option Mode → List ℕ → Option Cut
brace top text =
    if begins (codes "{") text then Some (opening_brace top)
    else (if begins (codes "}") text then Some (closing_brace top)
    else None)

-- the operators, the longer ones first
abbrev pub operators : List (List ℕ × SyntaxKind)
operators =
    (codes "==", TOKEN_EQUAL) ∷ (codes "!=", TOKEN_NOT_EQUAL) ∷ (codes "++", TOKEN_CONCAT) ∷ (codes "->", TOKEN_IMPLICATION)
    ∷ (codes "<|", TOKEN_PIPE_LEFT) ∷ (codes "|>", TOKEN_PIPE_RIGHT) ∷ (codes "||", TOKEN_OR_OR) ∷ (codes "&&", TOKEN_AND_AND)
    ∷ (codes "<=", TOKEN_LESS_OR_EQ) ∷ (codes ">=", TOKEN_MORE_OR_EQ) ∷ (codes "=", TOKEN_ASSIGN) ∷ (codes "!", TOKEN_INVERT)
    ∷ (codes "[", TOKEN_L_BRACK) ∷ (codes "]", TOKEN_R_BRACK) ∷ (codes "(", TOKEN_L_PAREN) ∷ (codes ")", TOKEN_R_PAREN)
    ∷ (codes "@", TOKEN_AT) ∷ (codes ":", TOKEN_COLON) ∷ (codes ",", TOKEN_COMMA) ∷ (codes ".", TOKEN_DOT)
    ∷ (codes "?", TOKEN_QUESTION) ∷ (codes ";", TOKEN_SEMICOLON) ∷ (codes "+", TOKEN_ADD) ∷ (codes "-", TOKEN_SUB)
    ∷ (codes "*", TOKEN_MUL) ∷ (codes "<", TOKEN_LESS) ∷ (codes ">", TOKEN_MORE) ∷ []

-- the first row whose bytes begin the text
abbrev pub first_row : List (List ℕ × SyntaxKind) → List ℕ → Option Cut
first_row [] text = None
first_row (row ∷ rows) text = if begins row.0 text then Some (plain row.1 (length row.0)) else first_row rows text

abbrev pub operator : List ℕ → Option Cut
operator = first_row operators

-- one more brace can be counted
abbrev pub HasRoom : Option Mode → Type 0
HasRoom (Some (Interpolation braces)) = braces + 1 < 2 ^ 64
HasRoom _ = Unit {0}
