-- Texts that are written out with white space. Errors may be tokenized differently, and a comment continues to the end of its line.
use Rattle.std.{proofs.{lemmas.Bool.eqb-false, Common.{◌≡◌, ℕ, true, List, [], ◌∷◌, refl, ap, inl, inr, lit<, length}}, specs.{Prelude.codes, Str.chars}}
use Rattle.rnix_kinds.specs.declared.kinds.SyntaxKind.TheVariants.{TOKEN_ADD, TOKEN_COMMENT, TOKEN_ERROR, TOKEN_IDENT, TOKEN_INTERPOL_END, TOKEN_INTERPOL_START}
use Rattle.rnix_kinds.specs.declared.kinds.SyntaxKind.TheVariants.{TOKEN_L_BRACK, TOKEN_L_PAREN, TOKEN_PATH_REL, TOKEN_R_PAREN, TOKEN_STRING_END}
use Rattle.rnix_kinds.specs.declared.{kinds.SyntaxKind.TheVariants.TOKEN_STRING_START, tokenizer.rule.{Cut.Cut, PathStart.TheVariants.Relative}}
use Rattle.rnix_kinds.specs.declared.tokenizer.rule.{Mode.TheVariants.{Quoted, Interpolation, Path}, Change.TheVariants.{Open, Close}}
use Rattle.rnix_kinds.specs.Lexical.{Texts.{space_len, begins_space}, Plain.plain, Strings.content_from, Tokens.{normal_cut, cut_at, tokens_behind, tokens_of}}
use Rattle.rnix_proof_separation.specs.Separated.{solids, AreSeparated, none, space, token, IsSeparated}
use lib.Utf8.{encode}

-- a token that opens or closes a mode
abbrev dollar : Cut
dollar = record { kind = TOKEN_INTERPOL_START; len = 2; change = Open (Interpolation 0) }

abbrev brace : Cut
brace = record { kind = TOKEN_INTERPOL_END; len = 1; change = Close }

abbrev opening : Cut
opening = record { kind = TOKEN_STRING_START; len = 2; change = Open (Quoted true) }

abbrev closing : Cut
closing = record { kind = TOKEN_STRING_END; len = 2; change = Close }

abbrev path : Cut
path = record { kind = TOKEN_PATH_REL; len = 3; change = Open (Path Relative) }

-- `a+b` and `a + b`
pub sums : AreSeparated [] (codes "a+b") (codes "a + b")
unfolding cut_at normal_cut space_len chars begins_space encode
sums =
    token [] (codes "a+b") (plain TOKEN_IDENT 1) (codes " ") (codes "+ b") (lit< tt) refl refl (refl, inr refl)
    (token [] (codes "+b") (plain TOKEN_ADD 1) (codes " ") (codes "b") (lit< tt) refl refl (refl, inr refl)
    (token [] (codes "b") (plain TOKEN_IDENT 1) [] [] (lit< tt) refl refl (refl, inl (refl, inl refl)) (none [])))

-- `( a )` and `(a)`
pub parens : AreSeparated [] (codes "( a )") (codes "(a)")
unfolding cut_at normal_cut space_len chars begins_space encode
parens =
    token [] (codes "( a )") (plain TOKEN_L_PAREN 1) [] (codes "a)") (lit< tt) refl refl (refl, inl (refl, inr refl))
    (space [] (codes " a )") 1 (codes "a)") (lit< tt) refl
    (token [] (codes "a )") (plain TOKEN_IDENT 1) [] (codes ")") (lit< tt) refl refl (refl, inl (refl, inr refl))
    (space [] (codes " )") 1 (codes ")") (lit< tt) refl
    (token [] (codes ")") (plain TOKEN_R_PAREN 1) [] [] (lit< tt) refl refl (refl, inl (refl, inl refl)) (none [])))))

-- `''${x}''` and `''${ x }''`
pub strings : AreSeparated [] (codes "''${x}''") (codes "''${ x }''")
unfolding cut_at normal_cut space_len chars begins_space content_from encode
strings =
    token [] (codes "''${x}''") opening [] (codes "${ x }''") (lit< tt) refl refl refl
    (token (Quoted true ∷ []) (codes "${x}''") dollar (codes " ") (codes "x }''") (lit< tt) refl refl (refl, inr refl)
    (token (Interpolation 0 ∷ Quoted true ∷ []) (codes "x}''") (plain TOKEN_IDENT 1) (codes " ") (codes "}''") (lit< tt) refl refl (refl, inr refl)
    (token (Interpolation 0 ∷ Quoted true ∷ []) (codes "}''") brace [] (codes "''") (lit< tt) refl refl refl
    (token (Quoted true ∷ []) (codes "''") closing [] [] (lit< tt) refl refl (refl, inl (refl, inl refl)) (none [])))))

-- `./a${b}` and `./a${ b }`
pub paths : AreSeparated [] (codes "./a${b}") (codes "./a${ b }")
unfolding cut_at normal_cut space_len chars begins_space encode
paths =
    token [] (codes "./a${b}") path [] (codes "${ b }") (lit< tt) refl refl refl
    (token (Path Relative ∷ []) (codes "${b}") dollar (codes " ") (codes "b }") (lit< tt) refl refl (refl, inr refl)
    (token (Interpolation 0 ∷ Path Relative ∷ []) (codes "b}") (plain TOKEN_IDENT 1) (codes " ") (codes "}") (lit< tt) refl refl (refl, inr refl)
    (token (Interpolation 0 ∷ Path Relative ∷ []) (codes "}") brace [] [] (lit< tt) refl refl (refl, inl (refl, inl refl)) (none (Path Relative ∷ [])))))

-- `#c` and a line feed before `a`, and two line feeds
pub comments : AreSeparated [] (codes "#c\na") (codes "#c\n\na")
unfolding cut_at normal_cut space_len chars begins_space encode
comments =
    token [] (codes "#c\na") (plain TOKEN_COMMENT 2) (codes "\n\n") (codes "a") (lit< tt) refl refl (refl, inr refl)
    (space [] (codes "\na") 1 (codes "a") (lit< tt) refl
    (token [] (codes "a") (plain TOKEN_IDENT 1) [] [] (lit< tt) refl refl (refl, inl (refl, inl refl)) (none [])))

-- a blank after a comment that begins with `#` belongs to the comment
pub joined : solids (tokens_of (codes "#c a")) ≡ solids (tokens_of (codes "#c\na")) → ⊥
unfolding tokens_behind cut_at normal_cut space_len chars begins_space encode
joined e = eqb-false (length (solids (tokens_of (codes "#c a")))) (length (solids (tokens_of (codes "#c\na")))) refl (ap length e)

-- `a/[` and `a/ [`: a path that ends with `/` is an error
pub errors : AreSeparated [] (codes "a/[") (codes "a/ [")
unfolding cut_at normal_cut space_len chars begins_space encode
errors =
    token [] (codes "a/[") (plain TOKEN_ERROR 2) (codes " ") (codes "[") (lit< tt) refl refl (refl, inr refl)
    (token [] (codes "[") (plain TOKEN_L_BRACK 1) [] [] (lit< tt) refl refl (refl, inl (refl, inl refl)) (none []))

differ : solids (tokens_of (codes "a/ [")) ≡ solids (tokens_of (codes "a/[")) → ⊥
unfolding tokens_behind cut_at normal_cut space_len chars begins_space encode
differ e = eqb-false (length (solids (tokens_of (codes "a/ [")))) (length (solids (tokens_of (codes "a/[")))) refl (ap length e)

-- the law does not hold of texts with errors
pub unlimited : ((text new : List ℕ) → IsSeparated text new → solids (tokens_of new) ≡ solids (tokens_of text)) → ⊥
unlimited claim =
    differ (claim (codes "a/[") (codes "a/ [") (record { gap = []; rest = codes "a/ ["; whole = refl; blank = refl; separated = errors }))
