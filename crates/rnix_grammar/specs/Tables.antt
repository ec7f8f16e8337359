-- The kinds of tokens that are wanted at each place, and the nesting limit.
use Rattle.std.specs.Prelude.{ℕ, Bool, true, false, List, [], ◌∷◌, Option, Some, None, codes, if◌then◌else◌}
use Rattle.std.specs.List.{list_any}
use Rattle.std.specs.Str.{bytes_eq}
use Rattle.rnix_kinds.specs.declared.kinds.SyntaxKind.{SyntaxKind}
use Rattle.rnix_kinds.specs.declared.kinds.SyntaxKind.TheVariants.{TOKEN_R_PAREN, TOKEN_L_PAREN, TOKEN_L_BRACE, TOKEN_R_BRACE, TOKEN_L_BRACK, TOKEN_SEMICOLON, TOKEN_ASSIGN, TOKEN_COLON, TOKEN_THEN, TOKEN_ELSE, TOKEN_INTERPOL_START, TOKEN_INTERPOL_END, TOKEN_STRING_START, TOKEN_STRING_CONTENT, TOKEN_STRING_END, TOKEN_IDENT, TOKEN_OR, TOKEN_CUR_POS, TOKEN_REC, TOKEN_ELLIPSIS}
use Rattle.rnix_green.specs.Equality.{same_kind}
use Rattle.rnix_grammar.specs.declared.expected_set.ExpectedSet.{ExpectedSet}
use Rattle.rnix_grammar.specs.declared.expected_set.ExpectedSet.TheVariants.{RParen, LBrace, RBrace, Semicolon, Assign, Colon, Then, Else, InterpolEnd, StringEnd, Ident, Piece, Attr, Entry, End}

-- the text is `__curPos`
abbrev pub is_cur_pos : List ℕ → Bool
is_cur_pos name = bytes_eq name (codes "__curPos")

-- the kinds that are wanted
abbrev pub wanted_kinds : ExpectedSet → List SyntaxKind
wanted_kinds RParen = TOKEN_R_PAREN ∷ []
wanted_kinds LBrace = TOKEN_L_BRACE ∷ []
wanted_kinds RBrace = TOKEN_R_BRACE ∷ []
wanted_kinds Semicolon = TOKEN_SEMICOLON ∷ []
wanted_kinds Assign = TOKEN_ASSIGN ∷ []
wanted_kinds Colon = TOKEN_COLON ∷ []
wanted_kinds Then = TOKEN_THEN ∷ []
wanted_kinds Else = TOKEN_ELSE ∷ []
wanted_kinds InterpolEnd = TOKEN_INTERPOL_END ∷ []
wanted_kinds StringEnd = TOKEN_STRING_END ∷ []
wanted_kinds Ident = TOKEN_IDENT ∷ []
wanted_kinds Piece = TOKEN_STRING_END ∷ (TOKEN_STRING_CONTENT ∷ (TOKEN_INTERPOL_START ∷ []))
wanted_kinds Attr = TOKEN_IDENT ∷ (TOKEN_OR ∷ (TOKEN_CUR_POS ∷ []))
wanted_kinds Entry = TOKEN_R_BRACE ∷ (TOKEN_ELLIPSIS ∷ (TOKEN_IDENT ∷ []))
wanted_kinds End = []

-- a token of the kind is wanted
abbrev pub is_wanted : ExpectedSet → SyntaxKind → Bool
is_wanted until kind = list_any (λ wanted. same_kind wanted kind) (wanted_kinds until)

-- a run of other tokens stops before a token of the kind, and at the end
abbrev pub stops : ExpectedSet → Option SyntaxKind → Bool
stops until None = true
stops until (Some kind) = is_wanted until kind

-- the kinds that an error lists where an operand should begin
abbrev pub operand_kinds : List SyntaxKind
operand_kinds = TOKEN_L_PAREN ∷ (TOKEN_REC ∷ (TOKEN_L_BRACE ∷ (TOKEN_L_BRACK ∷ (TOKEN_STRING_START ∷ (TOKEN_IDENT ∷ [])))))

-- how many counted positions may be inside one another
abbrev pub depth_limit : ℕ
depth_limit = 512

-- the text is the word `or`
abbrev pub is_or : List ℕ → Bool
is_or text = bytes_eq text (codes "or")

-- the name is among these
abbrev pub is_among : List ℕ → List (List ℕ) → Bool
is_among name [] = false
is_among name (n ∷ ns) = if bytes_eq name n then true else is_among name ns
