-- Where each name is allowed.
use Rattle.std.specs.Prelude.{ℕ, Bool, true, false, List, Option, Some, None, if◌then◌else◌}
use Rattle.rnix_kinds.specs.declared.kinds.SyntaxKind.{SyntaxKind}
use Rattle.rnix_kinds.specs.declared.kinds.SyntaxKind.TheVariants.{TOKEN_CUR_POS, NODE_CUR_POS, NODE_IDENT}
use Rattle.rnix_grammar.specs.declared.rules.Part.TheVariants.{Child, Wanted, Argument, Attr, Names, Optional}
use Rattle.rnix_grammar.specs.Tables.{is_cur_pos}
use Rattle.rnix_grammar.specs.AnnotatedForest.{Token, AnnotatedForest}
use Rattle.rnix_grammar.specs.Reports.{only_token}
use Rattle.rnix_grammar.specs.Rules.{Row, ◌·◌, ◌or◌}
use Rattle.rnix_grammar.specs.TokenKinds.{is_or}

-- a name that is not `or`
abbrev pub is_no_or : Token → Bool
is_no_or t = if is_or t.kind then false else true

-- a name that is neither `or` nor `__curPos`
abbrev pub is_plain : Token → Bool
is_plain t = if is_or t.kind then false else (if is_cur_pos t.text then false else true)

-- a token that is `__curPos`, by its kind or by its text
abbrev pub is_position : SyntaxKind → List ℕ → Bool
is_position TOKEN_CUR_POS text = true
is_position kind text = is_cur_pos text

-- the name may be an argument: any may, except `__curPos`
abbrev pub is_called : Token → Bool
is_called t = if is_or t.kind then true else (if is_cur_pos t.text then false else true)

-- the name is allowed at this position of a row
abbrev pub is_name_at : Row → Token → Bool
is_name_at (Attr · r) t = true
is_name_at (Names · r) t = true
is_name_at (Optional kind · r) t = is_name_at r t
is_name_at (Child kind · r) t = is_no_or t
is_name_at (Wanted kind · r) t = is_no_or t
is_name_at (Argument · r) t = is_called t
is_name_at (r or s) t = is_name_at r t
is_name_at r t = is_plain t

-- a node of the kind may have this token at this position of a row; only names and `__curPos` are restricted
abbrev pub is_named_by : Row → SyntaxKind → Token → Bool
is_named_by q NODE_IDENT t = is_name_at q t
is_named_by q NODE_CUR_POS t = is_position t.kind t.text
is_named_by q kind t = true

-- the same for a token that may be absent
abbrev pub is_named_in : Row → SyntaxKind → Option Token → Bool
is_named_in q kind None = true
is_named_in q kind (Some t) = is_named_by q kind t

-- the same for the first child of a node, if that is a token
abbrev pub is_named : Row → SyntaxKind → AnnotatedForest → Bool
is_named q kind c = is_named_in q kind (only_token c)
