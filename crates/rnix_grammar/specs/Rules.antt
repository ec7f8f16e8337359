-- The grammar: the row of a kind of node is the list of its children. A position in a row is what is left of it.
use Rattle.std.specs.Prelude.{◌≡◌, ℕ, Bool, true, false, ◌||◌, ◌&&◌, List, [], ◌∷◌, map, Option, Some, None, if◌then◌else◌, nat_eq}
use Rattle.std.specs.List.{list_any}
use Rattle.rnix_kinds.specs.declared.kinds.SyntaxKind.{SyntaxKind}
use Rattle.rnix_kinds.specs.declared.kinds.SyntaxKind.TheVariants.{NODE_ATTRPATH, NODE_IDENT, NODE_INHERIT, NODE_INHERIT_FROM, NODE_INTERPOL, NODE_PAT_BIND, NODE_PAT_ENTRY, TOKEN_AT, TOKEN_COMMA, TOKEN_CUR_POS, TOKEN_DOT, TOKEN_ELLIPSIS, TOKEN_IDENT, TOKEN_INTERPOL_START, TOKEN_L_PAREN, TOKEN_OR, TOKEN_R_BRACE, TOKEN_STRING_CONTENT, TOKEN_STRING_END, TOKEN_STRING_START}
use Rattle.rnix_kinds.specs.SyntaxKind.{is_fn_arg}
use Rattle.rnix_green.specs.Equality.{same_kind}
use Rattle.rnix_grammar.specs.declared.rules.Part.{Part}
use Rattle.rnix_grammar.specs.declared.rules.Part.TheVariants.{Child, Atom, First, Suffix, Binary, Argument, Operand, Many, Entries, Wanted, Attr, Attrpath, MoreAttrs, Names, Pieces, PathPieces, Formals, FormalsAfterComma, Comma, Optional, EndOr, BoundAlready, TextEnd}
use Rattle.rnix_grammar.specs.declared.rules.TheConstants.{ROWS, SECOND_NAME}
use Rattle.rnix_grammar.specs.Fault.{Fault, unexpected_eof, unexpected_eof_wanted}
use Rattle.rnix_grammar.specs.Levels.{selection_level, right_of}
use Rattle.rnix_grammar.specs.AnnotatedForest.{Token, AnnotatedForest, one_branch}
use Rattle.rnix_grammar.specs.TokenKinds.{is_or, is_path_piece, is_piece_start, is_inherit_token}
use Rattle.rnix_grammar.specs.TreeLevels.{is_or_row}
use Rattle.rnix_grammar.specs.Operands.{follows}
use Rattle.rnix_grammar.specs.NodeClasses.{is_atom, is_simple, is_infix, is_attr, is_entry, fits}

-- what is left of a row: nothing fits, nothing more, a part and what follows it, or one of two rows
infixr 30 ◌·◌
infixr 20 ◌or◌
pub data Row : Type 0 where
  never : Row
  done : Row
  ◌·◌ : Part → Row → Row
  ◌or◌ : Row → Row → Row

-- the parts of a row, one after another
abbrev pub row_of : List Part → Row
row_of [] = done
row_of (p ∷ ps) = p · row_of ps

-- a row, or one of some others, if there are any
abbrev pub or_one_of : Row → Row → Row
or_one_of r never = r
or_one_of r s = r or s

-- the rows of a kind in a table
abbrev pub rows_in : List (SyntaxKind × List Part) → SyntaxKind → Row
rows_in [] kind = never
rows_in (r ∷ rs) kind = if same_kind r.0 kind then or_one_of (row_of r.1) (rows_in rs kind) else rows_in rs kind

-- the children of a node of a kind, without trivia
abbrev pub row : SyntaxKind → Row
row = rows_in (map (λ r. (r.0, r.1.now)) ROWS)

-- the row of an error node over a second name of a pattern
abbrev pub second_name : Row
second_name = row_of SECOND_NAME

-- a row, if a test holds
abbrev pub only : Bool → Row → Row
only true r = r
only false r = never

-- a row, or another one if the first does not fit
abbrev pub or_else : Row → Row → Row
or_else never s = s
or_else r s = r

-- what is left after one more child inside the braces of a pattern, where r follows the braces
abbrev pub after_formals : Row → SyntaxKind → Row
after_formals r TOKEN_R_BRACE = r
after_formals r TOKEN_ELLIPSIS = Wanted TOKEN_R_BRACE · r
after_formals r NODE_PAT_ENTRY = Comma · r
after_formals r k = never

-- what is left after one more child of a kind
abbrev pub after : Row → SyntaxKind → Row
after never k = never
after done k = never
after (r or s) k = or_else (after r k) (after s k)
after (Child kind · r) k = only (same_kind kind k) r
after (Atom · r) k = only (is_atom k) r
after (First n · r) k = only (fits n k) r
after (Suffix token · r) k = only (same_kind token k) r
after (Binary · r) k = only (is_infix k) (Operand (right_of k) false · r)
after (Argument · r) k = only (is_simple k) r
after (Operand n counted · r) k = only (fits n k) r
after (Wanted kind · r) k = only (same_kind kind k) r
after (Attr · r) k = only (is_attr k) r
after (Attrpath · r) k = only (same_kind NODE_ATTRPATH k) r
after (Many n closer · r) k = if same_kind closer k then r else only (fits n k) (Many n closer · r)
after (Entries closer · r) k = if same_kind closer k then r else only (is_entry k) (Entries closer · r)
after (Names · r) k = if is_attr k then Names · r else after r k
after (Pieces · r) TOKEN_STRING_CONTENT = Pieces · r
after (Pieces · r) NODE_INTERPOL = Pieces · r
after (Pieces · r) k = after r k
after (PathPieces · r) k = only (is_path_piece k || same_kind NODE_INTERPOL k) (PathPieces · r)
after (MoreAttrs · r) k = only (same_kind TOKEN_DOT k) (Attr · MoreAttrs · r)
after (Formals · r) k = after_formals r k
after (FormalsAfterComma · r) k = after_formals r k
after (Comma · r) TOKEN_COMMA = FormalsAfterComma · r
after (Comma · r) TOKEN_R_BRACE = r
after (Comma · r) k = never
after (Optional kind · r) k = if same_kind kind k then r else after r k
after (EndOr kind · r) k = only (same_kind kind k) r
after (BoundAlready · r) k = never
after (TextEnd · r) k = never

-- the row may end here
abbrev pub may_end : Row → Bool
may_end done = true
may_end (PathPieces · r) = true
may_end (MoreAttrs · r) = true
may_end (EndOr kind · r) = true
may_end (BoundAlready · r) = true
may_end (TextEnd · r) = true
may_end r = false

-- the token that a child of a kind begins with
abbrev pub opening : SyntaxKind → SyntaxKind
opening NODE_INTERPOL = TOKEN_INTERPOL_START
opening NODE_INHERIT_FROM = TOKEN_L_PAREN
opening NODE_IDENT = TOKEN_IDENT
opening NODE_PAT_BIND = TOKEN_AT
opening token = token

-- the kinds that an error lists as wanted, if any, where a part should begin
abbrev pub wanted_in : Part → List SyntaxKind
wanted_in (Wanted kind) = opening kind ∷ []
wanted_in Attr = TOKEN_IDENT ∷ (TOKEN_OR ∷ (TOKEN_CUR_POS ∷ []))
wanted_in Names = TOKEN_IDENT ∷ (TOKEN_OR ∷ (TOKEN_CUR_POS ∷ []))
wanted_in Pieces = TOKEN_STRING_END ∷ (TOKEN_STRING_CONTENT ∷ (TOKEN_INTERPOL_START ∷ []))
wanted_in Formals = TOKEN_R_BRACE ∷ (TOKEN_ELLIPSIS ∷ (TOKEN_IDENT ∷ []))
wanted_in FormalsAfterComma = TOKEN_R_BRACE ∷ (TOKEN_ELLIPSIS ∷ (TOKEN_IDENT ∷ []))
wanted_in Comma = TOKEN_R_BRACE ∷ []
wanted_in p = []

-- the kind is among these
abbrev pub is_one_of : List SyntaxKind → SyntaxKind → Bool
is_one_of kinds kind = list_any (λ k. same_kind k kind) kinds

-- the error for a missing part, if kinds are wanted there, and what is left after it
abbrev pub missing_wanted : List SyntaxKind → Row → Option (Fault × Row)
missing_wanted [] r = None
missing_wanted kinds r = Some (unexpected_eof_wanted kinds, r)

-- the error where the text ends before the row is complete, and what is left after the missing part
abbrev pub missing : Row → Option (Fault × Row)
missing (Operand n counted · r) = Some (unexpected_eof, r)
missing (Many n closer · r) = Some (unexpected_eof, r)
missing (Entries closer · r) = Some (unexpected_eof, r)
missing (Names · r) = Some (unexpected_eof, r)
missing (Formals · r) = Some (unexpected_eof, r)
missing (Optional kind · r) = missing r
missing (p · r) = missing_wanted (wanted_in p) r
missing r = None

-- the kinds before which a run of other items stops, and what is left after the run
abbrev pub run_wanted : List SyntaxKind → Row → Option (List SyntaxKind × Row)
run_wanted [] r = None
run_wanted kinds r = Some (kinds, r)

abbrev pub run_at : Row → Option (List SyntaxKind × Row)
run_at (Names · r) = Some (wanted_in Attr, Attr · Names · r)
run_at (Formals · r) = Some (wanted_in Formals, FormalsAfterComma · r)
run_at (Comma · r) = Some (wanted_in Comma, Wanted TOKEN_R_BRACE · r)
run_at (Optional kind · r) = run_at r
run_at (p · r) = run_wanted (wanted_in p) (p · r)
run_at r = None

-- the tokens that a part of an attribute path begins with
abbrev pub begins_attr : SyntaxKind → Bool
begins_attr TOKEN_INTERPOL_START = true
begins_attr TOKEN_STRING_START = true
begins_attr kind = is_one_of (wanted_in Attr) kind

-- If the next item is in the first set of the position, the child that begins with it comes next. Otherwise an operand, an attribute path or a
-- binding comes next, or the row ends, or other items are expected. A piece of a path touches what is before it.
abbrev pub expects_item : Row → Bool → SyntaxKind → Bool
expects_item (Argument · r) touches k = is_or k
expects_item (Many n closer · r) touches k = same_kind closer k
expects_item (Entries closer · r) touches k = same_kind closer k || is_inherit_token k
expects_item (Attr · r) touches k = begins_attr k
expects_item (Names · r) touches k = begins_attr k || expects_item r touches k
expects_item (PathPieces · r) touches k = touches && is_piece_start k
expects_item (MoreAttrs · r) touches k = same_kind TOKEN_DOT k
expects_item (Comma · r) touches k = same_kind TOKEN_COMMA k || same_kind TOKEN_R_BRACE k
expects_item (Optional kind · r) touches k = same_kind (opening kind) k || expects_item r touches k
expects_item (EndOr kind · r) touches k = same_kind (opening kind) k
expects_item (BoundAlready · r) touches k = same_kind TOKEN_AT k
expects_item (p · r) touches k = is_one_of (wanted_in p) k
expects_item r touches k = false

-- there is an error to report
abbrev pub is_there : Option (Fault × Row) → Bool
is_there None = false
is_there (Some w) = true

-- the position accepts the end of the text: a part is missing that is not an operand
abbrev pub expects_end : Row → Bool
expects_end (Operand n counted · r) = false
expects_end r = is_there (missing r)

-- the next item, or the end of the text, is expected, where the item before it ends at n
abbrev pub expects : Row → ℕ → List Token → Bool
expects r n [] = expects_end r
expects r n (t ∷ ts) = expects_item r (nat_eq t.start n) t.kind

-- whether the next item is expected; this is not asked where every such node has the child
abbrev pub IsExpected : Row → ℕ → List Token → Bool → Type 0
IsExpected (Child kind · r) n ts own = Unit {0}
IsExpected (Atom · r) n ts own = Unit {0}
IsExpected (First m · r) n ts own = Unit {0}
IsExpected (Suffix token · r) n ts own = Unit {0}
IsExpected (Binary · r) n ts own = Unit {0}
IsExpected (r or s) n ts own = Unit {0}
IsExpected r n ts own = expects r n ts ≡ own

-- whether a child comes where its first item is expected; operands other than the name `or`, attribute paths and bindings come where it is not
abbrev pub is_first_expected : Row → SyntaxKind → AnnotatedForest → Bool
is_first_expected (Argument · r) k c = is_or_row (one_branch k c)
is_first_expected (Operand n counted · r) k c = false
is_first_expected (Many n closer · r) k c = false
is_first_expected (Entries closer · r) k c = same_kind NODE_INHERIT k
is_first_expected (Attrpath · r) k c = false
is_first_expected r k c = true

-- the level of the operand at this position, if there is one; an `or` that is an argument has none
abbrev pub level_at : Row → AnnotatedForest → Option ℕ
level_at (Operand n counted · r) x = Some n
level_at (Many n closer · r) x = Some n
level_at (Argument · r) x = if is_or_row x then None else Some selection_level
level_at r x = None

-- an operand at this position is inside one more counted position
abbrev pub counts : Row → Bool
counts (Operand n counted · r) = counted
counts (Many n closer · r) = true
counts r = false

-- the first tree of an operator, a call or a selection is followed by an item that continues it
abbrev pub IsFollowed : Row → AnnotatedForest → Option SyntaxKind → Type 0
IsFollowed (Suffix token · r) x (Some k) = follows k x ≡ true
IsFollowed (Binary · r) x (Some k) = follows k x ≡ true
IsFollowed (Argument · r) x (Some k) = ((is_fn_arg k || is_or k) && follows k x) ≡ true
IsFollowed r x next = Unit {0}
