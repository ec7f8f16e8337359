-- What the reader does at each position, by the next item.
use Rattle.std.specs.Prelude.{ℕ, Bool, true, false, ◌+◌, ◌&&◌, Option, Some, None, if◌then◌else◌, nat_le, nat_eq}
use Rattle.rnix_kinds.specs.declared.kinds.SyntaxKind.{SyntaxKind}
use Rattle.rnix_kinds.specs.declared.kinds.SyntaxKind.TheVariants.{TOKEN_R_PAREN, TOKEN_L_PAREN, TOKEN_L_BRACE, TOKEN_R_BRACE, TOKEN_SEMICOLON, TOKEN_ASSIGN, TOKEN_COLON, TOKEN_COMMA, TOKEN_THEN, TOKEN_ELSE, TOKEN_INTERPOL_END, TOKEN_INHERIT, TOKEN_STRING_START, TOKEN_STRING_CONTENT, TOKEN_STRING_END, TOKEN_INTERPOL_START, TOKEN_PATH_ABS, TOKEN_PATH_REL, TOKEN_PATH_HOME, TOKEN_IDENT, TOKEN_OR, TOKEN_CUR_POS, TOKEN_DOT, TOKEN_ELLIPSIS, TOKEN_AT, TOKEN_QUESTION, NODE_INHERIT, NODE_ATTRPATH_VALUE, NODE_ATTRPATH, NODE_INTERPOL, NODE_DYNAMIC, NODE_STRING, NODE_IDENT, NODE_INHERIT_FROM, NODE_PAT_BIND, NODE_PAT_ENTRY, NODE_PATTERN, NODE_ERROR, NODE_SELECT, NODE_HAS_ATTR, NODE_BIN_OP}
use Rattle.rnix_kinds.specs.SyntaxKind.{is_fn_arg}
use Rattle.rnix_green.specs.Equality.{same_kind}
use Rattle.rnix_grammar.specs.declared.position.Position.{Position}
use Rattle.rnix_grammar.specs.declared.position.Position.TheVariants as p
use Rattle.rnix_grammar.specs.declared.slot_table.Slot.{Slot}
use Rattle.rnix_grammar.specs.declared.slot_table.Slot.TheVariants.{Next, End}
use Rattle.rnix_grammar.specs.declared.slot_table.TheConstants.{PATTERN, AFTER_COMMA, AFTER_FORMAL, PATTERN_CLOSE, BOUND_AFTER_COMMA, BOUND_AFTER_FORMAL, BOUND_PATTERN_CLOSE, DYNAMIC, STRING, STRING_CLOSED, INHERIT_END, INHERIT_CLOSED, INTERPOL, INHERIT, INHERIT_FROM, INHERITED_NAME, ATTRPATH, ATTRPATH_VALUE, PAT_BIND, SELECT, HAS_ATTR, BIN_OP_END}
use Rattle.rnix_grammar.specs.declared.rules.Part.{Part}
use Rattle.rnix_grammar.specs.declared.rules.Part.TheVariants as r
use Rattle.rnix_grammar.specs.declared.expected_set.ExpectedSet.{ExpectedSet}
use Rattle.rnix_grammar.specs.declared.expected_set.ExpectedSet.TheVariants as u
use Rattle.rnix_grammar.specs.declared.action.Action.{Action}
use Rattle.rnix_grammar.specs.declared.action.Action.TheVariants as a
use Rattle.rnix_grammar.specs.Levels.{has_attr_level, application_level, binding_power, right_of, max_bp_of}
use Rattle.rnix_grammar.specs.Slots.{slot_at}

-- what an error lists as wanted where a child of a kind is missing
abbrev pub expected_set_of : SyntaxKind → ExpectedSet
expected_set_of TOKEN_R_PAREN = u.RParen
expected_set_of TOKEN_L_BRACE = u.LBrace
expected_set_of TOKEN_R_BRACE = u.RBrace
expected_set_of TOKEN_SEMICOLON = u.Semicolon
expected_set_of TOKEN_ASSIGN = u.Assign
expected_set_of TOKEN_COLON = u.Colon
expected_set_of TOKEN_THEN = u.Then
expected_set_of TOKEN_ELSE = u.Else
expected_set_of TOKEN_INTERPOL_END = u.InterpolEnd
expected_set_of TOKEN_STRING_END = u.StringEnd
expected_set_of kind = u.Ident

-- where a token of a kind is wanted
abbrev pub token_action : SyntaxKind → ℕ → ℕ → SyntaxKind → Action
token_action wanted index after kind = if same_kind wanted kind then a.Take after else a.Run (expected_set_of wanted) index

-- where a name is wanted
abbrev pub name_action : ℕ → ℕ → SyntaxKind → Action
name_action index after TOKEN_IDENT = a.Leaf NODE_IDENT after
name_action index after kind = a.Run u.Ident index

-- where a child of a kind is wanted, which is a token or a name
abbrev pub wanted_action : SyntaxKind → ℕ → ℕ → Option SyntaxKind → Action
wanted_action wanted index after None = a.MissWanted (expected_set_of wanted) after
wanted_action wanted index after (Some kind) = if same_kind wanted NODE_IDENT then name_action index after kind else token_action wanted index after kind

-- where more operands of a level may be, or what closes the row
abbrev pub many_action : ℕ → SyntaxKind → ℕ → ℕ → Option SyntaxKind → Action
many_action level closer index after None = a.Miss after
many_action level closer index after (Some kind) = if same_kind closer kind then a.Take after else a.Read level true index

-- where more entries of a set or of bindings may be, or what closes the row
abbrev pub entries_action : SyntaxKind → ℕ → ℕ → Option SyntaxKind → Action
entries_action closer index after None = a.Miss after
entries_action closer index after (Some TOKEN_INHERIT) = a.Open NODE_INHERIT INHERIT index
entries_action closer index after (Some kind) = if same_kind closer kind then a.Take after else a.OpenEmpty NODE_ATTRPATH_VALUE ATTRPATH_VALUE index

-- inside a string: its content, an interpolation, or its closing quotes
abbrev pub pieces_action : ℕ → ℕ → Option SyntaxKind → Action
pieces_action index after None = a.MissWanted u.Piece after
pieces_action index after (Some TOKEN_STRING_END) = a.Take STRING_CLOSED
pieces_action index after (Some TOKEN_STRING_CONTENT) = a.Take index
pieces_action index after (Some TOKEN_INTERPOL_START) = a.Open NODE_INTERPOL INTERPOL index
pieces_action index after (Some kind) = a.Run u.Piece index

-- where a path may continue: a piece of the path, an interpolation, or the end of the path
abbrev pub piece_action : ℕ → Option SyntaxKind → Action
piece_action index (Some TOKEN_PATH_ABS) = a.Take index
piece_action index (Some TOKEN_PATH_REL) = a.Take index
piece_action index (Some TOKEN_PATH_HOME) = a.Take index
piece_action index (Some TOKEN_INTERPOL_START) = a.Open NODE_INTERPOL INTERPOL index
piece_action index next = a.Close

-- where more pieces of a path may be, by whether the next item touches what is before it
abbrev pub path_pieces_action : ℕ → Bool → Option SyntaxKind → Action
path_pieces_action index touches next = if touches then piece_action index next else a.Close

-- where an attribute is wanted: a name, a string or an interpolation; `again` is the position after a run of other items
abbrev pub attr_action : ℕ → ℕ → Option SyntaxKind → Action
attr_action again after None = a.MissWanted u.Attr after
attr_action again after (Some TOKEN_INTERPOL_START) = a.Open NODE_DYNAMIC DYNAMIC after
attr_action again after (Some TOKEN_STRING_START) = a.Open NODE_STRING STRING after
attr_action again after (Some TOKEN_IDENT) = a.Leaf NODE_IDENT after
attr_action again after (Some TOKEN_OR) = a.Leaf NODE_IDENT after
attr_action again after (Some TOKEN_CUR_POS) = a.Leaf NODE_IDENT after
attr_action again after (Some kind) = a.Run u.Attr again

-- where more inherited names may be, or `;`
abbrev pub names_action : ℕ → ℕ → Option SyntaxKind → Action
names_action index after None = a.Miss after
names_action index after (Some kind) = if same_kind kind TOKEN_SEMICOLON then a.Take INHERIT_CLOSED else attr_action INHERITED_NAME index (Some kind)

-- after `inherit`: `(`, or names
abbrev pub source_action : ℕ → Option SyntaxKind → Action
source_action after None = names_action after INHERIT_END None
source_action after (Some kind) =
    if same_kind kind TOKEN_L_PAREN then a.Open NODE_INHERIT_FROM INHERIT_FROM after else names_action after INHERIT_END (Some kind)

-- after an attribute: `.`, or the end of the path
abbrev pub more_attrs_action : Option SyntaxKind → Action
more_attrs_action (Some TOKEN_DOT) = a.Take ATTRPATH
more_attrs_action next = a.Close

-- inside the braces of a pattern, where a formal may be; `bound` means that a name and `@` precede the braces
abbrev pub formals_action : Bool → ℕ → Option SyntaxKind → Action
formals_action bound after None = a.MissWanted u.Entry after
formals_action bound after (Some TOKEN_R_BRACE) = a.Take after
formals_action bound after (Some TOKEN_ELLIPSIS) = a.Take (if bound then BOUND_PATTERN_CLOSE else PATTERN_CLOSE)
formals_action bound after (Some TOKEN_IDENT) = a.Entry (if bound then BOUND_AFTER_FORMAL else AFTER_FORMAL)
formals_action bound after (Some kind) = a.Run u.Entry (if bound then BOUND_AFTER_COMMA else AFTER_COMMA)

-- after the opening brace of a pattern
abbrev pub first_formals_action : Bool → ℕ → Option SyntaxKind → Action
first_formals_action bound after None = a.Miss after
first_formals_action bound after next = formals_action bound after next

-- after a formal: `,`, or the closing brace
abbrev pub comma_action : Bool → ℕ → Option SyntaxKind → Action
comma_action bound after None = wanted_action TOKEN_R_BRACE (if bound then BOUND_PATTERN_CLOSE else PATTERN_CLOSE) after None
comma_action bound after (Some kind) =
    if same_kind kind TOKEN_COMMA then a.Take (if bound then BOUND_AFTER_COMMA else AFTER_COMMA)
    else wanted_action TOKEN_R_BRACE (if bound then BOUND_PATTERN_CLOSE else PATTERN_CLOSE) after (Some kind)

-- where a child of a kind or the end of the row comes next
abbrev pub end_or_action : SyntaxKind → ℕ → Option SyntaxKind → Action
end_or_action TOKEN_OR after (Some TOKEN_OR) = a.Take after
end_or_action TOKEN_QUESTION after (Some TOKEN_QUESTION) = a.Take after
end_or_action TOKEN_QUESTION after next = a.CloseEntry
end_or_action NODE_INTERPOL after (Some TOKEN_INTERPOL_START) = a.Open NODE_INTERPOL INTERPOL after
end_or_action NODE_PAT_BIND after (Some TOKEN_AT) = a.Open NODE_PAT_BIND PAT_BIND after
end_or_action NODE_PAT_BIND after next = a.ClosePattern
end_or_action kind after next = a.Close

-- after the braces of a pattern that has a name before it
abbrev pub bound_action : ℕ → Option SyntaxKind → Action
bound_action after (Some TOKEN_AT) = a.DoubleBind after
bound_action after next = a.ClosePattern

-- after the root's expression
abbrev pub end_action : Option SyntaxKind → Action
end_action None = a.Finish
end_action (Some kind) = a.Extra

-- where the next child is one that each node of the kind has
abbrev pub child_action : ℕ → Option SyntaxKind → Action
child_action after None = a.Miss after
child_action after (Some kind) = a.Take after

-- at the end of the row of a node of a kind
abbrev pub close_action : SyntaxKind → Action
close_action NODE_PAT_ENTRY = a.CloseEntry
close_action NODE_PATTERN = a.ClosePattern
close_action NODE_ERROR = a.CloseDoubleBind
close_action kind = a.Close

-- the two indices differ
abbrev pub is_not : ℕ → ℕ → Bool
is_not index other = if nat_eq index other then false else true

-- where a part of a row comes next, by its index
abbrev pub part_action : Part → ℕ → Option SyntaxKind → Bool → Action
part_action (r.Operand level counted) index next touches = a.Read level counted (index + 1)
part_action (r.Wanted kind) index next touches = wanted_action kind index (index + 1) next
part_action (r.Many level closer) index next touches = many_action level closer index (index + 1) next
part_action (r.Entries closer) index next touches = entries_action closer index (index + 1) next
part_action r.Attr index next touches = attr_action index (index + 1) next
part_action r.Attrpath index next touches = a.OpenEmpty NODE_ATTRPATH ATTRPATH (index + 1)
part_action r.MoreAttrs index next touches = more_attrs_action next
part_action r.Names index next touches = names_action index (index + 1) next
part_action (r.Optional kind) index next touches = source_action (index + 1) next
part_action r.Pieces index next touches = pieces_action index (index + 1) next
part_action r.PathPieces index next touches = path_pieces_action index touches next
part_action r.Formals index next touches = first_formals_action (is_not index PATTERN) (index + 1) next
part_action r.FormalsAfterComma index next touches = formals_action (is_not index AFTER_COMMA) (index + 1) next
part_action r.Comma index next touches = comma_action (is_not index AFTER_FORMAL) (index + 1) next
part_action (r.EndOr kind) index next touches = end_or_action kind (index + 1) next
part_action r.BoundAlready index next touches = bound_action (index + 1) next
part_action r.TextEnd index next touches = end_action next
part_action part index next touches = child_action (index + 1) next

-- how a token continues an operand
abbrev pub continue_action : SyntaxKind → Action
continue_action TOKEN_DOT = a.Wrap NODE_SELECT (p.InRow SELECT) application_level
continue_action TOKEN_OR = a.ApplyOr
continue_action TOKEN_QUESTION = a.Wrap NODE_HAS_ATTR (p.InRow HAS_ATTR) has_attr_level
continue_action kind = if is_fn_arg kind then a.Apply else a.Wrap NODE_BIN_OP (p.Right (right_of kind)) (max_bp_of kind)

-- an operator may continue an operand: its level is between the two
abbrev pub may_continue : ℕ → ℕ → SyntaxKind → Bool
may_continue min_bp max_bp kind = nat_le 1 (binding_power kind) && (nat_le min_bp (binding_power kind) && nat_le (binding_power kind) max_bp)

-- after an operand: a token whose level is between the two continues it; otherwise the operand ends
abbrev pub more_action : ℕ → ℕ → Option SyntaxKind → Action
more_action min_bp max_bp None = a.EndOperand
more_action min_bp max_bp (Some kind) = if may_continue min_bp max_bp kind then continue_action kind else a.EndOperand

-- at a slot of the table
abbrev pub slot_action : Option Slot → ℕ → Option SyntaxKind → Bool → Action
slot_action None index next touches = a.Close
slot_action (Some (Next part)) index next touches = part_action part index next touches
slot_action (Some (End kind)) index next touches = close_action kind

-- at a position of a row
abbrev pub action_at_slot : ℕ → Option SyntaxKind → Bool → Action
action_at_slot index next touches = slot_action (slot_at index) index next touches

-- the action at a position, by the next item and by whether it touches the one before
abbrev pub action_at : Position → Option SyntaxKind → Bool → Action
action_at (p.InRow index) next touches = action_at_slot index next touches
action_at (p.AfterOperand min_bp max_bp) next touches = more_action min_bp max_bp next
action_at (p.Right level) next touches = a.Read level false BIN_OP_END
