-- What the steps make of what is open.
use Rattle.rnix_grammar.specs.declared.slot_table.TheConstants.{APPLIED, BOUND_PATTERN, LAMBDA, LEGACY_LET, PAT_ENTRY, PATTERN, SECOND_BIND}
use Rattle.std.specs.Prelude.{ℕ, Bool, true, false, List}
use Rattle.rnix_kinds.specs.declared.kinds.SyntaxKind.{SyntaxKind}
use Rattle.rnix_kinds.specs.declared.kinds.SyntaxKind.TheVariants.{TOKEN_IDENT, TOKEN_L_BRACE, TOKEN_LET, NODE_APPLY, NODE_ERROR, NODE_IDENT, NODE_IDENT_PARAM, NODE_LAMBDA, NODE_LEGACY_LET, NODE_PAT_BIND, NODE_PAT_ENTRY, NODE_PATTERN}
use Rattle.rnix_green.specs.Forest.{tree_count}
use Rattle.rnix_grammar.specs.declared.operand_start.OperandStart.{OperandStart}
use Rattle.rnix_grammar.specs.declared.position.Position.{Position}
use Rattle.rnix_grammar.specs.declared.position.Position.TheVariants.{AfterOperand, InRow}
use Rattle.rnix_grammar.specs.OperandStarts.{operand_start_of, second_kind}
use Rattle.rnix_grammar.specs.AnnotatedForest.{Token, head_kind}
use Rattle.rnix_grammar.specs.Levels.{application_level}
use Rattle.rnix_reader.specs.declared.mark.Mark.{Mark}
use Rattle.rnix_reader.specs.State.{State, eaten, taken, bumped, started, started_here, started_at, ended, pushed}
use Rattle.rnix_reader.specs.Erase.{mark_at}

-- what is open continues at another position
abbrev pub moved_to : Position → Mark → State → State
moved_to after m s = pushed (mark_at after m.depth m.at) s

-- a node is open after the trees, and continues at a position
abbrev pub node_here : SyntaxKind → Position → ℕ → State → State
node_here k inside d s = pushed (mark_at inside d (tree_count s.trees)) (started_here k s)

-- a node is open from the next item on
abbrev pub node_started : SyntaxKind → Position → ℕ → State → State
node_started k inside d s = node_here k inside d (eaten s)

-- a node is open from the next item on, which is its first leaf
abbrev pub node_begun : SyntaxKind → Position → ℕ → State → State
node_begun k inside d s = bumped k (node_started k inside d s)

-- a node over the next item alone
abbrev pub leaf_node_made : SyntaxKind → State → State
leaf_node_made k s = ended (taken k (started k s))

-- an entry of a pattern is open, with its name
abbrev pub entry_begun : Position → Mark → State → State
entry_begun after m s = leaf_node_made NODE_IDENT (node_started NODE_PAT_ENTRY (InRow PAT_ENTRY) m.depth (moved_to after m s))

-- the second name of a pattern is open, with its first token
abbrev pub second_begun : Position → Mark → State → State
second_begun after m s = node_begun NODE_ERROR (InRow SECOND_BIND) m.depth (moved_to after m s)

-- a node is open from where the operand before it begins; the operand continues after the node
abbrev pub node_wrapped : SyntaxKind → Position → Position → Mark → State → State
node_wrapped k inside over m s = pushed (mark_at inside m.depth m.at) (started_at m.at k (moved_to over m s))

-- the operand before is applied to the next operand
abbrev pub application_begun : ℕ → Mark → State → State
application_begun min_bp m s = node_wrapped NODE_APPLY (InRow APPLIED) (AfterOperand min_bp application_level) m s

-- the operand before `or` is applied to the name `or`
abbrev pub or_applied : Position → Mark → State → State
or_applied over m s = ended (leaf_node_made NODE_IDENT (started_at m.at NODE_APPLY (moved_to over m s)))

-- the parameter of a function that is a name
abbrev pub parameter_read : State → State
parameter_read s = ended (leaf_node_made NODE_IDENT (started NODE_IDENT_PARAM s))

-- a name that is bound to a pattern, and `@`
abbrev pub binding_read : State → State
binding_read s = ended (bumped NODE_PAT_BIND (leaf_node_made NODE_IDENT (started NODE_PAT_BIND s)))

-- an operand begins after the trees
abbrev pub operand_here : Position → ℕ → State → State
operand_here inside d s = pushed (mark_at inside d (tree_count s.trees)) s

-- an operand begins with the next item
abbrev pub operand_begun : Position → ℕ → State → State
operand_begun inside d s = operand_here inside d (eaten s)

-- an operand begins that is a node, whose first leaf is the next item
abbrev pub node_operand_begun : SyntaxKind → Position → Position → ℕ → State → State
node_operand_begun k inside over d s = node_begun k inside d (operand_begun over d s)

-- an operand begins that is `let {`, with `let`
abbrev pub legacy_let_begun : Position → ℕ → State → State
legacy_let_begun over d s = bumped NODE_LEGACY_LET (node_operand_begun NODE_LEGACY_LET (InRow LEGACY_LET) over d s)

-- an operand begins that is a function, before its parameter
abbrev pub lambda_begun : Position → ℕ → State → State
lambda_begun over d s = node_started NODE_LAMBDA (InRow LAMBDA) d (operand_begun over d s)

-- a function begins whose parameter is a pattern, with the name that is bound to the pattern
abbrev pub bound_lambda_begun : Position → ℕ → State → State
bound_lambda_begun over d s = binding_read (node_started NODE_PATTERN (InRow BOUND_PATTERN) d (lambda_begun over d s))

-- a function begins whose parameter is a pattern, with `{`
abbrev pub pattern_lambda_begun : Position → ℕ → State → State
pattern_lambda_begun over d s = node_begun NODE_PATTERN (InRow PATTERN) d (lambda_begun over d s)

-- how an operand of a level begins with an item, by the items after it
abbrev pub begins_with : ℕ → Token → List Token → OperandStart
begins_with level t us = operand_start_of level t.kind t.text (head_kind us) (second_kind us)

-- how an operand begins with this item depends on the second item
abbrev pub looks_behind : SyntaxKind → Bool
looks_behind TOKEN_IDENT = true
looks_behind TOKEN_L_BRACE = true
looks_behind TOKEN_LET = true
looks_behind kind = false

-- the token `{`: how an operand begins with it depends on the third item too
abbrev pub is_brace : SyntaxKind → Bool
is_brace TOKEN_L_BRACE = true
is_brace kind = false
