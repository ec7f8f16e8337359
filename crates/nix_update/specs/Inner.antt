-- Which part of an expression contains the expression's attributes.
use Rattle.std.specs.Prelude.{Bool, true, false, Option, Some, None, if◌then◌else◌}
use Rattle.rnix_kinds.specs.declared.kinds.SyntaxKind.{SyntaxKind}
use Rattle.rnix_kinds.specs.declared.kinds.SyntaxKind.TheVariants as k
use Rattle.rnix_green.specs.Tree.{Located, item_of}
use Rattle.rnix_green.specs.Walk.{children_of}
use Rattle.rnix_green.specs.Equality.{same_kind}
use Rattle.rnix_base.specs.declared.operators.BinOpKind.{BinOpKind}
use Rattle.rnix_base.specs.declared.operators.BinOpKind.TheVariants as op
use Rattle.rnix_base.specs.TokenOperators.{first_operator, binary_operator}
use Rattle.rnix_base.specs.Select.{child_of, tokens_in}
use Rattle.rnix.specs.AttrName.{without_parens}
use Rattle.rnix.specs.NodeKinds.{is_expr}

-- whether an expression of a kind may write out attributes: a set, an operation, or an expression whose value is that of an expression inside it
abbrev pub may_define : SyntaxKind → Bool
may_define k.NODE_ATTR_SET = true
may_define k.NODE_BIN_OP = true
may_define k.NODE_IF_ELSE = true
may_define k.NODE_LET_IN = true
may_define k.NODE_LEGACY_LET = true
may_define k.NODE_WITH = true
may_define k.NODE_ASSERT = true
may_define _ = false

-- whether a path may lead into an operand of `//`: without the parentheses around it, it is such an expression
abbrev pub is_candidate : Located → Bool
is_candidate e = may_define (item_of (without_parens e)).kind

-- the one of two operands into which a path may lead, if it cannot lead into the other
abbrev pub only_candidate : Located → Located → Option Located
only_candidate left right =
    if is_candidate left then (if is_candidate right then None else Some left) else (if is_candidate right then Some right else None)

-- the same, for operands that may be missing
abbrev pub only_candidate_if : Option Located → Option Located → Option Located
only_candidate_if (Some left) (Some right) = only_candidate left right
only_candidate_if _ _ = None

-- the operand into which a path leads in a node with an operator: only `//` has one
abbrev pub operand_by : Option BinOpKind → Located → Option Located
operand_by (Some op.Update) e = only_candidate_if (child_of is_expr 0 e) (child_of is_expr 1 e)
operand_by _ e = None

-- the operand into which a path leads in a node, if the node is an operation
abbrev pub operand : Located → Option Located
operand e =
    if same_kind k.NODE_BIN_OP (item_of e).kind then operand_by (first_operator binary_operator (tokens_in (children_of e))) e else None

-- the expression into which a path leads inside a node of a kind
abbrev pub inner_by : SyntaxKind → Located → Option Located
inner_by k.NODE_ROOT e = child_of is_expr 0 e
inner_by k.NODE_PAREN e = child_of is_expr 0 e
inner_by k.NODE_LAMBDA e = child_of is_expr 0 e
inner_by k.NODE_LET_IN e = child_of is_expr 0 e
inner_by k.NODE_WITH e = child_of is_expr 1 e
inner_by k.NODE_ASSERT e = child_of is_expr 1 e
inner_by k.NODE_APPLY e = child_of is_expr 1 e
inner_by k.NODE_BIN_OP e = operand e
inner_by _ e = None

-- the expression into which a path leads inside a node: the one of the root or in brackets, the body of a function, a `let`, a `with` or an `assert`, the
-- argument of a call, or the only operand of `//` into which a path may lead
abbrev pub inner : Located → Option Located
inner e = inner_by (item_of e).kind e
