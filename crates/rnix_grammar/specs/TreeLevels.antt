-- How tightly a tree binds, with its error nodes.
use Rattle.std.specs.Prelude.{ℕ, Bool, true, false, if◌then◌else◌}
use Rattle.rnix_kinds.specs.declared.kinds.SyntaxKind.{SyntaxKind}
use Rattle.rnix_kinds.specs.declared.kinds.SyntaxKind.TheVariants.{TOKEN_INVERT, NODE_IDENT, NODE_BIN_OP, NODE_HAS_ATTR, NODE_UNARY_OP, NODE_APPLY, NODE_ROOT}
use Rattle.rnix_grammar.specs.Levels.{expression_level, no_level, inversion_level, has_attr_level, negation_level, application_level, selection_level, binding_power}
use Rattle.rnix_grammar.specs.AnnotatedForest.{AnnotatedForest, blank, token, branch, fault}
use Rattle.rnix_grammar.specs.TokenKinds.{is_or}
use Rattle.rnix_grammar.specs.NodeClasses.{is_atom, is_keyword_expression}

-- the operator after the first tree
abbrev pub operator_in : AnnotatedForest → SyntaxKind
operator_in (branch k c (token j t f)) = j
operator_in (fault n c (token j t f)) = j
operator_in f = NODE_ROOT

-- the level of a prefix operator's node, by its operator
abbrev pub prefix_in : AnnotatedForest → ℕ
prefix_in blank = no_level
prefix_in (token TOKEN_INVERT t f) = inversion_level
prefix_in f = negation_level

-- a forest begins with the token `or`
abbrev pub is_or_leaf : AnnotatedForest → Bool
is_or_leaf (token k t f) = is_or t.kind
is_or_leaf f = false

-- a forest begins with the name `or`
abbrev pub is_or_row : AnnotatedForest → Bool
is_or_row (branch NODE_IDENT c f) = is_or_leaf c
is_or_row f = false

-- the second tree of a forest is the name `or`
abbrev pub calls_or : AnnotatedForest → Bool
calls_or (branch k c f) = is_or_row f
calls_or (fault n c f) = is_or_row f
calls_or f = false

-- the highest level at which a node with these children is allowed, error nodes included; 0 means only where any expression is allowed
abbrev pub level_of : SyntaxKind → AnnotatedForest → ℕ
level_of NODE_BIN_OP c = binding_power (operator_in c)
level_of NODE_HAS_ATTR c = has_attr_level
level_of NODE_UNARY_OP c = prefix_in c
level_of NODE_APPLY c = if calls_or c then selection_level else application_level
level_of kind c = if is_keyword_expression kind then expression_level else selection_level

-- the level of the first tree of a forest; an error node counts as a literal
abbrev pub row_level : AnnotatedForest → ℕ
row_level (branch k c f) = level_of k c
row_level (fault n c f) = selection_level
row_level f = no_level

-- a forest begins with an atom, or with an error node
abbrev pub is_atom_row : AnnotatedForest → Bool
is_atom_row (branch k c f) = is_atom k
is_atom_row (fault n c f) = true
is_atom_row f = false
