-- How an operand of a level begins and ends: its first three items decide how it begins, and the item after it could not continue it.
use Rattle.std.specs.Prelude.{ℕ, Bool, false, ◌||◌, ◌&&◌, List, [], ◌∷◌, if◌then◌else◌, nat_le}
use Rattle.rnix_kinds.specs.declared.kinds.SyntaxKind.{SyntaxKind}
use Rattle.rnix_kinds.specs.declared.kinds.SyntaxKind.TheVariants.{NODE_BIN_OP, NODE_HAS_ATTR, NODE_APPLY, NODE_SELECT, NODE_LAMBDA, NODE_ERROR}
use Rattle.rnix_kinds.specs.SyntaxKind.{is_fn_arg}
use Rattle.rnix_grammar.specs.Levels.{has_attr_level, application_level, binding_power, left_of}
use Rattle.rnix_grammar.specs.AnnotatedForest.{Token, AnnotatedForest, branch}
use Rattle.rnix_grammar.specs.TokenKinds.{is_or, is_question, is_dot}
use Rattle.rnix_grammar.specs.NodeClasses.{is_infix}
use Rattle.rnix_grammar.specs.TreeLevels.{row_level, is_atom_row}

-- the kind of the innermost first tree of an operand, inside operators, calls and selections; for a function, the kind of its parameter
abbrev pub first_tree : AnnotatedForest → SyntaxKind
first_tree (branch NODE_BIN_OP c f) = first_tree c
first_tree (branch NODE_HAS_ATTR c f) = first_tree c
first_tree (branch NODE_APPLY c f) = first_tree c
first_tree (branch NODE_SELECT c f) = first_tree c
first_tree (branch NODE_LAMBDA (branch k c g) f) = k
first_tree (branch k c f) = k
first_tree f = NODE_ERROR

-- an item of the kind may continue the tree before it
abbrev pub follows : SyntaxKind → AnnotatedForest → Bool
follows kind x =
    if is_infix kind then nat_le (left_of kind) (row_level x)
    else (if is_question kind then nat_le has_attr_level (row_level x)
    else (if is_fn_arg kind then nat_le application_level (row_level x) else ((is_dot kind || is_or kind) && is_atom_row x)))

-- the next item would continue an operand of a level
abbrev pub is_continued : ℕ → AnnotatedForest → List Token → Bool
is_continued level x [] = false
is_continued level x (t ∷ ts) = follows t.kind x && nat_le level (binding_power t.kind)
