-- The expressions of a tree: its nodes that have the kind of an expression, except for two names that are none.
use Rattle.std.specs.Prelude.{Bool, true, false, List, [], ◌∷◌, ◌++◌, if◌then◌else◌}
use Rattle.rnix_kinds.specs.declared.kinds.SyntaxKind.{SyntaxKind}
use Rattle.rnix_kinds.specs.declared.kinds.SyntaxKind.TheVariants.{NODE_IDENT}
use Rattle.rnix_green.specs.Forest.{Forest, empty, leaf, node}
use Rattle.rnix_grammar.specs.Tables.{is_or, is_cur_pos}
use Rattle.rnix_grammar.specs.NodeClasses.{is_expression}
use Rattle.rnix_grammar.specs.AnnotatedForest.{Token, AnnotatedForest, blank, token, branch, fault, tokens_in, forget}

-- an expression of a tree: the kind of its node, and its children with their items
pub record Expression : Type 0 where
  pub kind : SyntaxKind
  pub children : AnnotatedForest

-- a forest of this one tree
abbrev pub alone : Expression → Forest
alone e = node e.kind (forget e.children) empty

-- its items
abbrev pub own_items : Expression → List Token
own_items e = tokens_in e.children

-- a node of the kind over the forest is an expression; as a NODE_IDENT, `or` and `__curPos` are names of attributes, arguments or parameters alone
abbrev pub is_expression_node : SyntaxKind → Forest → Bool
is_expression_node NODE_IDENT (leaf k t f) = if is_or t then false else (if is_cur_pos t then false else true)
is_expression_node kind c = is_expression kind

-- an expression before others, if it is one
abbrev pub expression_if : Bool → Expression → List Expression → List Expression
expression_if true e es = e ∷ es
expression_if false e es = es

-- the expressions of a forest, each before those inside it
abbrev pub expressions : AnnotatedForest → List Expression
expressions blank = []
expressions (token k t f) = expressions f
expressions (branch k c f) = expression_if (is_expression_node k (forget c)) (record { kind = k; children = c }) (expressions c ++ expressions f)
expressions (fault n c f) = expressions c ++ expressions f
