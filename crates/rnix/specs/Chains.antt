-- How many elements are left to a chain of calls, each on what the one before returned: what the measures of loops cite.
use Rattle.std.specs.Prelude.{Option, option_map}
use Rattle.rnix_green.specs.Tree.{Located}
use Rattle.rnix.specs.declared.ast.expression.Expr.{Expr}
use Rattle.rnix.specs.Sums.{expr_node}
pub use Rattle.rnix_tree.specs.ChainMeasures.{behind_if, before_if, place_if}
pub use Rattle.rnix_tree.specs.InsideCounts.{count_if}

-- the node of an expression, if there is one
abbrev pub expr_if : Option Expr → Option Located
expr_if expr = option_map expr_node expr
