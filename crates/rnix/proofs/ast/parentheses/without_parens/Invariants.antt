use Rattle.std.proofs.Common.{◌≡◌, ℕ}
use Rattle.rnix.specs.AttrName.{inside_parens, without_parens}
use Rattle.rnix.proofs.ast.parentheses.without_parens.Given as goal

abbrev pub invariant-loop-count : goal.invariant-loop-count
invariant-loop-count l = without_parens l.expr ≡ inside_parens l.count l.inner

abbrev pub decreases-loop-count : goal.decreases-loop-count
decreases-loop-count l = l.count
