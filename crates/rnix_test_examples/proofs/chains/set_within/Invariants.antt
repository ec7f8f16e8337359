use Rattle.rnix.specs.Chains.{count_if, expr_if}
use Rattle.rnix_test_examples.proofs.chains.set_within.Given as goal

abbrev pub decreases-loop-next : goal.decreases-loop-next
decreases-loop-next l = count_if (expr_if l.next)
