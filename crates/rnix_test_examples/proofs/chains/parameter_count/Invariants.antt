use Rattle.rnix.specs.Chains.{count_if, expr_if}
use Rattle.rnix_test_examples.proofs.chains.parameter_count.Given as goal

abbrev pub decreases-loop-value : goal.decreases-loop-value
decreases-loop-value l = count_if (expr_if l.value)
