use Rattle.rnix.specs.Chains.{before_if}
use Rattle.rnix_test_examples.proofs.chains.sets_around.Given as goal

abbrev pub decreases-loop-next : goal.decreases-loop-next
decreases-loop-next l = before_if l.next
