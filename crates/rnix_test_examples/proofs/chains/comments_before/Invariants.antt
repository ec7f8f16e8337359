use Rattle.rnix.specs.Chains.{before_if, place_if}
use Rattle.rnix_test_examples.proofs.chains.comments_before.Given as goal

abbrev pub decreases-loop-next : goal.decreases-loop-next
decreases-loop-next l = before_if (place_if l.next)
