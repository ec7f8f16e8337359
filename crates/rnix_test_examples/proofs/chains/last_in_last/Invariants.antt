use Rattle.rnix.specs.Chains.{behind_if, place_if}
use Rattle.rnix_test_examples.proofs.chains.last_in_last.Given as goal

abbrev pub decreases-loop-next : goal.decreases-loop-next
decreases-loop-next l = behind_if (place_if l.next)
