use Rattle.rnix.specs.Chains.{behind_if}
use Rattle.rnix_test_examples.proofs.chains.nodes_behind.Given as goal

abbrev pub decreases-loop-next : goal.decreases-loop-next
decreases-loop-next l = behind_if l.next
