use Rattle.std.proofs.Common.{◌≡◌}
use Rattle.rnix_green.specs.Walk.{preorder_of}
use Rattle.nix_formatting.specs.WalkSteps.{steps_of}
use Rattle.nix_formatting.proofs.walks.have_same_steps.Given as goal

abbrev pub invariant-loop : goal.invariant-loop
invariant-loop l = steps_of l.news ≡ steps_of l.olds → steps_of (preorder_of l.new) ≡ steps_of (preorder_of l.old)
