use Rattle.std.proofs.Common.{◌≡◌}
use Rattle.rnix_green.specs.Walk.{preorder_of}
use Rattle.nix_formatting.specs.KeptPairs.{kept_of}
use Rattle.nix_formatting.proofs.retokened.have_same_kept_steps.Given as goal

abbrev pub invariant-loop : goal.invariant-loop
invariant-loop l = kept_of l.news ≡ kept_of l.olds → kept_of (preorder_of l.new) ≡ kept_of (preorder_of l.old)
