use Rattle.rnix_green.specs.Tree.{IsTokenAt}
use Rattle.rnix.specs.WholeTree.{IsInTree}
use Rattle.nix_diagnostics.proofs.error_nodes.near_token.Given as goal

abbrev pub invariant-loop-step : goal.invariant-loop-step
invariant-loop-step l = record {
  tree : IsInTree l.from l.token;
  is_token : IsTokenAt l.token;
}
