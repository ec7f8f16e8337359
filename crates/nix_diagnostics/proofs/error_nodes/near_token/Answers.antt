use Rattle.std.proofs.Common.{◌∙◌, ap, sym, subst, arith}
use Rattle.rnix_green.specs.Range.{Extent}
use Rattle.rnix_green.specs.Tree.{Located, IsTokenAt}
use Rattle.nix_diagnostics.proofs.FaultNodeLemmas.{next_is_token}
use Rattle.nix_diagnostics.proofs.error_nodes.near_token.Goals as goal

pub loop-step-init : goal.loop-step-init
loop-step-init c = record {
  tree = ap (λ (e : Located). e.tree) c.clone-token.ensures;
  is_token = subst IsTokenAt (sym c.clone-token.ensures) c.requires;
}

pub returns-then-offset-end : goal.returns-then-offset-end
returns-then-offset-end c =
    let at = c.text_range-range.ensures in
    record {
      tree = c.loop-step.invariant.tree;
      is_token = c.loop-step.invariant.is_token;
      start = sym (ap (λ (e : Extent). e.start) at) ∙ sym c.start.ensures ∙ c.if-start-offset.true;
      some = omega (arith, c.if-offset-end.true, c.end.ensures.value, ap (λ (e : Extent). e.end) at);
    }

pub loop-step-preserved : goal.loop-step-preserved
loop-step-preserved c =
    let next = next_is_token c.loop-step.token c.in_ok-next.next c.in_ok-next.ensures in
    record { tree = next.0 ∙ c.loop-step.invariant.tree; is_token = next.1 }
