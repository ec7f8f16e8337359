use Rattle.std.{proofs.Common.{ap}, specs.Prelude.flat_map}
use Rattle.nix_scopes.{specs.Merged.owned_by, proofs.AddedOwnedLemmas.{most_next, most_all}}
use Rattle.nix_scopes.proofs.added.add_inherited.Goals as goal

pub loop-attr-preserved : goal.loop-attr-preserved
loop-attr-preserved c = record {
  next = tt;
  ends = tt;
  most = λ root h. most_next root c.args.added.now c.loop-attr.added c.add_attr.new.added _ _ _ _ (c.loop-attr.invariant.most root h)
      (ap (flat_map (owned_by c.args.owner)) c.in-Some.ensures.steps) (c.in_ok-add_attr.ensures root h);
}

pub returns : goal.returns
returns c = λ root h. most_all root c.args.added.now c.loop-attr.added _ _ (c.loop-attr.invariant.most root h)
    (ap (flat_map (owned_by c.args.owner)) c.in-None.ensures.steps.0)
