use Rattle.std.{proofs.Common.{ap, ◌∙◌, ◌++◌}, specs.Prelude.flat_map}
use Rattle.nix_scopes.{specs.Merged.{owned_at, added_to}, proofs.AddedOwnedLemmas.{most_next, most_all, none_for}}
use Rattle.nix_scopes.proofs.added.Added.of.Goals as goal

pub loop-node-preserved : goal.loop-node-preserved
loop-node-preserved c = record {
  next = tt;
  ends = tt;
  most = λ root h. most_next root _ c.loop-node.added c.add_entry.new.added _ _ _ _ (c.loop-node.invariant.most root h)
      (ap (flat_map owned_at) c.in-Some.ensures.steps) (c.in_ok-add_entry.ensures root h);
}

pub returns : goal.returns
returns c = λ h set.
    most_all c.args.root.now record { names = c.new.result } c.loop-node.added _ _ (c.loop-node.invariant.most c.args.root.now h)
    (ap (flat_map owned_at) c.in-None.ensures.steps.0) set
    ∙ ap (λ names. names ++ added_to c.args.root.now set) (none_for record { names = c.new.result } set c.new.ensures.empty)
