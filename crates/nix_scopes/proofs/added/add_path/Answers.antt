use Rattle.std.proofs.Common.{ap, sym, ◌∙◌, ◌++◌}
use Rattle.{rnix_base.specs.Select.those_of, rnix_green.specs.Tree.Located, rnix.specs.{NodeKinds.is_attr, Sums.attr_node}}
use Rattle.nix_scopes.{specs.Merged.{owned_by, owned_names}, proofs.AddedOwnedLemmas.{most_next, most_all}}
use Rattle.nix_scopes.proofs.added.add_path.Goals as goal

pub loop-attr-preserved : goal.loop-attr-preserved
loop-attr-preserved c = record {
  next = tt;
  ends = tt;
  most = λ root h. most_next root c.args.added.now c.loop-attr.added c.add_attr.new.added _ _ _ _ (c.loop-attr.invariant.most root h)
      (ap (owned_names c.loop-attr.before) c.in-Some.ensures.steps
      ∙ ap (λ n. owned_by c.loop-attr.before (attr_node c.in-Some.attr) ++ owned_names n (those_of is_attr c.next.new.self))
      (sym (c.number-before.ensures ∙ ap (λ (e : Located). e.number) c.syntax.ensures.node)))
      (c.in_ok-add_attr.ensures root h);
}

pub returns : goal.returns
returns c = λ root h. most_all root c.args.added.now c.loop-attr.added _ _ (c.loop-attr.invariant.most root h)
    (ap (owned_names c.loop-attr.before) c.in-None.ensures.steps.0)
