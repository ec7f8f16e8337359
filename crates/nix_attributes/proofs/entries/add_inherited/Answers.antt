use Rattle.{rnix_base.specs.Select.{nodes_of, those_of}, rnix.specs.{NodeKinds.is_attr, Sums.attr_node}, std.proofs.Common.map}
use Rattle.nix_attributes.{specs.DefinedNames.inherited_at, proofs.DefinedNamesLemmas.inherited_next}
use Rattle.nix_attributes.proofs.entries.add_inherited.Goals as goal

pub loop-attr-preserved : goal.loop-attr-preserved
loop-attr-preserved c = record {
  next = tt;
  ends = tt;
  some = inherited_next c.args.owner c.args.attributes.now c.loop-attr.attributes c.add_name.new.attributes
      (map (inherited_at c.args.owner) (nodes_of is_attr c.args.inherit.now)) (those_of is_attr c.loop-attr.attr-iterator)
      (those_of is_attr c.next.new.self) (attr_node c.in-Some.attr) c.loop-attr.invariant.some c.in-Some.ensures.steps c.in_ok-add_name.ensures;
}
