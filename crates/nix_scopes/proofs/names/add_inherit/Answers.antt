use Rattle.{std.proofs.Common.{◌++◌, map, refl}, rnix_base.specs.Select.those_of, rnix.specs.{AttrName.static_name, NodeKinds.is_attr, Sums.attr_node}}
use Rattle.nix_scopes.{specs.{Names.named_if, Binders.{named, inherit_names}}, proofs.WalkLemmas.listing_next}
use Rattle.nix_scopes.proofs.names.add_inherit.Goals as goal

pub loop-attr-preserved : goal.loop-attr-preserved
loop-attr-preserved c = record {
  next = tt;
  ends = tt;
  listing = listing_next (λ e. named_if e (static_name e)) (map named c.loop-attr.names.items) (map named c.add_attr.new.names.items)
      (map named c.args.names.now.items ++ inherit_names c.args.inherit.now) (those_of is_attr c.loop-attr.attr-iterator) (those_of is_attr c.next.new.self)
      (attr_node c.in-Some.attr) (attr_node c.in-Some.attr) c.loop-attr.invariant.listing c.in-Some.ensures.steps
      refl c.in_ok-add_attr.ensures;
}
