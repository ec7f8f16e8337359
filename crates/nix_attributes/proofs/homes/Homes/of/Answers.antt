use Rattle.std.{proofs.Common.ap, specs.Prelude.flat_map}
use Rattle.nix_attributes.{specs.DefinedNames.{names_at, names_in}, proofs.{DefinedNamesLemmas.node_next, RepeatedLemmas.{homes_known, adds_all}}}
use Rattle.nix_attributes.proofs.homes.Homes.of.Goals as goal

pub loop-node-preserved : goal.loop-node-preserved
loop-node-preserved c = record {
  next = tt;
  ends = tt;
  some = node_next _ c.loop-node.attributes c.add_names.new.attributes (names_in c.args.root.now) c.loop-node.node-iterator c.next.new.self c.in-Some.node
      c.loop-node.invariant.some c.in-Some.ensures.steps c.in_ok-add_names.ensures;
}

pub returns : goal.returns
returns c = homes_known c.new-attributes.result c.loop-node.attributes (names_in c.args.root.now) c.new-attributes.ensures
    (adds_all c.new-attributes.result c.loop-node.attributes _ _ c.loop-node.invariant.some (ap (flat_map names_at) c.in-None.ensures.steps.0))
