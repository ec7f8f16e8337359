use Rattle.nix_attributes.{specs.DefinedNames.names_in, proofs.DefinedNamesLemmas.node_next}
use Rattle.nix_attributes.proofs.repeated.repeated_attributes.Goals as goal

pub loop-node-preserved : goal.loop-node-preserved
loop-node-preserved c = record {
  next = tt;
  ends = tt;
  some = node_next _ c.loop-node.attributes c.add_names.new.attributes (names_in c.args.root.now) c.loop-node.node-iterator c.next.new.self c.in-Some.node
      c.loop-node.invariant.some c.in-Some.ensures.steps c.in_ok-add_names.ensures;
}
