use Rattle.rnix_green.proofs.TextLemmas.{text-added}
use Rattle.rnix_green.proofs.text_builder.TextBuilder.leaf_node.Goals as goal

pub invariant_of-self-2 : goal.invariant_of-self-2
invariant_of-self-2 c =
    (text-added _ _ _ c.self.inside.entries c.reserve.new.self c.push_leaf_node.new.self _ c.self.invariant (rw (← c.self.view_is) at c.requires)
    c.in_ok-reserve.ensures.same c.push_leaf_node.ensures c.utf8.part).0

pub returns-clause-ok : goal.returns-clause-ok
returns-clause-ok c = rw (← c.self.view_is)
    (text-added _ _ _ c.self.inside.entries c.reserve.new.self c.push_leaf_node.new.self _ c.self.invariant (rw (← c.self.view_is) at c.requires)
    c.in_ok-reserve.ensures.same c.push_leaf_node.ensures c.utf8.part).1
