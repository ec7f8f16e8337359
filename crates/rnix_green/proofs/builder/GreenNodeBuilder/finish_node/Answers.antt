use Rattle.rnix_green.proofs.EntriesLemmas.{settled, draft_is}
use Rattle.rnix_green.proofs.builder.GreenNodeBuilder.finish_node.Goals as goal

pub finish_node-requires-clause-held : goal.finish_node-requires-clause-held
finish_node-requires-clause-held c = (_, _, c.self.invariant)

pub invariant_of-self-2 : goal.invariant_of-self-2
invariant_of-self-2 c = settled _ _ _ _ _ (c.in_ok-finish_node.ensures.ok _ _ c.self.invariant)

pub returns-clause-ok : goal.returns-clause-ok
returns-clause-ok c = rw (← c.self.view_is) (draft_is _ _ _ _ _ (c.in_ok-finish_node.ensures.ok _ _ c.self.invariant))
