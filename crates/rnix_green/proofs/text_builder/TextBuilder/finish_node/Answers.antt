use Rattle.{std.proofs.Common.ap, rnix_green.{specs.{Draft.{Draft, with_draft}, Entries.text_draft_of}, proofs.EntriesLemmas.{settled, draft_is}}}
use Rattle.rnix_green.proofs.text_builder.TextBuilder.finish_node.Goals as goal

pub finish_node-requires-clause-held : goal.finish_node-requires-clause-held
finish_node-requires-clause-held c = (_, _, c.self.invariant.held)

pub invariant_of-self-2 : goal.invariant_of-self-2
invariant_of-self-2 c =
    let h = c.self.invariant in
    record { characters = h.characters; within = h.within; short = h.short; held = settled _ _ _ _ _ (c.in_ok-finish_node.ensures.ok _ _ h.held) }

pub returns-clause-ok : goal.returns-clause-ok
returns-clause-ok c =
    let b = c.self.inside in
    rw (← c.self.view_is) (ap (λ (d : Draft). with_draft d (text_draft_of b.text.now b.taken b.entries))
    (draft_is _ _ _ _ _ (c.in_ok-finish_node.ensures.ok _ _ c.self.invariant.held)))
