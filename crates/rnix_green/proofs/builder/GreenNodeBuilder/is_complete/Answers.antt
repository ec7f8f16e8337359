use Rattle.{std.proofs.Common.{arith, ap, ◌∙◌, map}, rnix_green.{specs.{Entries.is_node_last, Postorder.entry_of}, proofs.KeptLemmas.complete_is}}
use Rattle.rnix_green.proofs.builder.GreenNodeBuilder.is_complete.Goals as goal

pub returns : goal.returns
returns c =
    let e = c.self.inside.entries in
    rw (← c.self.view_is)
    (c.ends_with_node.ensures ∙ ap (λ es. is_node_last (map entry_of es)) c.deref.ensures.value
    ∙ complete_is _ _ _ _ _ c.self.invariant (omega (arith, e.pending.ok.0)) (omega (arith, e.starts.ok.0)))
