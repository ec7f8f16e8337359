use Rattle.{std.{proofs.Common.{ap, sym, ◌∙◌}, specs.String.string_bytes}, rnix_green.{specs.Draft.Draft, proofs.KeptLemmas.{copied_kept, kept, finished_is}}}
use Rattle.rnix_green.proofs.builder.GreenNodeBuilder.finish.Goals as goal

pub from_parts-requires : goal.from_parts-requires
from_parts-requires c =
    let b = c.self.inside in
    kept _ _ _ (copied_kept (string_bytes b.text) _ _ b.entries _ c.self.invariant (rw (← c.self.view_is) at c.requires) c.as_str.ensures.value
    (sym c.as_str.ensures.value) (rw c.into_elements.ensures at c.in_ok-elements.ensures))

pub returns : goal.returns
returns c =
    let b = c.self.inside in
    finished_is (string_bytes b.text) _ b.entries _ _ (rw (← c.self.view_is) at c.requires)
    (copied_kept (string_bytes b.text) _ _ b.entries _ c.self.invariant (rw (← c.self.view_is) at c.requires) c.as_str.ensures.value
    (sym c.as_str.ensures.value) (rw c.into_elements.ensures at c.in_ok-elements.ensures)) c.from_parts.ensures
    ∙ ap (λ (d : Draft). d.finished) c.self.view_is
