use Rattle.std.{proofs.{Common.{ap, sym, subst, ◌∙◌, take}, lemmas.Str.IsCharBoundary-from_take}, specs.Str.IsUtf8}
use Rattle.rnix_green.{specs.Draft.TextDraft, proofs.{KeptLemmas.{copied_kept, kept, finished_is}, PieceLemmas.text_of-IsUtf8, TextLemmas.first_range}}
use Rattle.rnix_green.proofs.text_builder.TextBuilder.finish.Goals as goal

pub range-text-requires-clause-end_boundary : goal.range-text-requires-clause-end_boundary
range-text-requires-clause-end_boundary c =
    let h = c.self.invariant in
    IsCharBoundary-from_take c.self.inside.text.now c.self.inside.taken h.characters h.within
    (subst IsUtf8 (sym h.held.text_is) (text_of-IsUtf8 _ h.held.characters))

pub from_parts-requires : goal.from_parts-requires
from_parts-requires c =
    let b = c.self.inside in
    kept _ _ _ (copied_kept (take b.taken b.text.now) _ _ b.entries _ c.self.invariant.held (rw (← c.self.view_is) at c.requires)
    (c.range-text.ensures.value ∙ first_range b.text.now b.taken) c.in_ok-copy.ensures.ok (rw c.into_elements-entries.ensures at c.in_ok-elements.ensures))

pub returns : goal.returns
returns c =
    let b = c.self.inside in
    finished_is (take b.taken b.text.now) _ b.entries _ _ (rw (← c.self.view_is) at c.requires)
    (copied_kept (take b.taken b.text.now) _ _ b.entries _ c.self.invariant.held (rw (← c.self.view_is) at c.requires)
    (c.range-text.ensures.value ∙ first_range b.text.now b.taken) c.in_ok-copy.ensures.ok (rw c.into_elements-entries.ensures at c.in_ok-elements.ensures))
    c.from_parts.ensures ∙ ap (λ (d : TextDraft). d.draft.finished) c.self.view_is
