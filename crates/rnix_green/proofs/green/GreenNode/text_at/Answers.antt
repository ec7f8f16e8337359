use Rattle.{std.{proofs.Common.{◌∙◌, ap, sym, subst, take, drop, ◌-◌}, specs.String.string_bytes}, rnix_green.specs.{Kept.IsKept, Tree.forest_of}}
use Rattle.rnix_green.{specs.Forest.text_of, proofs.PieceLemmas.{IsCut, cut_of}}
use Rattle.rnix_green.proofs.green.GreenNode.text_at.Goals as goal

pub range-requires-clause-start_boundary : goal.range-requires-clause-start_boundary
range-requires-clause-start_boundary c =
    let kept : IsKept c.args.self.now c.self.inside.elements.items (string_bytes c.self.inside.text) = rw c.self.view_is at c.self.invariant in
    let cut = subst (IsCut (text_of (forest_of c.args.self.now))) (sym c.element-element.ensures.is)
    (cut_of c.args.self.now c.args.number kept.characters c.requires) in
    λ _. rw (c.as_str.ensures.value, kept.text_is) cut.at_start

pub range-requires-clause-end_boundary : goal.range-requires-clause-end_boundary
range-requires-clause-end_boundary c =
    let kept : IsKept c.args.self.now c.self.inside.elements.items (string_bytes c.self.inside.text) = rw c.self.view_is at c.self.invariant in
    let cut = subst (IsCut (text_of (forest_of c.args.self.now))) (sym c.element-element.ensures.is)
    (cut_of c.args.self.now c.args.number kept.characters c.requires) in
    rw (c.as_str.ensures.value, kept.text_is) cut.at_end

pub returns : goal.returns
returns c =
    let kept : IsKept c.args.self.now c.self.inside.elements.items (string_bytes c.self.inside.text) = rw c.self.view_is at c.self.invariant in
    let e = c.element-element.result in
    c.range.ensures.value
    ∙ ap (λ x. take (e.end - e.start) (drop e.start x)) (c.as_str.ensures.value ∙ kept.text_is)
    ∙ ap (λ i. take (i.end - i.start) (drop i.start (text_of (forest_of c.args.self.now)))) c.element-element.ensures.is
