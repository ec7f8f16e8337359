use Rattle.std.proofs.{Common.{◌-◌, ◌∙◌, None, length, take, drop, refl, ap, subst, arith}, lemmas.List.take_rest}
use Rattle.rnix_green.specs.{Forest.text_of, Tree.{item, forest_of}, Kept.IsKept, SplicedElements.spliced}
use Rattle.rnix_green.proofs.{InsideLemmas.elements_in_all, StartLemmas.in_text, SpliceLemmas.{new_tree, new_spliced}}
use Rattle.rnix_green.proofs.green.GreenNode.with_node.Goals as goal

pub spliced-requires-clause-short : goal.spliced-requires-clause-short
spliced-requires-clause-short c =
    let t = c.args.self.now in
    let is = c.element-old.ensures.is in
    let within = in_text 0 0 None (forest_of t) c.args.number (omega (arith, c.requires.there.is_there, elements_in_all t)) in
    omega (
      arith,
      within.high,
      ap (λ i. i.start) is,
      ap (λ i. i.end) is,
      c.element-old.ensures.ordered,
      c.in_ok-text.ensures.short,
    )

pub from_parts-requires : goal.from_parts-requires
from_parts-requires c =
    let t = c.args.self.now in
    let n = c.args.number in
    let is = c.element-old.ensures.is in
    let es = c.parts.result.0.now in
    let fs = c.parts-2.result.0.now in
    let kind = c.element-kind.result.kind in
    let len = length c.parts-2.result.1.now in
    let kept = subst (IsKept t es) c.parts.ensures.text_is c.parts.ensures in
    let elements =
    c.in_ok-elements.ensures ∙ ap (λ i. spliced es n i kind (take (length fs - 2) (drop 2 fs)) len) is
    ∙ ap (λ x. spliced es n (item t n) kind x len) (take_rest fs 2) in
    new_tree t c.args.other.now n es fs c.in_ok-elements.elements.items (text_of (forest_of t)) c.parts-2.result.1.now _ kind (item t n).start
    (item t n).end kept c.parts-2.ensures c.requires.single (ap (λ i. i.kind) c.element-kind.ensures.is) refl refl elements c.in_ok-text.ensures.text
    (omega (arith, c.in_ok-room.ensures.ok, ap (λ i. i.below) is)) c.in_ok-text.ensures.short c.requires.there

pub returns : goal.returns
returns c =
    let t = c.args.self.now in
    let n = c.args.number in
    let is = c.element-old.ensures.is in
    let es = c.parts.result.0.now in
    let fs = c.parts-2.result.0.now in
    let kind = c.element-kind.result.kind in
    let len = length c.parts-2.result.1.now in
    let kept = subst (IsKept t es) c.parts.ensures.text_is c.parts.ensures in
    let elements =
    c.in_ok-elements.ensures ∙ ap (λ i. spliced es n i kind (take (length fs - 2) (drop 2 fs)) len) is
    ∙ ap (λ x. spliced es n (item t n) kind x len) (take_rest fs 2) in
    new_spliced t c.args.other.now n es fs c.in_ok-elements.elements.items (text_of (forest_of t)) c.parts-2.result.1.now _ kind (item t n).start
    (item t n).end kept c.parts-2.ensures c.requires.single (ap (λ i. i.kind) c.element-kind.ensures.is) refl refl elements c.in_ok-text.ensures.text
    (omega (arith, c.in_ok-room.ensures.ok, ap (λ i. i.below) is)) c.in_ok-text.ensures.short c.from_parts.result c.from_parts.ensures
