use Rattle.std.proofs.{Common.{◌<◌, ◌++◌, ◌∙◌, ℕ, List, length, take, drop, ap, sym, subst, arith}}
use Rattle.rnix_green.specs.{declared.packed.Packed.Packed, Tree.{Tree, items_of, item}, Kept.IsKept}
use Rattle.rnix_green.proofs.PieceLemmas.{IsCut, cut_of}
use Rattle.rnix_green.proofs.green.GreenNode.text_with.Goals as goal

cut : (t : Tree) (n : ℕ) (es : List Packed) (text : List ℕ) → IsKept t es text → n < length (items_of t) → IsCut text (item t n)
cut t n es text kept l = subst (λ x. IsCut x (item t n)) (sym kept.text_is) (cut_of t n kept.characters l)

pub overflow_sub-whole : goal.overflow_sub-whole
overflow_sub-whole c =
    omega (arith, (cut c.args.self.now c.args.number _ _ c.parts.ensures c.requires).at_end.0, ap (λ i. i.end) c.element-old.ensures.is)

pub replaced-requires-clause-at_start : goal.replaced-requires-clause-at_start
replaced-requires-clause-at_start c =
    rw (ap (λ i. i.start) c.element-old.ensures.is) (cut c.args.self.now c.args.number _ _ c.parts.ensures c.requires).at_start

pub replaced-requires-clause-at_end : goal.replaced-requires-clause-at_end
replaced-requires-clause-at_end c =
    rw (ap (λ i. i.end) c.element-old.ensures.is) (cut c.args.self.now c.args.number _ _ c.parts.ensures c.requires).at_end

pub replaced-requires-clause-within : goal.replaced-requires-clause-within
replaced-requires-clause-within c =
    omega (arith, (cut c.args.self.now c.args.number _ _ c.parts.ensures c.requires).at_end.0, ap (λ i. i.end) c.element-old.ensures.is)

pub returns-clause-text : goal.returns-clause-text
returns-clause-text c =
    c.in_ok-spliced.ensures
    ∙ (λ q. take (c.element-old.ensures.is q).start (c.parts.ensures.text_is q)
    ++ (c.args.text.now ++ drop (c.element-old.ensures.is q).end (c.parts.ensures.text_is q)))

pub returns-clause-short : goal.returns-clause-short
returns-clause-short c =
    let is = c.element-old.ensures.is in
    omega (arith, c.in_ok-room.ensures.ok, ap length c.parts.ensures.text_is, ap (λ i. i.start) is, ap (λ i. i.end) is)
