use Rattle.{std.proofs.Common.{rules, ap, map, ◌∙◌, sym, refl}, rnix_green.specs.Walk.spot_at, rnix_tree.proofs.ListLemmas.cons_same}
use Rattle.rnix_tree.proofs.AncestorLemmas.{counted_more}
use Rattle.rnix_tree.proofs.descendants.DescendantsWithTokensIterator.next.Goals as goal

pub returns-then-number-self-clause-steps : goal.returns-then-number-self-clause-steps
returns-then-number-self-clause-steps c =
    let s = c.self.inside in
    let t = s.green.now in
    sym c.self.view_is ∙ ap (map (spot_at t)) (counted_more s.next s.end c.if-number-self.true) ∙ cons_same (sym c.element_at.ensures.spot) refl

pub returns-then-number-self-clause-goes : goal.returns-then-number-self-clause-goes
returns-then-number-self-clause-goes c = rw (returns-then-number-self-clause-steps c) (search rules)
