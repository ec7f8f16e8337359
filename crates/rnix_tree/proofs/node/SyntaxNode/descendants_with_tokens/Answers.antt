use Rattle.{std.proofs.{Common.{◌≡◌, length, ap, arith, ◌+◌, ◌-◌, map}, lemmas.List.length-map}, rnix_green.specs.Walk.{spot_at, counted}}
use Rattle.rnix_tree.proofs.CountLemmas.{counted-many}
use Rattle.rnix_tree.proofs.node.SyntaxNode.descendants_with_tokens.Goals as goal

pub returns-clause-fits : goal.returns-clause-fits
returns-clause-fits c =
    let s = c.self.inside in
    let end : s.number + 1 + c.element-element.result.below - s.number ≡ 1 + c.element-element.result.below = omega arith in
    omega (
      arith,
      ap (λ k. length (map (spot_at s.green.now) (counted s.number k))) end,
      length-map (counted s.number (1 + c.element-element.result.below)) (spot_at s.green.now),
      counted-many s.number (1 + c.element-element.result.below),
      c.element-element.ensures.next_fits,
    )
