use Rattle.std.proofs.Common.{◌≡◌, ◌∙◌, length, drop, ap, arith, length-drop}
use Rattle.rnix_edit.proofs.RestOfLineLemmas.{first_dropped}
use Rattle.rnix_edit.proofs.line.siblings_after.Goals as goal

pub returns-clause-siblings : goal.returns-clause-siblings
returns-clause-siblings c =
    first_dropped c.siblings_with_tokens-siblings.result c.next-node.new.self c.next-node.result c.next-node.ensures.steps
    ∙ ap (drop 1) c.siblings_with_tokens-siblings.ensures.siblings

pub returns-clause-fits : goal.returns-clause-fits
returns-clause-fits c =
    let all = c.siblings_with_tokens-siblings.result in
    let dropped : length c.next-node.new.self ≡ length (drop 1 all) =
    ap length (first_dropped all c.next-node.new.self c.next-node.result c.next-node.ensures.steps) in
    omega (arith, dropped, length-drop 1 all, c.siblings_with_tokens-siblings.ensures.fits)
