use Rattle.{std.proofs.Common.arith, rnix_kinds.proofs.LexicalLemmas.ModesLemmas.reverse-set_last}
use Rattle.rnix_kinds.proofs.tokenizer.modes.Modes.change.Goals as goal

pub returns-then-n-gt0-clause-ok : goal.returns-then-n-gt0-clause-ok
returns-then-n-gt0-clause-ok c =
    rw (c.in-Count.is, ← c.self-in-Count.view_is) (reverse-set_last c.in-Count.braces c.len-n.result c.self-in-Count.inside.items.items
    (omega (arith, c.len-n.ensures)) (omega arith))
