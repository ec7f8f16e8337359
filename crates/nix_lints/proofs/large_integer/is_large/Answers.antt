use Rattle.std.proofs.Common.{rules, refl, get_or, ◌+◌, ◌*◌}
use Rattle.nix_lints.proofs.NumberLemmas.{large_there}
use Rattle.nix_lints.proofs.large_integer.is_large.Goals as goal

pub returns-then-number-ge-LIMIT : goal.returns-then-number-ge-LIMIT
returns-then-number-ge-LIMIT c =
    large_there c.args.digits.now c.loop-byte.byte-index c.loop-byte.number (get_or c.args.digits.now c.loop-byte.byte-index 0)
    (c.loop-byte.number * 10 + c.from.result) c.loop-byte.invariant.number c.loop-byte-test.true refl (search rules) c.if-number-ge-LIMIT.true
