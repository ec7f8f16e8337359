use Rattle.std.proofs.Common.{arith}
use Rattle.rnix_text.proofs.runs.add_at.Goals as goal

pub add_in-requires-then-at-le-HALF-clause-is_in : goal.add_in-requires-then-at-le-HALF-clause-is_in
add_in-requires-then-at-le-HALF-clause-is_in c = (c.in_ok-divide.ensures.divided.first c.args.at c.if-at-le-HALF.true).is_in

pub add_in-requires-else-at-le-HALF-clause-is_in : goal.add_in-requires-else-at-le-HALF-clause-is_in
add_in-requires-else-at-le-HALF-clause-is_in c = (c.in_ok-divide.ensures.divided.second c.args.at (omega (arith, c.if-at-le-HALF.false)) c.requires.is_in).is_in
