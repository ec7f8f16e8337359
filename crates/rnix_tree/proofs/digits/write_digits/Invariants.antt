use Rattle.std.{proofs.Common.{◌≡◌, ◌+◌, ◌≤◌, ◌++◌, length, drop}, specs.Fmt.decimal}
use Rattle.rnix_tree.proofs.digits.write_digits.Given as goal

-- the digits that are left and those that are written are those of the number
abbrev pub invariant-loop-remaining : goal.invariant-loop-remaining
invariant-loop-remaining l =
    (length (decimal l.remaining) ≤ l.at) × (l.at ≤ l.end) × (l.at + length (decimal l.number) ≡ l.end + length (decimal l.remaining))
    × (decimal l.remaining ++ drop l.at l.bytes ≡ decimal l.number ++ drop l.end l.fn.bytes)

abbrev pub decreases-loop-remaining : goal.decreases-loop-remaining
decreases-loop-remaining l = l.remaining
