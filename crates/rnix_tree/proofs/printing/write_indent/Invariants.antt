use Rattle.{std.{proofs.Common.{◌≡◌, List, ℕ, ◌++◌}, specs.Io.KnownBytes.Appends}, rnix_tree.specs.Lines.indent}
use Rattle.rnix_tree.proofs.printing.write_indent.Given as goal

abbrev pub invariant-loop-remaining : goal.invariant-loop-remaining
invariant-loop-remaining g l =
    (bytes : List ℕ) × Appends (g.W.Write.contents l.initial.out) (g.W.Write.contents l.out) bytes × (bytes ++ indent l.remaining ≡ indent l.depth)

abbrev pub decreases-loop-remaining : goal.decreases-loop-remaining
decreases-loop-remaining g l = l.remaining
