use Rattle.{std.proofs.Common.{◌≡◌, filter, length}, rnix_tree.specs.ByKind.is_spot_of_kind}
use Rattle.rnix_tree.proofs.by_kind.SyntaxElementChildrenByKindIterator.next.Given as goal

abbrev pub invariant-loop-element : goal.invariant-loop-element
invariant-loop-element l = filter (is_spot_of_kind l.self-inside.kind) l.self-inside.elements ≡ l.fn.self

abbrev pub decreases-loop-element : goal.decreases-loop-element
decreases-loop-element l = length l.self-inside.elements
