use Rattle.{std.proofs.Common.{◌≡◌, find, length}, rnix_tree.specs.ByKind.is_spot_of_kind}
use Rattle.rnix_tree.proofs.by_kind.first_element.Given as goal

abbrev pub invariant-loop-element : goal.invariant-loop-element
invariant-loop-element l = find (is_spot_of_kind l.fn.kind) l.elements ≡ find (is_spot_of_kind l.fn.kind) l.fn.elements

abbrev pub decreases-loop-element : goal.decreases-loop-element
decreases-loop-element l = length l.elements
