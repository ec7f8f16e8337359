use Rattle.{std.proofs.Common.{◌≡◌, length}, rnix_green.specs.Walk.nodes_in}
use Rattle.rnix_tree.proofs.descendants.DescendantsIterator.next.Given as goal

abbrev pub invariant-loop-element : goal.invariant-loop-element
invariant-loop-element l = nodes_in l.self-inside.elements ≡ nodes_in l.initial.self-inside.elements

abbrev pub decreases-loop-element : goal.decreases-loop-element
decreases-loop-element l = length l.self-inside.elements
