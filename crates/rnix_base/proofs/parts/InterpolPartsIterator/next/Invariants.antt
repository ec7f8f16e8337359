use Rattle.{std.proofs.Common.{◌≡◌, length}, rnix_base.specs.Parts.parts_of}
use Rattle.rnix_base.proofs.parts.InterpolPartsIterator.next.Given as goal

abbrev pub invariant-loop-element : goal.invariant-loop-element
invariant-loop-element g l = parts_of g.T.AstToken.kinds g.I.AstNode.kinds l.self-inside.elements ≡ parts_of g.T.AstToken.kinds g.I.AstNode.kinds l.fn.self

abbrev pub decreases-loop-element : goal.decreases-loop-element
decreases-loop-element g l = length l.self-inside.elements
