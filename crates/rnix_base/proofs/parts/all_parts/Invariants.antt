use Rattle.{std.proofs.Common.{◌≡◌, ◌++◌, length, map}, rnix_base.specs.Parts.{part_of, parts_of, parts_below}}
use Rattle.rnix_base.proofs.parts.all_parts.Given as goal

abbrev pub invariant-loop-part : goal.invariant-loop-part
invariant-loop-part g l = parts_below g.T.AstToken.kinds g.I.AstNode.kinds l.parent ≡ map (part_of g.T.AstToken.token g.I.AstNode.node) l.all.items
    ++ parts_of g.T.AstToken.kinds g.I.AstNode.kinds l.parts

abbrev pub decreases-loop-part : goal.decreases-loop-part
decreases-loop-part g l = length (parts_of g.T.AstToken.kinds g.I.AstNode.kinds l.parts)
