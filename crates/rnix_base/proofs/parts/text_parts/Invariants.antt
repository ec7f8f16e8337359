use Rattle.{std.proofs.Common.{◌≡◌, ◌++◌, length, map}, rnix_green.specs.Tree.text_at, rnix_base.specs.Parts.{part_of, parts_of, texts_below}}
use Rattle.rnix_base.proofs.parts.text_parts.Given as goal

abbrev pub invariant-loop-part : goal.invariant-loop-part
invariant-loop-part g l =
    texts_below g.T.AstToken.kinds g.I.AstNode.kinds l.parent
    ≡ map (part_of (λ text. text.now) g.I.AstNode.node) l.all.items ++ map (part_of text_at (λ i. i)) (parts_of g.T.AstToken.kinds g.I.AstNode.kinds l.parts)

abbrev pub decreases-loop-part : goal.decreases-loop-part
decreases-loop-part g l = length (parts_of g.T.AstToken.kinds g.I.AstNode.kinds l.parts)
