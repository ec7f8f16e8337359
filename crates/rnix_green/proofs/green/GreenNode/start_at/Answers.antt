use Rattle.{std.{proofs.Common.{◌∙◌, ◌<◌, length, sym, arith}, specs.String.string_bytes}, rnix_green.specs.{Kept.IsKept, Tree.items_of}}
use Rattle.rnix_green.proofs.ElementLemmas.{length_kept, element_read, start_there}
use Rattle.rnix_green.proofs.green.GreenNode.start_at.Goals as goal

pub returns-then-number-len : goal.returns-then-number-len
returns-then-number-len c =
    let t = c.args.self.now in
    let g = c.self.inside in
    let kept : IsKept t g.elements.items (string_bytes g.text) = rw c.self.view_is at c.self.invariant in
    let there : c.args.number < length (items_of t) =
    omega (arith, c.if-number-len.true, c.len.ensures, g.elements.ok.0, length_kept t g.elements.items (string_bytes g.text) kept) in
    c.len_or_start.ensures ∙ (element_read t _ _ c.args.number c.index.result.now kept there c.index.ensures).len_or_start
    ∙ sym (start_there t c.args.number there)
