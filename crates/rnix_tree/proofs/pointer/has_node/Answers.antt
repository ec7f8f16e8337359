use Rattle.{std.proofs.Common.{ap, ◌∙◌, arith}, rnix_tree.{specs.Pointer.{address_in, fits}, proofs.PointerLemmas.fits-decides}}
use Rattle.rnix_tree.proofs.pointer.has_node.Goals as goal

pub returns-then-pointer-element_count : goal.returns-then-pointer-element_count
returns-then-pointer-element_count c =
    let address = address_in c.args.pointer in
    fits-decides c.args.green.now address c.fits.result (omega (arith, c.if-pointer-element_count.true, c.element_count.ensures))
    (c.fits.ensures ∙ ap (λ i. fits i address) c.element.ensures.is)
