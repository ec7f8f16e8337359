use Rattle.{std.proofs.lemmas.Slice.Eq.slice_eq-Decides, rnix_green.specs.SameElements.same_element-decides}
use Rattle.rnix_green.proofs.green.same_elements.Goals as goal

pub returns : goal.returns
returns c = slice_eq-Decides same_element-decides c.args.a.now c.args.b.now c.eq.result c.eq.ensures
