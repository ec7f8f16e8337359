use Rattle.std.proofs.lemmas.Iterator.Consumers.{nth_from_yields_List, YieldsList-from_first}
use Rattle.{rnix_green.specs.Walk.{elements_of}, rnix_tree.specs.Spots.{spot_of}, rnix_c.specs.StringCalls.{located}}
use Rattle.std.proofs.Common.{ap, ◌∙◌}
use Rattle.rnix_c.proofs.strings.element_at.Goals as goal

pub returns : goal.returns
returns c = nth_from_yields_List c.nth.result c.nth.new.self c.args.number c.nth.ensures.ran
    (YieldsList-from_first spot_of (λ s. s) (elements_of (located c.args.green.now 0))
    (c.descendants_with_tokens.ensures.elements ∙ ap elements_of c.new_root-root.ensures))
