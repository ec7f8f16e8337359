use Rattle.std.proofs.Common.{◌∙◌, ◌+◌, arith}
use Rattle.rnix_green.{specs.Kept.item_from, proofs.OverwrittenNodes.{spliced_moved, spliced_unmoved}}
use Rattle.rnix_green.proofs.in_place.set_elements.Goals as goal

pub returns-then-new_end-old : goal.returns-then-new_end-old
returns-then-new_end-old c =
    c.move_starts.ensures
    ∙ spliced_moved c.args.elements.now c.write_node.new.elements c.args.number (c.args.number + (c.args.old.now.below + 1)) (item_from c.args.old.now)
    c.args.kind c.args.inside.now c.args.len c.requires.stored c.requires.same_count c.requires.there (omega arith) c.write_node.ensures

pub returns-else-new_end-old : goal.returns-else-new_end-old
returns-else-new_end-old c =
    spliced_unmoved c.args.elements.now c.write_node.new.elements c.args.number (item_from c.args.old.now) c.args.kind c.args.inside.now c.args.len
    c.requires.stored c.requires.same_count (omega arith) c.write_node.ensures
