use Rattle.{std.proofs.Common.{◌∙◌, refl}, rnix_green.proofs.EntriesLemmas.held-leaf_node}
use Rattle.rnix_green.proofs.entries.Entries.push_leaf_node.Goals as goal

pub returns : goal.returns
returns c =
    let e = c.args.self.now in
    held-leaf_node c.args.node c.args.kind e (record { elements = c.push_reserved-2.new.self; pending = e.pending; starts = c.push_reserved-3.new.self })
    c.push_reserved.new.self.items c.requires.0 refl (rw (c.len-start.ensures ∙ e.elements.ok.0) at c.push_reserved-3.ensures.items) c.args.len
    (rw c.new.ensures at c.push_reserved.ensures.items) (rw c.new-2.ensures at c.push_reserved-2.ensures.items)
