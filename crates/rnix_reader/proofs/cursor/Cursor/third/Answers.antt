use Rattle.{std.proofs.Common.{sym, ap, ◌∙◌}, rnix_grammar.specs.Layout.from_item, rnix_reader.proofs.CursorLemmas.behind_second_item}
use Rattle.rnix_reader.proofs.cursor.Cursor.third.Goals as goal

pub returns : goal.returns
returns c =
    let text = c.self.inside.text.now in
    (rw (c.deref-2.ensures.value) at (c.kind_at.ensures text))
    ∙ behind_second_item c.args.self.now _ _ _ (ap from_item (sym c.self.view_is) ∙ c.self.invariant.item)
    (rw (c.deref.ensures.value) at (c.behind_item-second.ensures text))
    (rw (c.deref-3.ensures.value) at (c.behind_item.ensures text))
