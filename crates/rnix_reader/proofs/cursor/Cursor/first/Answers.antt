use Rattle.{std.proofs.Common.{sym, ap, ◌∙◌}, rnix_grammar.specs.{AnnotatedForest.head_kind, Layout.from_item}, rnix_reader.proofs.CursorLemmas.head_item}
use Rattle.rnix_reader.proofs.cursor.Cursor.first.Goals as goal

pub returns : goal.returns
returns c =
    (rw (c.deref.ensures.value) at (c.kind_at.ensures c.self.inside.text.now))
    ∙ ap head_kind (sym c.self.invariant.item ∙ ap from_item c.self.view_is) ∙ sym (head_item c.args.self.now)
