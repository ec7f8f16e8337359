use Rattle.{std.proofs.Common.subst, rnix_reader.{specs.Placed.AreInOrder, proofs.CursorLemmas.{in_order_drop, cut_in_order}}}
use Rattle.rnix_reader.proofs.cursor.Cursor.ordered.Goals as goal

pub returns : goal.returns
returns c = subst (AreInOrder 0) c.self.view_is (in_order_drop 0 c.self.inside.at _ (cut_in_order c.self.inside.text.now 0 _ c.self.invariant.ends))
