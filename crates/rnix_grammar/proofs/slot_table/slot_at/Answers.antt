use Rattle.std.{proofs.{Common.{◌≡◌, ℕ, List, Option, Some, None, length, refl, sym, ap, ◌∙◌}, lemmas.Option.{slice_get_past, slice_get_read}}}
use Rattle.std.specs.{Borrow.Bor, Slice.IsItemAt, List.slice_get, Option.option_copied}
use Rattle.rnix_grammar.specs.{declared.slot_table.TheConstants.SLOTS, Slots.slot_at}
use Rattle.rnix_grammar.proofs.slot_table.slot_at.Goals as goal

found : {X : Type 0} (xs : List X) (i : ℕ) (r : Option (Bor X)) → IsItemAt xs i r → option_copied r ≡ slice_get xs i
found xs i None h = sym (slice_get_past xs i h.3)
found xs i (Some x) h = sym (slice_get_read xs (length xs) i x.now refl h.3.0 h.1)

pub returns-clause-slot : goal.returns-clause-slot
returns-clause-slot c = c.copied.ensures ∙ found SLOTS c.from.result c.get.result c.get.ensures.lookup ∙ ap slot_at c.from.ensures
