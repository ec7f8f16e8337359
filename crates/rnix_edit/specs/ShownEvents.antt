-- What the events of two walks show, compared.
use Rattle.std.specs.Prelude.{◌&&◌, Bool}
use Rattle.std.specs.Bool.{beq}
use Rattle.std.specs.Str.{bytes_eq}
use Rattle.rnix_green.specs.Equality.{same_kind}
use Rattle.rnix_tree.specs.WalksAlike.{Shown}
use Rattle.rnix_edit.specs.declared.same_tree.ElementEvent.{ElementEvent}

-- what an event in the program shows
abbrev pub shown_by : ElementEvent → Shown
shown_by event = record { enters = event.enters; is_node = event.is_node; kind = event.kind; text = event.text.now }

-- two events show the same
abbrev pub same_shown : Shown → Shown → Bool
same_shown a b = beq a.enters b.enters && (beq a.is_node b.is_node && (same_kind a.kind b.kind && bytes_eq a.text b.text))
