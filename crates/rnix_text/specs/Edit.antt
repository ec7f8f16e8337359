-- The change that an edit makes.
use Rattle.std.specs.Prelude.{string_bytes}
use Rattle.rnix_text.specs.declared.edits.Edit.{Edit}
use Rattle.rnix_text.specs.Changes.{Change}

-- an edit as a change, whatever memory holds its new text
abbrev pub change_of : Edit → Change
change_of e = record { start = e.start; end = e.end; new = string_bytes e.new }
