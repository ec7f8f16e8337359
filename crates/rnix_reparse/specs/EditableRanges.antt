-- Ranges that can be edited.
use Rattle.std.specs.Prelude.{ℕ, ◌≤◌, List}
use Rattle.rnix_green.specs.Range.{Extent}
use Rattle.rnix_reparse.specs.EditedRange.{IsRangeOf}

-- the bytes from one offset to another
abbrev pub between : ℕ → ℕ → Extent
between start end = record { start = start; end = end }

-- the offsets are in order and in the text, and neither is inside a character
abbrev pub IsEditable : List ℕ → ℕ → ℕ → Type 0
IsEditable text start end = (start ≤ end) × IsRangeOf text (between start end)
