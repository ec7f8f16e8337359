-- Byte ranges, half open.
use Rattle.std.specs.Prelude.{ℕ, List, ◌++◌, codes}
use Rattle.std.specs.Fmt.{decimal}
use Rattle.rnix_green.specs.declared.range.TextRange.{TextRange}

-- where a range begins, and where it ends
pub record Extent : Type 0 where
  pub start : ℕ
  pub end : ℕ

-- a range of the program, without the fact that its ends are in order
abbrev pub bounds_of : TextRange → Extent
bounds_of range = record { start = range.start; end = range.end }

-- a range in decimal
abbrev pub extent_text : Extent → List ℕ
extent_text range = decimal range.start ++ codes ".." ++ decimal range.end
