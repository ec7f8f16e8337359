-- A text after an edit.
use Rattle.std.specs.Prelude.{ℕ, List, ◌++◌, take, drop}
use Rattle.std.specs.Str.{IsCharBoundary}
use Rattle.rnix_green.specs.Range.{Extent}

-- the text with a replacement for the bytes in a range
abbrev pub edited : Extent → List ℕ → List ℕ → List ℕ
edited range new text = take range.start text ++ (new ++ drop range.end text)

-- the range is in the text, and no end of it is inside a character
pub record IsRangeOf (text : List ℕ) (range : Extent) : Type 0 where
  pub start : IsCharBoundary text range.start
  pub end : IsCharBoundary text range.end
