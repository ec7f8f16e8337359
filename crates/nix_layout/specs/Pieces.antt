-- The numbers of a piece.
use Rattle.std.specs.Prelude.{◌≡◌, ℕ, ◌-◌, ◌^◌, ◌==◌, not, Bool, false, Option, Some, None, if◌then◌else◌}
use Rattle.nix_layout.specs.StoredNumbers.{stored}
use Rattle.nix_layout.specs.declared.piece.Piece.{Piece}

-- whether a piece has several lines
abbrev pub has_lines : Piece → Bool
has_lines piece = not (piece.last_width == 2 ^ 32 - 1)

-- the number of characters of the last line, if there are several
abbrev pub last_width_of : Piece → Option ℕ
last_width_of piece = if has_lines piece then Some piece.last_width else None

-- a piece of ASCII characters on one line, from one offset of the old text to another
pub record IsWord (start end : ℕ) (piece : Piece) : Type 0 where
  pub start_is : piece.start ≡ stored start
  pub end_is : piece.end ≡ stored end
  pub width_is : piece.width ≡ stored (end - start)
  pub one_line : has_lines piece ≡ false

-- a piece without so many blanks of its first line, and of its last line if it has several
pub record IsNarrowed (first last : ℕ) (old new : Piece) : Type 0 where
  pub start_is : new.start ≡ old.start
  pub end_is : new.end ≡ old.end
  pub width_is : new.width ≡ old.width - first
  pub last_is : new.last_width ≡ (if has_lines old then old.last_width - last else 2 ^ 32 - 1)
