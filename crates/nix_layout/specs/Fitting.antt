-- When pieces fit on a line: their widths, and the line ends among them.
use Rattle.std.specs.Prelude.{ℕ, ◌+◌, ◌-◌, ◌==◌, ◌&&◌, nat_lt, not, Bool, true, false, List, length, map, get_or, if◌then◌else◌}
use Rattle.nix_layout.specs.StoredNumbers.{plus}
use Rattle.nix_layout.specs.declared.layout.Group.{Group}
use Rattle.nix_layout.specs.declared.piece.Piece.{Piece}
use Rattle.nix_layout.specs.declared.measuring.Measures.{Measures}
use Rattle.nix_layout.specs.declared.measuring.Room.{Room}

-- the column at which a piece ends, or 0 beyond the last piece
abbrev pub end_at : Measures → ℕ → ℕ
end_at measures piece = get_or (map (λ s. s.end) measures.sums.items) piece 0

-- the number of line ends before the gap of a piece, or in the whole text, or 0 beyond it
abbrev pub breaks_at : Measures → ℕ → ℕ
breaks_at measures piece = get_or (map (λ s. s.breaks) measures.sums.items) piece 0

-- the number of columns from the gap before a piece to the next place where the line may end; the list has the last gap first
abbrev pub tail_at : List ℕ → ℕ → ℕ
tail_at tails piece = if nat_lt piece (length tails) then get_or tails (length tails - (piece + 1)) 0 else 0

-- 1 if the flag is true
abbrev pub one_if : Bool → ℕ
one_if true = 1
one_if false = 0

-- the width of the pieces from `first` to `last` on one line
abbrev pub width_between : Measures → List Piece → ℕ → ℕ → ℕ
width_between measures pieces first last = plus (end_at measures last - end_at measures first) (get_or (map (λ p. p.width) pieces) first 0)

-- the number of unconditional line ends after the gap of `first` and up to the piece `end`
abbrev pub breaks_between : Measures → List Piece → ℕ → ℕ → ℕ
breaks_between measures pieces first end =
    breaks_at measures end - breaks_at measures first - get_or (map (λ p. one_if p.gap.is_hard) pieces) first 0

-- a group fits on a line: no line ends inside it, and with what has to follow it the line is no longer than the limit
abbrev pub fits : Measures → List Piece → Group → Room → Bool
fits measures pieces group room =
    breaks_between measures pieces group.first group.end == 0
    && not (nat_lt room.limit (plus (plus room.column (width_between measures pieces group.first (group.end - 1))) room.tail))
