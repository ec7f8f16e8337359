-- Sums of 64 bits, and numbers that are stored in 32 bits.
use Rattle.std.specs.Prelude.{ℕ, ◌+◌, ◌-◌, ◌^◌, min}

-- a sum of 64 bits, which stops at the largest number
abbrev pub plus : ℕ → ℕ → ℕ
plus a b = min (a + b) (2 ^ 64 - 1)

-- a number as it is stored in 32 bits: larger ones become the largest
abbrev pub stored : ℕ → ℕ
stored number = min number (2 ^ 32 - 1)
