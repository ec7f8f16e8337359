-- Tests of many bytes at a time.
use Rattle.std.specs.Prelude.{ℕ, ◌+◌, ◌-◌, ◌%◌, Bool, cond, nat_lt, List, map}

-- a full lane for each byte that passes the test, and an empty one for each other
abbrev pub lanes : (ℕ → Bool) → List ℕ → List ℕ
lanes test bytes = map (λ b. cond (test b) 255 0) bytes

-- one of the `count` bytes that begin with `first`, where 0 comes after 255
abbrev pub is_between : ℕ → ℕ → ℕ → Bool
is_between first count b = nat_lt ((b + (256 - first)) % 256) count
