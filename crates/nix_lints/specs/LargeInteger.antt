-- Integers that are too large for Nix.
use Rattle.std.specs.Prelude.{ℕ, ◌+◌, ◌-◌, ◌*◌, ◌^◌, nat_le, Bool, false, List, [], ◌∷◌, Option, Some, None}
use Rattle.rnix_kinds.specs.declared.kinds.SyntaxKind.TheVariants as k
use Rattle.rnix_green.specs.Equality.{same_kind}
use Rattle.rnix_green.specs.Tree.{Located, text_at}
use Rattle.rnix_base.specs.Select.{token_of}
use Rattle.nix_diagnostics.specs.declared.code.Code.TheVariants as code
use Rattle.nix_lints.specs.Found.{Found, found_if}

-- the number that a digit stands for
abbrev pub digit : ℕ → ℕ
digit byte = byte - 48

-- the number with these decimal digits after those of another number
abbrev pub number_from : ℕ → List ℕ → ℕ
number_from number [] = number
number_from number (byte ∷ bytes) = number_from (number * 10 + digit byte) bytes

-- the integer with these digits is 2^63 or more
abbrev pub is_large : List ℕ → Bool
is_large digits = nat_le (2 ^ 63) (number_from 0 digits)

-- there is a token, and it is such an integer
abbrev pub is_large_if : Option Located → Bool
is_large_if None = false
is_large_if (Some token) = is_large (text_at token)

-- the finding on a literal, if it is an integer that Nix does not read
abbrev pub large_integer : Located → Option Found
large_integer literal = found_if (is_large_if (token_of (same_kind k.TOKEN_INTEGER) literal)) code.LargeInteger literal
