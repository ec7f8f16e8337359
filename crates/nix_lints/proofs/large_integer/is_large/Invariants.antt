use Rattle.std.proofs.Common.{◌≡◌, ◌<◌, ◌^◌, drop}
use Rattle.nix_lints.specs.LargeInteger.{number_from}
use Rattle.nix_lints.proofs.large_integer.is_large.Given as goal

-- the number so far, which is not too large, and the digits that follow
abbrev pub invariant-loop-byte : goal.invariant-loop-byte
invariant-loop-byte l = record {
  number : number_from l.number (drop l.byte-index l.digits) ≡ number_from 0 l.digits;
  below : l.number < 2 ^ 63;
}
