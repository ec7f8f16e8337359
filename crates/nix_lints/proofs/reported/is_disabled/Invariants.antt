use Rattle.std.proofs.Common.{◌≡◌, drop, map}
use Rattle.std.specs.Prelude.{string_bytes}
use Rattle.nix_lints.specs.Items.{is_disabled}
use Rattle.nix_lints.proofs.reported.is_disabled.Given as goal

-- the names that follow decide
abbrev pub invariant-loop-name : goal.invariant-loop-name
invariant-loop-name l = is_disabled (map string_bytes (drop l.name-index l.disabled)) l.code ≡ is_disabled (map string_bytes l.disabled) l.code
