use Rattle.std.proofs.Common.{◌≡◌, drop}
use Rattle.nix_lints.specs.Ignored.{has_name}
use Rattle.nix_dead.proofs.comments.has_name.Given as goal

-- the bytes that follow decide
abbrev pub invariant-loop-number : goal.invariant-loop-number
invariant-loop-number l = has_name (drop l.number l.text) l.name ≡ has_name l.text l.name
