use Rattle.std.proofs.Common.{string_bytes}
use Rattle.nix_update.specs.FullUpdates.{IsRepeatedTo}
use Rattle.nix_update.proofs.completed.repeat.Given as goal

-- the update is repeated so far
abbrev pub invariant-loop : goal.invariant-loop
invariant-loop l = IsRepeatedTo l.update (string_bytes l.fn.first) (string_bytes l.text)
