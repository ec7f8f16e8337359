use Rattle.std.proofs.Common.{take}
use Rattle.nix_dead.specs.Proposals.{AreStarts}
use Rattle.nix_dead.proofs.proposals.starts_of.Given as goal

-- the offsets of the names so far
abbrev pub invariant-loop-name : goal.invariant-loop-name
invariant-loop-name l = AreStarts (take l.name-index l.names) l.starts
