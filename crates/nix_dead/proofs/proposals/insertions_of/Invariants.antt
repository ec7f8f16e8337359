use Rattle.std.proofs.Common.{◌≡◌, map, take}
use Rattle.nix_dead.specs.{Removal.change_of, Proposals.insertions_of}
use Rattle.nix_dead.proofs.proposals.insertions_of.Given as goal

-- the insertions before the names so far
abbrev pub invariant-loop-name : goal.invariant-loop-name
invariant-loop-name l = map change_of l.insertions.items ≡ insertions_of l.names (take l.name-index l.unused)
