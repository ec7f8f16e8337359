use Rattle.std.proofs.Common.{◌≡◌, map, take}
use Rattle.nix_dead.specs.{Removal.change_of, Proposals.removals_of}
use Rattle.nix_dead.proofs.proposals.removals_of.Given as goal

-- the removals of the names so far
abbrev pub invariant-loop-name : goal.invariant-loop-name
invariant-loop-name l = map change_of l.removals.items ≡ removals_of l.text l.dead l.is_free (take l.name-index l.names)
