use Rattle.std.proofs.Common.{◌≡◌, reverse}
use Rattle.nix_update.specs.Lists.{list_among, list_in}
use Rattle.nix_update.proofs.lists.list_in.Given as goal

-- the list is sought in what is left
abbrev pub invariant-loop-count : goal.invariant-loop-count
invariant-loop-count l = list_among l.count (reverse l.parts.items) ≡ list_in l.value

abbrev pub decreases-loop-count : goal.decreases-loop-count
decreases-loop-count l = l.count
