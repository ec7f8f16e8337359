use Rattle.std.proofs.Common.{◌≡◌, length}
use Rattle.nix_values.specs.PathNames.{with_digits, index_of}
use Rattle.nix_values.proofs.path_names.index_of.Given as goal

-- the remaining digits make the index
abbrev pub invariant-loop-digit : goal.invariant-loop-digit
invariant-loop-digit l = with_digits l.index l.rest ≡ index_of l.name

abbrev pub decreases-loop-digit : goal.decreases-loop-digit
decreases-loop-digit l = length l.rest
