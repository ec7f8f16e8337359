use Rattle.{std.proofs.Common.{◌≡◌, map, take}, rnix_green.specs.Range.bounds_of}
use Rattle.nix_scopes.proofs.resolution.Resolution.ends.Given as goal

abbrev pub invariant-loop-extent : goal.invariant-loop-extent
invariant-loop-extent l = l.ends.items ≡ map (λ extent. extent.end) (map bounds_of (take l.extent-index l.extent-items))
