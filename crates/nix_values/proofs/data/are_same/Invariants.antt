use Rattle.std.proofs.Common.{◌≡◌, take, map}
use Rattle.nix_values.specs.Contents.{entry_of}
use Rattle.nix_values.proofs.data.are_same.Given as goal

abbrev pub invariant-loop-index : goal.invariant-loop-index
invariant-loop-index l = map entry_of (take l.index l.ones) ≡ map entry_of (take l.index l.others)
