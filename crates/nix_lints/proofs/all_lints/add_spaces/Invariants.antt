use Rattle.std.proofs.Common.{◌≡◌, ◌++◌, map, take}
use Rattle.nix_lints.specs.{Found.found_of, ForeignSpaces.run_of, Lints.space_found}
use Rattle.nix_lints.proofs.all_lints.add_spaces.Given as goal

-- the findings so far
abbrev pub invariant-loop-space : goal.invariant-loop-space
invariant-loop-space l = map found_of l.found.items ≡ map found_of l.fn.found.items ++ map space_found (map run_of (take l.space-index l.space-items))
