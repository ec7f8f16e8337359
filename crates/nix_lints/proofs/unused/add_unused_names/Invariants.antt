use Rattle.std.proofs.Common.{◌≡◌, ◌++◌, map, take}
use Rattle.nix_lints.specs.{Found.found_of, UnusedNames.{written_name, unused_found}}
use Rattle.nix_lints.proofs.unused.add_unused_names.Given as goal

-- the findings so far
abbrev pub invariant-loop-name : goal.invariant-loop-name
invariant-loop-name l =
    map found_of l.found.items ≡ map found_of l.fn.found.items ++ map unused_found (map written_name (take l.name-index l.name-items))
