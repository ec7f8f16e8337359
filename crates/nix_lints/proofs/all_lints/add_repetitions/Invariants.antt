use Rattle.std.proofs.Common.{◌≡◌, ◌++◌, map, take}
use Rattle.nix_attributes.specs.Repeated.{repetition_of}
use Rattle.nix_lints.specs.{Found.found_of, Lints.repetition_found}
use Rattle.nix_lints.proofs.all_lints.add_repetitions.Given as goal

-- the findings so far
abbrev pub invariant-loop-name : goal.invariant-loop-name
invariant-loop-name l = map found_of l.found.items ≡ map found_of l.fn.found.items ++ map repetition_found (map repetition_of (take l.name-index l.name-items))
