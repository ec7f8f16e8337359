use Rattle.{std.proofs.Common.{◌≡◌, map, take}, nix_lints.specs.UnusedNames.{written_name, unmarked_from}}
use Rattle.nix_lints.proofs.unused.unmarked.Given as goal

abbrev pub invariant-loop-number : goal.invariant-loop-number
invariant-loop-number l = map written_name l.unused.items ≡ unmarked_from l.is_used l.patterns 0 (take l.number l.bindings)
