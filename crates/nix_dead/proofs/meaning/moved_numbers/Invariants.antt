use Rattle.std.proofs.Common.{◌≡◌, ◌≤◌, ◌++◌, drop}
use Rattle.nix_dead.specs.KeptReferences.{moved_numbers}
use Rattle.nix_dead.proofs.meaning.moved_numbers.Given as goal

-- the numbers so far, and those that follow
abbrev pub invariant-loop-binding : goal.invariant-loop-binding
invariant-loop-binding l = record {
  numbers : l.numbers.items ++ moved_numbers l.removals l.count (drop l.binding-index l.bindings) ≡ moved_numbers l.removals 0 l.bindings;
  few : l.count ≤ l.binding-index;
}
