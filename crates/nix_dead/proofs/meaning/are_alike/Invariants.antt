use Rattle.std.proofs.Common.{◌≡◌, ◌≤◌, length, drop}
use Rattle.nix_dead.specs.KeptReferences.{are_alike}
use Rattle.nix_dead.proofs.meaning.are_alike.Given as goal

-- the references that follow decide
abbrev pub invariant-loop-old : goal.invariant-loop-old
invariant-loop-old l = record {
  within : l.next ≤ length l.news;
  decide : are_alike l.removals l.numbers (drop l.old-index l.olds) (drop l.next l.news) ≡ are_alike l.removals l.numbers l.olds l.news;
}
