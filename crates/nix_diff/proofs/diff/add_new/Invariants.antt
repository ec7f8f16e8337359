use Rattle.std.proofs.Common.{◌≡◌, ◌++◌, take}
use Rattle.nix_diff.specs.Diff.{old_lines, new_lines, texts_of}
use Rattle.nix_diff.proofs.diff.add_new.Given as goal

abbrev pub invariant-loop-line : goal.invariant-loop-line
invariant-loop-line l = record {
  olds : old_lines l.diff.items ≡ old_lines l.initial.diff.items;
  news : new_lines l.diff.items ≡ new_lines l.initial.diff.items ++ texts_of (take l.line-index l.news);
}
