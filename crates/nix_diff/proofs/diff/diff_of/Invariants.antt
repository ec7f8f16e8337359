use Rattle.std.proofs.Common.{◌≡◌, ◌++◌, ◌≤◌, take, drop, length}
use Rattle.nix_diff.specs.Diff.{old_lines, new_lines, texts_of}
use Rattle.nix_diff.proofs.diff.diff_of.Given as goal

abbrev pub invariant-loop-line : goal.invariant-loop-line
invariant-loop-line l = record {
  olds : old_lines l.diff.items ≡ texts_of (take l.line-index l.line-items);
  within : l.done ≤ length l.news.items;
  news : new_lines l.diff.items ++ texts_of (drop l.done l.news.items) ≡ texts_of l.news.items;
}
