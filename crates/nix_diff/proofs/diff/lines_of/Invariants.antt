use Rattle.std.proofs.Common.{◌≡◌, ◌++◌}
use Rattle.std.specs.Str.Iter.{split_inclusive_text, split_inclusive_pattern}
use Rattle.nix_diff.specs.Diff.{line_feed, lines_of, texts_of}
use Rattle.nix_diff.proofs.diff.lines_of.Given as goal

abbrev pub invariant-loop-line : goal.invariant-loop-line
invariant-loop-line l = record {
  pattern : split_inclusive_pattern l.line-iterator ≡ line_feed;
  lines : texts_of l.lines.items ++ lines_of (split_inclusive_text l.line-iterator) ≡ lines_of l.text;
}
