use Rattle.{std.proofs.Common.{◌≡◌, ◌+◌, ◌-◌, ◌<◌, ◌≤◌, length, drop, get_or}, rnix_kinds.specs.Lexical.Texts.before_pair}
use Rattle.rnix_kinds.proofs.tokenizer.space.comment_len.Given as goal

abbrev pub invariant-loop-at : goal.invariant-loop-at
invariant-loop-at l = record {
  within : l.at ≤ length l.inside;
  star : l.at < length l.inside → get_or l.inside l.at 0 ≡ 42;
  so_far : before_pair 42 47 l.inside ≡ l.at + before_pair 42 47 (drop l.at l.inside);
}

abbrev pub decreases-loop-at : goal.decreases-loop-at
decreases-loop-at l = length l.inside - l.at
