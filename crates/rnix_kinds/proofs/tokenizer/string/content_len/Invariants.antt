use Rattle.{std.proofs.Common.{◌≡◌, ◌+◌, ◌-◌, ◌≤◌, length, drop}, rnix_kinds.specs.Lexical.Strings.content_len}
use Rattle.rnix_kinds.proofs.tokenizer.string.content_len.Given as goal

abbrev pub invariant-loop-at : goal.invariant-loop-at
invariant-loop-at l = record {
  within : l.at ≤ length l.bytes;
  so_far : content_len l.multiline l.bytes ≡ l.at + content_len l.multiline (drop l.at l.bytes);
}

abbrev pub decreases-loop-at : goal.decreases-loop-at
decreases-loop-at l = length l.bytes - l.at
