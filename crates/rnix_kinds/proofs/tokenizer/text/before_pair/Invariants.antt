use Rattle.{std.proofs.Common.{◌≡◌, ◌+◌, drop}, rnix_kinds.specs.Lexical.Texts.before_pair}
use Rattle.rnix_kinds.proofs.tokenizer.text.before_pair.Given as goal

abbrev pub invariant-loop-at : goal.invariant-loop-at
invariant-loop-at l = before_pair l.a l.b l.bytes ≡ l.at + before_pair l.a l.b (drop l.at l.bytes)
