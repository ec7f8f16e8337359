use Rattle.std.proofs.Common.{◌≡◌, length, take}
use Rattle.rnix_c.{specs.{Answers.{filled}, TokenCalls.{tokens_written}}, proofs.WrittenTokens.{IsAt}}
use Rattle.rnix_c.proofs.tokens.written.Given as goal

abbrev pub invariant-loop-next : goal.invariant-loop-next
invariant-loop-next l = record {
  at : IsAt l.text l.tokens l.count l.start;
  written : l.room ≡ filled (take l.count (tokens_written l.text)) l.initial.room;
}

abbrev pub decreases-loop-next : goal.decreases-loop-next
decreases-loop-next l = length l.tokens
