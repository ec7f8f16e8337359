use Rattle.{std.proofs.{Common.arith, lemmas.{List.drop_all, Bool.Decides.nat_tests}}, rnix_kinds.proofs.LexicalLemmas.WordsLemmas.before_pair-turn}
use Rattle.rnix_kinds.proofs.{LexicalLemmas.WordsLemmas.before_pair-nil, tokenizer.text.before_pair.Goals.else-bytes-at-via-then-bytes-at+else-byte_of-b}
use Rattle.rnix_kinds.proofs.tokenizer.text.before_pair.Goals.{else-bytes-at-via-else-bytes-at}
use Rattle.rnix_kinds.proofs.tokenizer.text.before_pair.Goals as goal

pub returns-then-byte_of-b-clause-value : goal.returns-then-byte_of-b-clause-value
returns-then-byte_of-b-clause-value c =
    let turn = before_pair-turn c.args.a c.args.b c.args.bytes.now c.loop-at.at c.loop-at-test.true in
    grind (arith, nat_tests, turn, c.byte_of.ensures, c.loop-at.invariant)

pub loop-at-preserved : goal.loop-at-preserved
loop-at-preserved c =
    let turn = before_pair-turn c.args.a c.args.b c.args.bytes.now c.loop-at.at c.loop-at-test.true in
    elim c.else-bytes-at.branch [
      | else-bytes-at-via-then-bytes-at+else-byte_of-b w ↦ grind (arith, nat_tests, turn, w.byte_of.ensures, c.loop-at.invariant)
      | else-bytes-at-via-else-bytes-at w ↦ grind (arith, nat_tests, turn, c.loop-at.invariant)
    ]

pub returns-clause-value : goal.returns-clause-value
returns-clause-value c = rw c.loop-at.invariant (rw (drop_all c.loop-at.at c.args.bytes.now (omega arith), before_pair-nil) (omega arith))
