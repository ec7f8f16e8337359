use Rattle.std.proofs.{Common.{arith}, lemmas.List.Sums.prefix_len-le-length}
use Rattle.rnix_kinds.{specs.Lexical.Classes.{class_test, class_of}, proofs.LexicalLemmas.LaneLemmas.{no_empty, some_empty}}
use Rattle.rnix_kinds.proofs.tokenizer.lanes.lanes_in.Goals as goal

pub returns-then-others-eq0-clause-len : goal.returns-then-others-eq0-clause-len
returns-then-others-eq0-clause-len c = no_empty (class_test (class_of c.args.class)) c.args.bytes _ c.fits-bytes.0 c.members.ensures c.if-others-eq0.true

pub returns-else-others-eq0-clause-len : goal.returns-else-others-eq0-clause-len
returns-else-others-eq0-clause-len c = some_empty (class_test (class_of c.args.class)) c.args.bytes _ c.fits-bytes.0 c.members.ensures c.if-others-eq0.false

pub returns-else-others-eq0-clause-within : goal.returns-else-others-eq0-clause-within
returns-else-others-eq0-clause-within c =
    let run = some_empty (class_test (class_of c.args.class)) c.args.bytes _ c.fits-bytes.0 c.members.ensures c.if-others-eq0.false in
    omega (arith, run, prefix_len-le-length (class_test (class_of c.args.class)) c.args.bytes, c.fits-bytes.0)
