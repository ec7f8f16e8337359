use Rattle.std.proofs.Common.{arith, ◌≡◌, ◌∙◌}
use Rattle.rnix_kinds.{specs.Lexical.Classes.{class_test, class_of}, proofs.LexicalLemmas.LaneLemmas.{run_through, run_ends}}
use Rattle.rnix_kinds.proofs.tokenizer.long.wide_run_len.Goals as goal

pub returns-then-len-lt-LANES-clause-len : goal.returns-then-len-lt-LANES-clause-len
returns-then-len-lt-LANES-clause-len c =
    let run = run_ends (class_test (class_of c.args.class)) c.args.bytes.now c.loop-at.at 16 c.lanes_in-len.result (omega arith) c.lanes_in-len.ensures.len
    (omega arith) in
    omega (arith, run, c.loop-at.invariant.so_far)

pub loop-at-preserved : goal.loop-at-preserved
loop-at-preserved c =
    let whole : 16 ≡ c.lanes_in-len.result = omega (arith, c.lanes_in-len.ensures.within) in
    let run = run_through (class_test (class_of c.args.class)) c.args.bytes.now c.loop-at.at 16 (omega arith) (whole ∙ c.lanes_in-len.ensures.len) in
    record {
      within = omega arith;
      so_far = omega (arith, run, c.loop-at.invariant.so_far);
    }
