use Rattle.std.proofs.{Common.{arith, sym, ◌∙◌, ap, ◌+◌}, lemmas.List.drop_all}
use Rattle.rnix_kinds.proofs.LexicalLemmas.{CommentLemmas.{comment_run_end, star_follows, star_passed, pair_ends}, WordsLemmas.before_pair-nil}
use Rattle.rnix_kinds.specs.Lexical.Texts.{before_pair}
use Rattle.rnix_kinds.proofs.tokenizer.space.comment_len.Goals as goal

pub loop-at-init : goal.loop-at-init
loop-at-init c = record {
  within = c.wide_run_end-at.ensures.within;
  star = star_follows 0 _ c.args.inside.now c.wide_run_end-at.ensures.end;
  so_far = comment_run_end 0 _ c.args.inside.now (omega arith) c.wide_run_end-at.ensures.end;
}

pub loop-at-preserved : goal.loop-at-preserved
loop-at-preserved c =
    let passed = star_passed c.loop-at.at c.args.inside.now _ c.loop-at-test.true (sym c.byte_of.ensures) c.if-byte_of-ne47.true c.loop-at.invariant.so_far in
    record {
      within = c.wide_run_end-at-in-loop-at.ensures.within;
      star = star_follows (c.loop-at.at + 1) _ c.args.inside.now c.wide_run_end-at-in-loop-at.ensures.end;
      so_far = comment_run_end (c.loop-at.at + 1) _ c.args.inside.now passed c.wide_run_end-at-in-loop-at.ensures.end;
    }

pub returns-else-byte_of-ne47-clause-value : goal.returns-else-byte_of-ne47-clause-value
returns-else-byte_of-ne47-clause-value c =
    let found = pair_ends c.loop-at.at c.args.inside.now c.loop-at-test.true (c.loop-at.invariant.star c.loop-at-test.true)
    (sym c.byte_of.ensures ∙ c.if-byte_of-ne47.false) in
    omega (arith, found, c.loop-at.invariant.so_far)

pub returns-after-loop-at-clause-value : goal.returns-after-loop-at-clause-value
returns-after-loop-at-clause-value c =
    let none = ap (λ xs. before_pair 42 47 xs) (drop_all c.loop-at.at c.args.inside.now (omega arith)) ∙ before_pair-nil 42 47 in
    omega (arith, none, c.loop-at.invariant.so_far)
