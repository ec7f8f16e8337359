use Rattle.std.proofs.{Common.{◌≡◌, ◌+◌, ◌<◌, ◌≤◌, length, arith, drop, length-drop, sym, ◌∙◌, ap}, lemmas.List.{drop-drop, drop_all, take_rest}}
use Rattle.rnix_kinds.{specs.Lexical.Strings.content_len, proofs.LexicalLemmas.StringsLemmas.{content_len-run_end, content_len-stop, content_len-piece}}
use Rattle.rnix_kinds.proofs.LexicalLemmas.StringsLemmas.{content_len-past, content_len-nil}
use Rattle.rnix_kinds.proofs.tokenizer.string.content_len.Goals as goal

pub returns-then-len-eq0-clause-value : goal.returns-then-len-eq0-clause-value
returns-then-len-eq0-clause-value c =
    let e = sym (rw take_rest at c.piece_len-len.ensures.value) ∙ c.if-len-eq0.true in
    omega (arith, c.loop-at.invariant.so_far, content_len-stop c.args.multiline (drop c.loop-at.at c.args.bytes.now) e)

pub returns-then-len-bytes-clause-value : goal.returns-then-len-bytes-clause-value
returns-then-len-bytes-clause-value c =
    let long : length (drop c.loop-at.at c.args.bytes.now) < c.piece_len-len.result = simp length-drop (omega arith) in
    omega (
      arith,
      c.loop-at.invariant.so_far,
      length-drop c.loop-at.at c.args.bytes.now,
      content_len-past c.args.multiline _
          (drop c.loop-at.at c.args.bytes.now) (sym (rw take_rest at c.piece_len-len.ensures.value)) long,
    )

pub loop-at-init : goal.loop-at-init
loop-at-init c = record {
  within = c.long_run_end-at.ensures.within;
  so_far = content_len-run_end c.args.multiline 0 c.long_run_end-at.result c.args.bytes.now (omega arith) c.long_run_end-at.ensures.end;
}

pub loop-at-preserved : goal.loop-at-preserved
loop-at-preserved c =
    let fits : c.piece_len-len.result ≤ length (drop c.loop-at.at c.args.bytes.now) = simp length-drop (omega arith) in
    let more = content_len-piece c.args.multiline _ (drop c.loop-at.at c.args.bytes.now) (sym (rw take_rest at c.piece_len-len.ensures.value))
    (omega arith) fits in
    let so_far : content_len c.args.multiline c.args.bytes.now ≡ (c.loop-at.at + c.piece_len-len.result) + content_len c.args.multiline
    (drop (c.loop-at.at + c.piece_len-len.result) c.args.bytes.now)
    = omega (arith, c.loop-at.invariant.so_far, more, ap (content_len c.args.multiline) (drop-drop c.piece_len-len.result c.loop-at.at c.args.bytes.now)) in
    record {
      within = c.long_run_end-at-in-loop-at.ensures.within;
      so_far = content_len-run_end c.args.multiline (c.loop-at.at + c.piece_len-len.result) c.long_run_end-at-in-loop-at.result c.args.bytes.now so_far
          c.long_run_end-at-in-loop-at.ensures.end;
    }

pub returns-clause-value : goal.returns-clause-value
returns-clause-value c =
    let none : content_len c.args.multiline (drop c.loop-at.at c.args.bytes.now) ≡ 0 =
    rw (drop_all c.loop-at.at c.args.bytes.now (omega arith)) (content_len-nil c.args.multiline) in
    omega (arith, c.loop-at.invariant.so_far, none)
