use Rattle.{std.{proofs.Common.{◌≡◌, ◌<◌, ◌≤◌, ◌∙◌, sym, subst, arith, get_or, zero-add, true, length}, specs.List.prefix_len}, rnix_kinds.specs.Lexical.Texts.is_blank}
use Rattle.rnix_kinds.proofs.LexicalLemmas.{LaneLemmas.run_end-first, WordsLemmas.space_len-blanks}
use Rattle.rnix_kinds.proofs.tokenizer.text.space_len.Goals as goal

pub returns-then-byte_at-lt128 : goal.returns-then-byte_at-lt128
returns-then-byte_at-lt128 c =
    let text = c.args.text.now in
    let first : is_blank (get_or text 0 0) ≡ true = subst (λ b. is_blank b ≡ true) c.byte_at.ensures (sym c.is_in.ensures ∙ c.if-is_in.true) in
    let within : c.long_run_end-blanks.result ≤ length text = rw c.as_bytes.ensures.value at c.long_run_end-blanks.ensures.within in
    let end = rw c.as_bytes.ensures.value at c.long_run_end-blanks.ensures.end in
    let blanks : c.long_run_end-blanks.result ≡ prefix_len is_blank text =
    end ∙ run_end-first is_blank text (omega (arith, within, c.long_run_end-blanks.ensures.onward)) first ∙ zero-add _ in
    blanks ∙ sym (space_len-blanks text (subst (λ n. get_or text n 0 < 128) blanks (omega (arith, c.byte_at-then-is_in.ensures, c.if-byte_at-lt128.true))))
