use Rattle.std.{proofs.Common.{◌≡◌, [], None, false, get_or, sym, ap, ◌∙◌, zero-add}, specs.List.prefix_len}
use Rattle.rnix_kinds.specs.{declared.tokenizer.text.Class.TheVariants.{Name, Step}, Lexical.{Classes.class_test, Paths.relative}}
use Rattle.rnix_kinds.specs.Lexical.Plain.{uri, word, goes_past_name}
use Rattle.rnix_kinds.{specs.Lexical.Tokens.one_error, proofs.LexicalLemmas.FirstBytes.{relative-None-named, uri-None-named, uri-None-step, third_fits}}
use Rattle.rnix_kinds.proofs.tokenizer.normal.named.Goals.{then-goes_past_name+in_default+then-byte_at-eq58+in_default-uri}
use Rattle.rnix_kinds.proofs.tokenizer.normal.named.Goals.{then-goes_past_name+in_default+else-byte_at-eq58, else-goes_past_name}
use Rattle.rnix_kinds.proofs.tokenizer.normal.named.Goals as goal

pub returns-clause-cut : goal.returns-clause-cut
returns-clause-cut c =
    let text = c.args.text.now in
    let behind : c.byte_at.result ≡ get_or text (prefix_len (class_test Name) text) 0 = rw (c.run_end-end.ensures.end, zero-add) at c.byte_at.ensures in
    let none : (relative text ≡ None) × (uri text ≡ None) = elim c.if-goes_past_name.branch [
      | then-goes_past_name+in_default+then-byte_at-eq58+in_default-uri w ↦ (sym w.relative.ensures ∙ w.in_default.is, sym w.uri.ensures ∙ w.in_default-uri.is)
      | then-goes_past_name+in_default+else-byte_at-eq58 w ↦ (
          let byte : w.byte_at-then-goes_past_name.result ≡ get_or text (prefix_len (class_test Step) text) 0 =
          rw w.looked-step.ensures.len at w.byte_at-then-goes_past_name.ensures in
          (sym w.relative.ensures ∙ w.in_default.is, uri-None-step text (λ e. w.if-byte_at-eq58.false (byte ∙ e))))
      | else-goes_past_name w ↦ (
          let out : goes_past_name (get_or text (prefix_len (class_test Name) text) 0) ≡ false =
          sym (ap goes_past_name behind) ∙ sym c.goes_past_name.ensures ∙ w.if-goes_past_name.false in
          (relative-None-named text out, uri-None-named text out))
    ] in
    third_fits (relative text) (uri text) (word text) [] (one_error text) c.word.result none.0 none.1 (sym c.word.ensures)
