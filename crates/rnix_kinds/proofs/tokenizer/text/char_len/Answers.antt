use Rattle.{std.{proofs.{lemmas.Str.chars_past_char, Common.{◌∙◌, sym, ◌≡◌, ◌++◌}}, specs.Prelude.encode_utf8}, rnix_kinds.specs.Lexical.Texts.char_len}
use Rattle.rnix_kinds.proofs.tokenizer.text.char_len.Goals as goal

pub returns-in-Some-clause-value : goal.returns-in-Some-clause-value
unfolding char_len
returns-in-Some-clause-value c =
    let e : c.args.text.now ≡ encode_utf8 c.in-Some.c ++ c.next.new.self.rest.now = sym c.chars.ensures.rest ∙ c.in-Some.ensures.steps.0 in
    rw (chars_past_char _ _ c.in-Some.c c.utf8.text e) c.len_utf8.ensures.value
