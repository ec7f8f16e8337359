use Rattle.{std.{proofs.Common.{◌≡◌, ◌<◌, ◌==◌, true, false, sym, ◌∙◌, arith, rules}, specs.Char.is_whitespace}, rnix_kinds.specs.Lexical.Plain.begins_word}
use Rattle.rnix_kinds.proofs.LexicalLemmas.FirstBytes.{begins_step, begins_opener, is_invisible, normal-blank, normal-named, normal-stepped, normal-opened}
use Rattle.rnix_kinds.proofs.LexicalLemmas.FirstBytes.{normal-symbol, normal-other, normal-line_comment, normal-block_comment, normal-slash, normal-home}
use Rattle.rnix_kinds.proofs.LexicalLemmas.FirstBytes.{normal-angled, normal-opening_brace, normal-closing_brace}
use Rattle.rnix_kinds.proofs.tokenizer.normal.normal.Goals as goal

pub returns-in-35-clause-cut : goal.returns-in-35-clause-cut
returns-in-35-clause-cut c = c.line_comment.ensures ∙ normal-line_comment c.args.top c.args.text.now (sym c.byte_at.ensures ∙ c.in-35.is)

pub returns-in-42-clause-cut : goal.returns-in-42-clause-cut
returns-in-42-clause-cut c = c.block_comment.ensures ∙ normal-block_comment c.args.top c.args.text.now (sym c.byte_at.ensures ∙ c.in-47.is)
    (sym c.byte_at-in-47.ensures ∙ c.in-42.is)

pub returns-in_default-byte_at-clause-cut : goal.returns-in_default-byte_at-clause-cut
returns-in_default-byte_at-clause-cut c =
    normal-slash c.args.top c.args.text.now c.slash.result (sym c.byte_at.ensures ∙ c.in-47.is) (λ e. omega arith) c.slash.ensures

pub returns-in-60-clause-cut : goal.returns-in-60-clause-cut
returns-in-60-clause-cut c = c.angled.ensures.cut ∙ normal-angled c.args.top c.args.text.now (sym c.byte_at.ensures ∙ c.in-60.is)

pub returns-in-126-clause-cut : goal.returns-in-126-clause-cut
returns-in-126-clause-cut c = normal-home c.args.top c.args.text.now c.home.result (sym c.byte_at.ensures ∙ c.in-126.is) c.home.ensures

pub returns-in-123-clause-cut : goal.returns-in-123-clause-cut
returns-in-123-clause-cut c = c.opening_brace.ensures ∙ normal-opening_brace c.args.top c.args.text.now (sym c.byte_at.ensures ∙ c.in-123.is)

pub returns-in-125-clause-cut : goal.returns-in-125-clause-cut
returns-in-125-clause-cut c = c.closing_brace.ensures ∙ normal-closing_brace c.args.top c.args.text.now (sym c.byte_at.ensures ∙ c.in-125.is)

pub returns-in-34-clause-cut : goal.returns-in-34-clause-cut
returns-in-34-clause-cut c =
    let first : begins_opener c.byte_at.result ≡ true = search rules in
    c.opened.ensures ∙ normal-opened c.args.top c.args.text.now c.byte_at.result (sym c.byte_at.ensures) first

pub returns-in-97-to-122-clause-cut : goal.returns-in-97-to-122-clause-cut
returns-in-97-to-122-clause-cut c =
    let first : begins_word c.byte_at.result ≡ true = search rules in
    c.named.ensures.cut ∙ normal-named c.args.top c.args.text.now c.byte_at.result (sym c.byte_at.ensures) first

pub returns-in-48-to-57-clause-cut : goal.returns-in-48-to-57-clause-cut
returns-in-48-to-57-clause-cut c =
    let low : 42 < c.byte_at.result = search rules in
    let high : c.byte_at.result < 58 = search rules in
    let no_slash : ¬ (c.byte_at.result ≡ 47) = search rules in
    c.stepped.ensures.cut ∙ normal-stepped c.args.top c.args.text.now c.byte_at.result (sym c.byte_at.ensures) low high no_slash

pub returns-in-33-to-126-clause-cut : goal.returns-in-33-to-126-clause-cut
returns-in-33-to-126-clause-cut c =
    let low : 32 < c.byte_at.result = search rules in
    let high : c.byte_at.result < 127 = search rules in
    let no_word : begins_word c.byte_at.result ≡ false = search rules in
    let no_step : begins_step c.byte_at.result ≡ false = search rules in
    let no_double : (c.byte_at.result == 34) ≡ false = search rules in
    let no_dollar : (c.byte_at.result == 36) ≡ false = search rules in
    let no_quote : (c.byte_at.result == 39) ≡ false = search rules in
    let no_hash : (c.byte_at.result == 35) ≡ false = search rules in
    let no_slash : (c.byte_at.result == 47) ≡ false = search rules in
    let no_angle : (c.byte_at.result == 60) ≡ false = search rules in
    let no_tilde : (c.byte_at.result == 126) ≡ false = search rules in
    let no_remaining : (c.byte_at.result == 123) ≡ false = search rules in
    let no_right : (c.byte_at.result == 125) ≡ false = search rules in
    c.symbol.ensures
    ∙ normal-symbol c.args.top c.args.text.now c.byte_at.result
    (sym c.byte_at.ensures) low high no_word no_step no_double no_dollar no_quote no_hash no_slash no_angle no_tilde no_remaining no_right

pub returns-in_default-clause-cut : goal.returns-in_default-clause-cut
returns-in_default-clause-cut c =
    let first : is_invisible c.byte_at.result ≡ true = search rules in
    c.other.ensures ∙ normal-other c.args.top c.args.text.now c.byte_at.result (sym c.byte_at.ensures) first

pub returns-in-32-clause-cut : goal.returns-in-32-clause-cut
returns-in-32-clause-cut c =
    let white : is_whitespace c.byte_at.result ≡ true = search rules in
    let low : c.byte_at.result < 128 = search rules in
    rw c.blank_len.ensures at c.plain.ensures ∙ normal-blank c.args.top c.args.text.now c.byte_at.result (sym c.byte_at.ensures) low white
