use Rattle.std.proofs.Common.{List, ℕ, ap, ◌∙◌, subst}
use Rattle.rnix_kinds.specs.Lexical.Tokens.{tokens_of}
use Rattle.{rnix_grammar.specs.Parsed.{IsParsed}, rnix_reparse.specs.EditedRange.{edited}}
use Rattle.rnix_c.proofs.again.parse_whole.Goals as goal

pub returns : goal.returns
returns c =
    let read = c.in_ok-read.read in
    let replacement = c.args.replacement.now in
    let text = c.args.text.now in
    let start = ap (λ start. edited record { start = start; end = c.end.result } replacement text) c.start.ensures in
    let end = ap (λ end. edited record { start = c.args.range.start; end = end } replacement text) c.end.ensures.value in
    subst (λ (text : List ℕ). IsParsed (tokens_of text) read.tree read.faults) (c.as_str.ensures.value ∙ c.in_ok-new.ensures ∙ start ∙ end)
    c.in_ok-read.ensures
