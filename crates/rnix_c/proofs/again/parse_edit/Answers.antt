use Rattle.std.proofs.Common.{List, ℕ, sym, subst}
use Rattle.rnix_green.specs.Range.{bounds_of}
use Rattle.rnix_kinds.specs.Lexical.Tokens.{tokens_of}
use Rattle.{rnix_grammar.specs.Parsed.{IsParsed}, rnix_reparse.specs.EditedRange.{edited, IsRangeOf}}
use Rattle.rnix_c.proofs.again.parse_edit.Goals as goal

pub reparse-requires-clause-parsed : goal.reparse-requires-clause-parsed
reparse-requires-clause-parsed c = c.in_ok-old.ensures.own

pub reparse-requires-clause-range : goal.reparse-requires-clause-range
reparse-requires-clause-range c = subst (λ (text : List ℕ). IsRangeOf text (bounds_of c.args.range)) (sym c.in_ok-old.ensures.text) c.requires.range

pub returns : goal.returns
returns c =
    let read = c.in_ok-read.read in
    subst (λ (text : List ℕ). IsParsed (tokens_of (edited (bounds_of c.args.range) c.args.replacement.now text)) read.tree read.faults)
    c.in_ok-old.ensures.text c.in_ok-read.ensures.new
