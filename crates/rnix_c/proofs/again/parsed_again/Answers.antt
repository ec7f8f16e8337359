use Rattle.std.proofs.Common.{◌<◌, ◌^◌, ℕ, List, length, IsUtf8, refl, subst}
use Rattle.rnix_kinds.specs.Lexical.Tokens.{tokens_of}
use Rattle.rnix_green.specs.Range.{bounds_of}
use Rattle.rnix_grammar.specs.Parsed.{IsParsed}
use Rattle.rnix_reparse.{specs.{EditedRange.{edited}, EditableRanges.{between, IsEditable}}, proofs.OwnTexts.{edited_characters}}
use Rattle.rnix_c.proofs.EditedLengths.{same_edited, short_text}
use Rattle.rnix_c.proofs.again.parsed_again.Goals as goal

pub returns-clause-utf8 : goal.returns-clause-utf8
returns-clause-utf8 c =
    let text = c.args.text.now in
    let editable : IsEditable text c.args.start c.args.end =
    subst (λ (text : List ℕ). IsEditable text c.args.start c.args.end) c.in_ok-text.ensures.same c.in_ok-range.ensures.found.1 in
    edited_characters (between c.args.start c.args.end) c.args.replacement.now text editable.1 c.in_ok-text.ensures.utf8 c.in_ok-replacement.ensures.utf8

pub returns-clause-short : goal.returns-clause-short
returns-clause-short c =
    let read = c.in-Ok.read in
    let range = between c.args.start c.args.end in
    let new = c.args.replacement.now in
    let text = c.args.text.now in
    let same_new = c.in_ok-replacement.ensures.same in
    let same_text = c.in_ok-text.ensures.same in
    let editable : IsEditable text c.args.start c.args.end =
    subst (λ (text : List ℕ). IsEditable text c.args.start c.args.end) same_text c.in_ok-range.ensures.found.1 in
    let utf8 : IsUtf8 (edited range new text) = edited_characters range new text editable.1 c.in_ok-text.ensures.utf8 c.in_ok-replacement.ensures.utf8 in
    let parsed : IsParsed (tokens_of (edited range new text)) read.tree read.faults =
    subst (λ (text : List ℕ). IsParsed (tokens_of text) read.tree read.faults)
    (same_edited (bounds_of c.in_ok-range.range) range c.in_ok-replacement.replacement.now new c.in_ok-text.text.now text c.in_ok-range.ensures.found.0
    same_new same_text) c.in-Ok.ensures in
    let short : length (edited range new text) < 2 ^ 32 =
    subst (λ (text : List ℕ). length text < 2 ^ 32)
    (same_edited range range c.in_ok-replacement.replacement.now new c.in_ok-text.text.now text refl same_new same_text) c.in_ok-range.ensures.short in
    short_text (edited range new text) read.tree read.faults utf8 parsed short
