use Rattle.std.proofs.Common.{◌≡◌, ◌-◌, [], map, true-eqb, refl, ap, sym, subst, ◌∙◌}
use Rattle.std.specs.Str.{IsUtf8}
use Rattle.std.proofs.lemmas.List.{nil_from_length}
use Rattle.rnix_kinds.specs.Lexical.Tokens.{tokens_of}
use Rattle.rnix_green.specs.Range.{bounds_of}
use Rattle.rnix_green.specs.Tree.{Item, item}
use Rattle.rnix_tree.proofs.SiblingsAlike.{whole_text}
use Rattle.rnix_grammar.specs.Fault.{fault_of}
use Rattle.rnix_grammar.specs.Reading.{IsReading}
use Rattle.rnix_reparse.specs.EditedRange.{edited}
use Rattle.rnix_reparse.specs.OwnBrackets.{HasSameBrackets}
use Rattle.rnix_reparse.proofs.EditedNodes.{parsed_edit}
use Rattle.rnix_reparse.proofs.replacing.reparsed_node.Goals as goal

pub returns : goal.returns
returns c =
    let t = c.args.green.now in
    let n = c.args.number in
    let u = c.in_ok-new.new.tree in
    let own = c.text_at.result.now in
    let new = c.as_str.result.now in
    let first : c.element-first.result.start ≡ (item t n).start = ap (λ (i : Item). i.start) c.element-first.ensures.is in
    let start : c.start.result - c.element-first.result.start ≡ (bounds_of c.args.range).start - (item t n).start = λ i. c.start.ensures i - first i in
    let end : c.end.result - c.element-first.result.start ≡ (bounds_of c.args.range).end - (item t n).start = λ i. c.end.ensures.value i - first i in
    let new_is = c.as_str.ensures.value ∙ c.in_ok-text.ensures ∙ (λ i. edited record { start = start i; end = end i } c.args.replacement.now own) in
    let empty : c.errors.result.now ≡ [] = nil_from_length _ (true-eqb _ 0 c.if-not-is_empty.ensures) in
    let none : c.in_ok-new.new.faults ≡ [] = sym c.errors.ensures ∙ ap (map fault_of) empty in
    let alone : IsReading (tokens_of new) u [] = subst (λ z. IsReading (tokens_of new) u z) none c.in_ok-new.ensures.reading in
    let same : HasSameBrackets t n u = subst (HasSameBrackets t n) c.green.ensures.tree (c.if-not-has_same_brackets.ensures refl) in
    record {
      node = c.requires.brackets.node;
      single = same.only;
      parsed = λ v spliced.
          parsed_edit t u v n (bounds_of c.args.range) c.args.replacement.now own new c.requires.brackets.node.is_there c.text_at.ensures new_is
          (subst IsUtf8 (c.text_at-text.ensures ∙ whole_text t) c.text_at-text.utf8) c.text_at.utf8 c.as_str.utf8 c.args.range.ordered c.requires.between
          c.requires.parsed.reading alone same (c.if-not-fits_at.ensures refl) spliced;
    }
