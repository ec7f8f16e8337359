use Rattle.std.{proofs.Common.{◌≡◌, ◌∙◌, [], ◌∷◌, ap, sym, refl, length, arith, true, string_bytes, map}, specs.Vec.Iter.{into_iter_items, into_iter_len}}
use Rattle.rnix_base.specs.{declared.parts.InterpolPart.TheVariants.{Literal, Interpolation}, Escapes.unescaped, Normal.{borrowed, with_text}, Value.without_last_line}
use Rattle.rnix_base.{specs.{Indent.{kept, remaining_behind, indent_of, no_indent}, Value.without_escapes}, proofs.{UnindentLemmas.grown, NextPartLemmas.pushed}}
use Rattle.rnix_base.proofs.ValuePartLemmas.{value_from, ended_text, interpolation_next, literal_next, ended_at_end, ended_before_end, all_read, indented_value-from}
use Rattle.rnix_base.proofs.value.indented_value.Goals.{then-len-eq0, else-len-eq0}
use Rattle.rnix_base.proofs.value.indented_value.Goals as goal

pub loop-part-preserved-in-Literal : goal.loop-part-preserved-in-Literal
loop-part-preserved-in-Literal g c =
    let least = c.value_indentation-least.result in
    let more = into_iter_items c.next.new.self in
    let counted : into_iter_len c.next.new.self ≡ length more =
    omega (arith, c.loop-part.invariant.length, ap length c.in-Some.ensures.items, c.in-Some.ensures.len) in
    let last : c.if-len-eq0.text.now ≡ ended_text (borrowed more) c.in-Literal.text.now = elim c.if-len-eq0.branch [
      | then-len-eq0 w ↦ rw w.text-is (w.without_last_line-text.ensures
          ∙ sym (ended_at_end more _ (omega (arith, counted, w.if-len-eq0.true, c.len.ensures))))
      | else-len-eq0 w ↦ rw w.text-is
          (sym (ended_before_end more _ (λ e. absurd (omega (arith, counted, e, w.if-len-eq0.false, c.len.ensures)))))
    ] in
    let plain : string_bytes c.in_ok-unescaped-in-Literal.unescaped ≡ unescaped true (ended_text (borrowed more) c.in-Literal.text.now) =
    c.in_ok-unescaped-in-Literal.ensures ∙ ap (unescaped true) last in
    let whole = c.as_str.ensures.value ∙ plain in
    let value : string_bytes c.in_ok-kept-in-Literal.kept
    ≡ kept least c.loop-part.remaining (unescaped true (ended_text (borrowed more) c.in-Literal.text.now)) =
    c.in_ok-kept-in-Literal.ensures.kept ∙ ap (kept least c.loop-part.remaining) whole in
    record {
      length = counted;
      so_far = grown _ _ _ (Literal (kept least c.loop-part.remaining (unescaped true (ended_text (borrowed more) c.in-Literal.text.now))) ∷ []) _ _
          c.loop-part.invariant.so_far
          (literal_next least c.loop-part.remaining _ more _ _ c.in-Some.ensures.items c.in-Literal.is
          ∙ ap (λ l. Literal (kept least c.loop-part.remaining (unescaped true (ended_text (borrowed more) c.in-Literal.text.now)))
          ∷ value_from least l (borrowed more)) (sym (c.in_ok-kept-in-Literal.ensures.remaining ∙ ap (remaining_behind least c.loop-part.remaining) whole)))
          (pushed _ _ _ _ c.in_ok-push-in-Literal.ensures.items (ap Literal value));
    }

pub loop-part-preserved : goal.loop-part-preserved
loop-part-preserved g c = record {
  length = omega (arith, c.loop-part.invariant.length, ap length c.in-Some.ensures.items, c.in-Some.ensures.len);
  so_far = grown _ _ _ (Interpolation c.in-Interpolation.interpolation ∷ []) _ _ c.loop-part.invariant.so_far
      (interpolation_next _ _ _ _ _ _ c.in-Some.ensures.items c.in-Interpolation.is)
      (pushed _ _ _ _ c.in_ok-push-in-Interpolation.ensures.items refl);
}

pub returns : goal.returns
returns g c =
    let least = c.value_indentation-least.result in
    let none : length (into_iter_items c.loop-part.rest) ≡ 0 =
    omega (arith, c.loop-part.invariant.length, c.in_default.ensures.len, c.in_default.ensures.cases) in
    let opens = ap borrowed c.into_iter-rest.ensures.rest ∙ c.opened-parts.ensures in
    all_read least c.loop-part.remaining _ _ _ c.loop-part.invariant.so_far none
    ∙ ap (value_from least least) opens
    ∙ indented_value-from (borrowed c.args.parts.items) least (c.value_indentation-least.ensures
    ∙ ap (λ p. (indent_of no_indent (map (with_text without_escapes) p)).least) (ap borrowed c.deref.ensures.value ∙ c.opened-parts.ensures))
