use Rattle.std.{proofs.{Common.{List, ℕ, ◌≡◌, ◌+◌, drop, get_or, sym, ap, ◌∙◌, arith}, lemmas.List.{get_or-map, get_or_default, length-map}}, specs.Prelude.{string_bytes}}
use Rattle.rnix_base.specs.{declared.parts.InterpolPart.{InterpolPart}, Normal.{owned, with_text}}
use Rattle.{rnix_green.specs.Tree.{Located}, rnix_c.specs.StringCalls.{part_at, parts_from}}
use Rattle.rnix_c.proofs.{FilledLemmas.{filled-more, filled-all}, WrittenParts.{length-parts_from, next_is, rest_is}}
use Rattle.rnix_c.proofs.strings.fill.Goals as goal

pub loop-number-preserved : goal.loop-number-preserved
loop-number-preserved c =
    let parts = owned c.args.parts.now in
    let part : InterpolPart (List ℕ) Located = with_text string_bytes c.index-parts-number.result in
    let count = length-map c.args.parts.now (with_text string_bytes) in
    let is : part ≡ get_or parts c.loop-number.number part =
    ap (with_text string_bytes) c.index-parts-number.is
    ∙ sym (get_or-map (with_text string_bytes) c.args.parts.now c.loop-number.number c.index-parts-number.result part (omega arith)) in
    let there = length-parts_from 0 parts in
    record {
      rest = rest_is c.loop-number.number c.loop-number.before parts part (omega (arith, count)) is c.loop-number.invariant.rest
          ∙ ap (λ before. parts_from before (drop (c.loop-number.number + 1) parts)) (sym c.end_after-before.ensures);
      written = filled-more c.loop-number.number (parts_from 0 parts) c.args.room.now c.loop-number.room c.part_at.result
          (omega (arith, count, there)) (omega arith) c.loop-number.invariant.written
          (c.part_at.ensures ∙ next_is c.loop-number.number c.loop-number.before parts part (omega (arith, count)) is c.loop-number.invariant.rest
          ∙ get_or_default (parts_from 0 parts) c.loop-number.number (part_at c.loop-number.before part) c.part_at.result (omega (arith, count, there)));
    }

pub returns : goal.returns
returns c =
    c.loop-number.invariant.written
    ∙ filled-all c.loop-number.number (parts_from 0 (owned c.args.parts.now)) c.args.room.now
    (omega (arith, length-map c.args.parts.now (with_text string_bytes), length-parts_from 0 (owned c.args.parts.now)))
