use Rattle.std.proofs.Common.{◌+◌, ◌∙◌, sym, ap, length, arith}
use Rattle.rnix_tree.specs.Spots.{spot_of}
use Rattle.rnix_edit.specs.Line.{rest_from, rest_of_line}
use Rattle.rnix_edit.specs.declared.line.Part.TheVariants as part
use Rattle.rnix_edit.proofs.RestOfLineLemmas.{element_passed}
use Rattle.rnix_edit.proofs.line.rest_of_line.Goals as goal

pub loop-element-preserved-in-Blanks : goal.loop-element-preserved-in-Blanks
loop-element-preserved-in-Blanks c = record {
  next = tt;
  ends = tt;
  rest = element_passed c.loop-element.element-iterator c.next.new.self (spot_of c.in-Some.element) c.loop-element.comments c.loop-element.end
      (rest_of_line c.args.node.now) part.Blanks c.loop-element.invariant.rest c.in-Some.ensures.steps (sym c.part_of.ensures ∙ c.in-Blanks.is);
  fits = omega (arith, ap length c.in-Some.ensures.steps, c.loop-element.invariant.fits);
}

pub loop-element-preserved : goal.loop-element-preserved
loop-element-preserved c = record {
  next = tt;
  ends = tt;
  rest = ap (rest_from c.next.new.self (c.loop-element.comments + 1)) c.end_of-end.ensures
      ∙ element_passed c.loop-element.element-iterator c.next.new.self (spot_of c.in-Some.element) c.loop-element.comments c.loop-element.end
      (rest_of_line c.args.node.now) part.Comment c.loop-element.invariant.rest c.in-Some.ensures.steps (sym c.part_of.ensures ∙ c.in-Comment.is);
  fits = omega (arith, ap length c.in-Some.ensures.steps, c.loop-element.invariant.fits);
}

pub returns-in-LineBreak : goal.returns-in-LineBreak
returns-in-LineBreak c =
    element_passed c.loop-element.element-iterator c.next.new.self (spot_of c.in-Some.element) c.loop-element.comments c.loop-element.end
    (rest_of_line c.args.node.now) (part.LineBreak c.in-LineBreak.next_line) c.loop-element.invariant.rest c.in-Some.ensures.steps
    (sym c.part_of.ensures ∙ c.in-LineBreak.is)

pub returns-in-Other : goal.returns-in-Other
returns-in-Other c =
    element_passed c.loop-element.element-iterator c.next.new.self (spot_of c.in-Some.element) c.loop-element.comments c.loop-element.end
    (rest_of_line c.args.node.now) part.Other c.loop-element.invariant.rest c.in-Some.ensures.steps (sym c.part_of.ensures ∙ c.in-Other.is)

pub overflow_add-comments : goal.overflow_add-comments
overflow_add-comments c = omega (arith, ap length c.in-Some.ensures.steps, c.loop-element.invariant.fits)
