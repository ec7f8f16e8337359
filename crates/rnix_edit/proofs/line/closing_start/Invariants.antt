use Rattle.std.proofs.Common.{◌≡◌}
use Rattle.rnix_edit.specs.Line.{closing_from, closing_start}
use Rattle.rnix_edit.proofs.line.closing_start.Given as goal

abbrev pub invariant-loop-element : goal.invariant-loop-element
invariant-loop-element l = record {
  next : (goal.iterator-loop-element).can_next l.element-iterator;
  ends : (goal.iterator-loop-element).is_finite l.element-iterator;
  closing : closing_from l.element-iterator l.end l.closing ≡ closing_start l.node;
}
