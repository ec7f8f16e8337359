use Rattle.std.proofs.Common.{◌≡◌, ◌+◌, ◌<◌, ◌^◌, length}
use Rattle.rnix_edit.specs.Line.{rest_from, rest_of_line}
use Rattle.rnix_edit.proofs.line.rest_of_line.Given as goal

-- what follows the node on its line is what follows the comments so far
abbrev pub invariant-loop-element : goal.invariant-loop-element
invariant-loop-element l = record {
  next : (goal.iterator-loop-element).can_next l.element-iterator;
  ends : (goal.iterator-loop-element).is_finite l.element-iterator;
  rest : rest_from l.element-iterator l.comments l.end ≡ rest_of_line l.node;
  fits : l.comments + length l.element-iterator < 2 ^ 64;
}
