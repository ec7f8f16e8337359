use Rattle.std.proofs.Common.{◌≡◌, ◌+◌, ◌^◌, ◌<◌, length, option_map}
use Rattle.rnix_green.specs.Range.{bounds_of}
use Rattle.nix_diagnostics.specs.Brackets.{is_unbalanced, skips_brackets}
use Rattle.nix_diagnostics.proofs.folding.Folding.skips_brackets.Given as goal

abbrev pub invariant-loop-element : goal.invariant-loop-element
invariant-loop-element l = record {
  next : (goal.iterator-loop-element).can_next l.element-iterator;
  ends : (goal.iterator-loop-element).is_finite l.element-iterator;
  remaining : is_unbalanced (option_map bounds_of l.self.extra) l.depth l.element-iterator ≡ skips_brackets (option_map bounds_of l.self.extra) l.node;
  room : l.depth + length l.element-iterator < 2 ^ 64;
}
