use Rattle.std.{proofs.Common.{◌≡◌, ◌+◌, ◌<◌, ◌^◌, length}, specs.Prelude.{fold, string_bytes}}
use Rattle.rnix_c.{specs.AllStrings.{found, with_element, strings_in}, proofs.NumberedSpots.{AreFrom}}
use Rattle.rnix_c.proofs.all_strings.strings_of.Given as goal

abbrev pub invariant-loop-element : goal.invariant-loop-element
invariant-loop-element l = record {
  next : (goal.iterator-loop-element).can_next l.element-iterator;
  ends : (goal.iterator-loop-element).is_finite l.element-iterator;
  remaining : strings_in l.green ≡ fold with_element (found l.parts.items (string_bytes l.text)) l.element-iterator;
  from : AreFrom l.green l.number l.element-iterator;
  fits : l.number + length l.element-iterator < 2 ^ 64;
}
