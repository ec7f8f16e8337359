use Rattle.{std.proofs.Common.{◌≤◌, ◌<◌, ◌+◌, ◌*◌, reverse, drop, length}, rnix_green.specs.{Postorder.IsWork, Entries.made, Packed.limit}}
use Rattle.rnix_green.proofs.PostorderLemmas.{entries_before}
use Rattle.rnix_green.proofs.postorder.in_preorder.Given as goal

abbrev pub invariant-elements : goal.invariant-elements
invariant-elements l =
    let es = l.elements.items in
    record {
      small : length es < limit;
      few : l.todo + length l.frames.items ≤ length es;
      work :
          IsWork (made l.text l.initial.elements.items) (entries_before l.todo es) l.offset (reverse l.frames.items)
          (drop (l.todo + length l.frames.items) es);
    }

abbrev pub decreases-elements : goal.decreases-elements
decreases-elements l = 2 * l.todo + length l.frames.items
