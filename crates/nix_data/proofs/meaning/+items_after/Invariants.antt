use Rattle.std.proofs.Common.{◌+◌, ◌-◌, map}
use Rattle.rnix_green.specs.Walk.{nodes_in, children_of}
use Rattle.nix_values.specs.Contents.{plain_of, entry_of}
use Rattle.nix_data.specs.Meaning.{unwrapped, MeansPart, Means}
use Rattle.nix_data.proofs.MeaningLemmas.{Used}
use Rattle.nix_data.proofs.DifferentNames.{NamesUsed}
use Rattle.nix_data.proofs.meaning.+items_after.Given as goal

abbrev pub decreases-items_after : goal.decreases-items_after
decreases-items_after l = l.levels

abbrev pub invariant-loop-child : goal.invariant-loop-child
invariant-loop-child l = record {
  next : (goal.iterator-loop-child).can_next l.child-iterator;
  ends : (goal.iterator-loop-child).is_finite l.child-iterator;
  used : Used (MeansPart (Means (l.levels - 1) (l.depth + 1)) (plain_of l.head.value)) (nodes_in (children_of (unwrapped l.expr))) l.child-iterator
      (entry_of l.head) (map entry_of l.items) (map entry_of l.rest);
  names : NamesUsed (plain_of l.head.value) (nodes_in (children_of (unwrapped l.expr))) l.child-iterator l.names;
}
