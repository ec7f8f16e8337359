use Rattle.std.proofs.Common.{◌≡◌}
use Rattle.std.specs.List.{list_all}
use Rattle.rnix_base.specs.Select.{those_of, nodes_of}
use Rattle.rnix.specs.NodeKinds.{is_entry}
use Rattle.nix_dead.specs.Removal.{is_dead_entry}
use Rattle.nix_dead.proofs.removal.entries_are_dead.Given as goal

-- the entries that follow decide
abbrev pub invariant-loop-entry : goal.invariant-loop-entry
invariant-loop-entry l = record {
  next : (goal.iterator-loop-entry).can_next l.entry-iterator;
  ends : (goal.iterator-loop-entry).is_finite l.entry-iterator;
  decide : list_all (is_dead_entry l.dead) (those_of is_entry l.entry-iterator) ≡ list_all (is_dead_entry l.dead) (nodes_of is_entry l.binder);
}
