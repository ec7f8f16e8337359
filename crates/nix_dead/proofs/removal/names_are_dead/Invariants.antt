use Rattle.std.proofs.Common.{◌≡◌}
use Rattle.std.specs.List.{list_all}
use Rattle.rnix_base.specs.Select.{those_of, nodes_of}
use Rattle.rnix.specs.NodeKinds.{is_attr}
use Rattle.nix_dead.specs.Removal.{is_dead}
use Rattle.nix_dead.proofs.removal.names_are_dead.Given as goal

-- the names that follow decide
abbrev pub invariant-loop-name : goal.invariant-loop-name
invariant-loop-name l = record {
  next : (goal.iterator-loop-name).can_next l.name-iterator;
  ends : (goal.iterator-loop-name).is_finite l.name-iterator;
  decide : list_all (is_dead l.dead) (those_of is_attr l.name-iterator) ≡ list_all (is_dead l.dead) (nodes_of is_attr l.inherit);
}
