use Rattle.nix_scopes.proofs.MergedLemmas.{IsWalked}
use Rattle.nix_scopes.proofs.merged.resolve_merged.Given as goal

abbrev pub invariant-loop-element : goal.invariant-loop-element
invariant-loop-element l = record {
  next : (goal.iterator-loop-element).can_next l.element-iterator;
  ends : (goal.iterator-loop-element).is_finite l.element-iterator;
  walked : IsWalked l.root l.bindings.items l.references.items l.maps l.places.items l.element-iterator;
}
