use Rattle.nix_scopes.proofs.ResolvingLemmas.{IsFound}
use Rattle.nix_scopes.proofs.resolving.resolve_lexically.Given as goal

abbrev pub invariant-loop-element : goal.invariant-loop-element
invariant-loop-element l = record {
  next : (goal.iterator-loop-element).can_next l.element-iterator;
  ends : (goal.iterator-loop-element).is_finite l.element-iterator;
  found : IsFound l.root l.bindings.items l.references.items l.around l.remaining l.element-iterator;
}
