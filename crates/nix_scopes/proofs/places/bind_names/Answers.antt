use Rattle.{std.proofs.{Common.{map, sym}, lemmas.List.append-nil}, nix_scopes.specs.{Binders.named, Scopes.bound_in, Bound.bound_of}}
use Rattle.nix_scopes.proofs.{ScopeLemmas.mapped_more, OpeningLemmas.{keeps_same, keeps_twice}}
use Rattle.nix_scopes.proofs.places.bind_names.Goals as goal

pub loop-name-init : goal.loop-name-init
loop-name-init c = record {
  bindings = sym (append-nil (map bound_of c.args.bindings.now.items));
  opening = λ outer h. h;
  firsts = λ outer h firsts. firsts;
  kept = keeps_same c.args.maps.now;
}

pub loop-name-preserved : goal.loop-name-preserved
loop-name-preserved c = record {
  bindings = mapped_more named (bound_in c.args.scope.now) c.args.names.now c.loop-name.name-index c.name-item.result
      (map bound_of c.args.bindings.now.items) (map bound_of c.loop-name.bindings.items) (map bound_of c.bind_name.new.bindings.items)
      c.loop-name-test.true c.name-item.is c.loop-name.invariant.bindings c.in_ok-made.ensures.bindings;
  opening = λ outer h. c.in_ok-made.ensures.opening outer (c.loop-name.invariant.opening outer h);
  firsts = λ outer h firsts.
      c.in_ok-made.ensures.firsts outer (c.loop-name.invariant.opening outer h) (c.loop-name.invariant.firsts outer h firsts);
  kept = keeps_twice c.args.maps.now c.loop-name.maps c.bind_name.new.maps c.loop-name.invariant.kept c.in_ok-made.ensures.kept;
}
