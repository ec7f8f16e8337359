use Rattle.{std.proofs.{Common.{rules, ◌≡◌, ℕ, List, Option, length, map, sym, subst}, lemmas.List.append-nil}, nix_scopes.specs.{Binders.named, Scopes.bound_in, Bound.bound_of}}
use Rattle.nix_scopes.proofs.{ScopeLemmas.mapped_more, SymbolTableLemmas.{longer_same, longer_twice}}
use Rattle.nix_scopes.specs.{Bound.AreFirst, Resolving.IsBinding}
use Rattle.nix_scopes.proofs.symbols.bind_names.Goals as goal

pub loop-name-init : goal.loop-name-init
loop-name-init c = record {
  bindings = sym (append-nil (map bound_of c.args.bindings.now.items));
  binding = λ outer h. h;
  firsts = λ outer h firsts. firsts;
  longer = longer_same c.args.shadowed.now.items;
}

pub loop-name-preserved : goal.loop-name-preserved
loop-name-preserved c = record {
  bindings = mapped_more named (bound_in c.args.scope.now) c.args.names.now c.loop-name.name-index c.name-item.result
      (map bound_of c.args.bindings.now.items) (map bound_of c.loop-name.bindings.items) (map bound_of c.bind.new.bindings.items)
      c.loop-name-test.true c.name-item.is c.loop-name.invariant.bindings c.in_ok-bind.ensures.bindings;
  binding = λ outer h. c.in_ok-bind.ensures.binding outer (c.loop-name.invariant.binding outer h);
  firsts = λ outer h firsts.
      c.in_ok-bind.ensures.firsts outer (c.loop-name.invariant.binding outer h) (c.loop-name.invariant.firsts outer h firsts);
  longer = longer_twice c.args.shadowed.now.items c.loop-name.shadowed.items c.bind.new.shadowed.items c.loop-name.invariant.longer c.in_ok-bind.ensures.longer;
}

pub returns-clause-binding : goal.returns-clause-binding
returns-clause-binding c =
    let count : c.len-first.result ≡ length c.args.bindings.now.items = search rules in
    subst
    (λ first. (outer : List ℕ → Option ℕ) →
    IsBinding outer (map bound_of c.args.bindings.now.items) c.args.numbers.now c.args.shadowed.now.items first c.args.scope.now →
    IsBinding outer (map bound_of c.loop-name.bindings.items) c.loop-name.numbers c.loop-name.shadowed.items first c.args.scope.now)
    count c.loop-name.invariant.binding

pub returns-clause-firsts : goal.returns-clause-firsts
returns-clause-firsts c =
    let count : c.len-first.result ≡ length c.args.bindings.now.items = search rules in
    subst
    (λ first. (outer : List ℕ → Option ℕ) →
    IsBinding outer (map bound_of c.args.bindings.now.items) c.args.numbers.now c.args.shadowed.now.items first c.args.scope.now →
    AreFirst c.args.bindings.now.items → AreFirst c.loop-name.bindings.items)
    count c.loop-name.invariant.firsts
