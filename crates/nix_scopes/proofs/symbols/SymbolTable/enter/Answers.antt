use Rattle.std.{proofs.{Common.{rules, ◌≡◌, ◌++◌, length, map, refl}, lemmas.List.Elements.All-map}}
use Rattle.nix_scopes.{specs.{Binders.names_bound, Bound.bound_of, Scopes.{Bound, bound_in}}, proofs.ScopeLemmas.scope_entered}
use Rattle.nix_scopes.proofs.symbols.SymbolTable.enter.Goals as goal

pub returns-clause-sees : goal.returns-clause-sees
returns-clause-sees c = λ n scopes l.
    let first : c.len-first.result ≡ length c.args.bindings.now.items = search rules in
    let end : c.len-end.result ≡ length c.bind_names.new.bindings.items = search rules in
    let bound : map bound_of c.bind_names.new.bindings.items
    ≡ map bound_of c.args.bindings.now.items ++ map (bound_in c.args.scope.now) (names_bound c.args.scope.now) = search rules in
    scope_entered c.args.bindings.now.items c.bind_names.new.bindings.items (map (bound_in c.args.scope.now) (names_bound c.args.scope.now)) c.args.self.now _ _
    n c.args.scope.now scopes l bound
    (All-map (λ (b : Bound). b.scope.number ≡ c.args.scope.now.number) (bound_in c.args.scope.now) (names_bound c.args.scope.now) (λ k d i. refl))
    c.in_ok-push.ensures.items first end c.in_ok-bind_names.ensures.longer c.in_ok-bind_names.ensures.binding c.in_ok-bind_names.ensures.firsts
