use Rattle.std.proofs.Common.{rules, ℕ, List, Option, map, refl, subst}
use Rattle.nix_scopes.specs.{Bound.bound_of, Resolving.{IsShadowed, IsRestored}}
use Rattle.nix_scopes.proofs.ScopeLemmas.{scope_remaining, none_remaining}
use Rattle.nix_scopes.proofs.symbols.SymbolTable.leave.Goals as goal

pub returns-in_ok-restore_shadowed-in-Some : goal.returns-in_ok-restore_shadowed-in-Some
returns-in_ok-restore_shadowed-in-Some c = λ n scope outer.
    scope_remaining c.args.bindings.now c.args.self.now
    record { numbers = c.restore_shadowed.new.numbers; shadowed = c.args.self.now.shadowed; scopes = c.pop.new.self; names = c.args.self.now.names }
    c.in-Some.scope n scope outer (search rules) refl
    (subst
    (λ shadowed. (out : List ℕ → Option ℕ) → IsShadowed out (map bound_of c.args.bindings.now) c.args.self.now.numbers shadowed c.in-Some.scope →
    (text : List ℕ) →
    IsRestored out (map bound_of c.args.bindings.now) c.in-Some.scope.first c.in-Some.scope.end c.args.self.now.numbers c.restore_shadowed.new.numbers text)
    (search rules) c.in_ok-restore_shadowed-in-Some.ensures)

pub returns-in-None : goal.returns-in-None
returns-in-None c = λ n scope outer h. none_remaining c.args.bindings.now c.args.self.now _ n scope outer (search rules) h
