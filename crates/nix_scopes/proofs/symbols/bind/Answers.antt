use Rattle.std.proofs.{Common.{rules, ◌≡◌, [], ◌∷◌, ◌++◌, length, map, refl, subst, sym}, lemmas.List.map_push}
use Rattle.nix_scopes.specs.{Binders.named, Scopes.{bound_in, number_in}, Bound.bound_of}
use Rattle.{std.{proofs.Common.Some, specs.Cow.cow_str_bytes}, nix_scopes.proofs.ScopeLemmas.{names_more, firsts_more}}
use Rattle.nix_scopes.proofs.symbols.bind.Goals as goal

pub returns-clause-binding : goal.returns-clause-binding
returns-clause-binding c = λ outer h.
    let bound : map bound_of c.push-2.new.self.items ≡ map bound_of c.args.bindings.now.items ++ bound_in c.args.scope.now (named c.args.name.now) ∷ [] =
    search (c.in_ok-push-2.ensures.items, c.in_ok-copied.ensures, c.clone.ensures, c.clone-2.ensures, map_push, rules) in
    let count : c.len.result ≡ length c.args.bindings.now.items = search rules in
    (names_more outer c.args.bindings.now.items c.push-2.new.self.items c.args.numbers.now c.assign_number.new.numbers c.args.shadowed.now.items
    c.push.new.self.items c.args.first c.len.result c.in_ok-own.own c.in_ok-own.old c.outside-outer.result c.args.scope.now
    (bound_in c.args.scope.now (named c.args.name.now)) refl bound count c.in_ok-own.ensures.old c.in_ok-own.ensures.own (search rules)
    c.in_ok-push.ensures.items c.in_ok-own.ensures.numbers h).0

pub returns-clause-firsts : goal.returns-clause-firsts
returns-clause-firsts c = λ outer h firsts.
    let bound : map bound_of c.push-2.new.self.items ≡ map bound_of c.args.bindings.now.items ++ bound_in c.args.scope.now (named c.args.name.now) ∷ [] =
    search (c.in_ok-push-2.ensures.items, c.in_ok-copied.ensures, c.clone.ensures, c.clone-2.ensures, map_push, rules) in
    let count : c.len.result ≡ length c.args.bindings.now.items = search rules in
    firsts_more c.args.bindings.now.items c.push-2.new.self.items _ c.in_ok-push-2.ensures.items
    (subst (λ text. number_in (map bound_of c.push-2.new.self.items) text c.clone-2.result ≡ Some c.in_ok-own.own) (sym c.in_ok-copied.ensures)
    (subst (λ scope. number_in (map bound_of c.push-2.new.self.items) (cow_str_bytes c.args.name.now.text) scope ≡ Some c.in_ok-own.own) (sym c.clone-2.ensures)
    (names_more outer c.args.bindings.now.items c.push-2.new.self.items c.args.numbers.now c.assign_number.new.numbers c.args.shadowed.now.items
    c.push.new.self.items c.args.first c.len.result c.in_ok-own.own c.in_ok-own.old c.outside-outer.result c.args.scope.now
    (bound_in c.args.scope.now (named c.args.name.now)) refl bound count c.in_ok-own.ensures.old c.in_ok-own.ensures.own (search rules)
    c.in_ok-push.ensures.items c.in_ok-own.ensures.numbers h).1))
    firsts
