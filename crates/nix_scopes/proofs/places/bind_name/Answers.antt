use Rattle.std.proofs.{Common.{rules, ◌≡◌, ◌∙◌, [], ◌∷◌, ◌++◌, length, map, Some, None, refl, subst, sym, ap}, lemmas.List.{map_push, length-map}}
use Rattle.std.specs.{Cow.cow_str_bytes, Prelude.unwrap_or}
use Rattle.nix_scopes.specs.{Binders.named, Scopes.{bound_in, number_in}, Bound.bound_of, NameMaps.{number_in_map, IsBound}, NodePlaces.{own_if, IsOpening}}
use Rattle.nix_scopes.proofs.{ScopeLemmas.firsts_more, OpeningLemmas.{opening_again, opening_new}}
use Rattle.nix_scopes.proofs.places.bind_name.Goals as goal

pub returns-in-Some-clause-opening : goal.returns-in-Some-clause-opening
returns-in-Some-clause-opening c = λ outer h.
    let scope = c.args.scope.now in
    let b = bound_in scope (named c.args.name.now) in
    let bound : map bound_of c.push.new.self.items ≡ map bound_of c.args.bindings.now.items ++ b ∷ [] =
    search (c.in_ok-push.ensures.items, c.in_ok-copied.ensures, c.clone.ensures, c.clone-2.ensures, map_push, rules) in
    let own : own_if c.args.first (number_in_map c.args.maps.now c.args.scope_map b.text) ≡ Some c.in-Some.field-0 = sym c.in_ok-own.ensures ∙ c.in-Some.is in
    subst (λ all. IsOpening outer all c.args.maps.now c.args.scope_map c.args.first scope) (sym bound)
    (opening_again outer (map bound_of c.args.bindings.now.items) c.args.maps.now c.args.scope_map c.args.first scope h b refl c.in-Some.field-0 own).0

pub returns-in-Some-clause-firsts : goal.returns-in-Some-clause-firsts
returns-in-Some-clause-firsts c = λ outer h firsts.
    let scope = c.args.scope.now in
    let b = bound_in scope (named c.args.name.now) in
    let bound : map bound_of c.push.new.self.items ≡ map bound_of c.args.bindings.now.items ++ b ∷ [] =
    search (c.in_ok-push.ensures.items, c.in_ok-copied.ensures, c.clone.ensures, c.clone-2.ensures, map_push, rules) in
    let own : own_if c.args.first (number_in_map c.args.maps.now c.args.scope_map b.text) ≡ Some c.in-Some.field-0 = sym c.in_ok-own.ensures ∙ c.in-Some.is in
    let found =
    (opening_again outer (map bound_of c.args.bindings.now.items) c.args.maps.now c.args.scope_map c.args.first scope h b refl c.in-Some.field-0 own).1 in
    let first : c.unwrap_or.result ≡ c.in-Some.field-0 = c.unwrap_or.ensures ∙ ap (λ o. unwrap_or o c.len-number.result) c.in-Some.is in
    firsts_more c.args.bindings.now.items c.push.new.self.items _ c.in_ok-push.ensures.items
    (subst (λ text. number_in (map bound_of c.push.new.self.items) text c.clone-2.result ≡ Some c.unwrap_or.result) (sym c.in_ok-copied.ensures)
    (subst (λ s. number_in (map bound_of c.push.new.self.items) (cow_str_bytes c.args.name.now.text) s ≡ Some c.unwrap_or.result) (sym c.clone-2.ensures)
    (ap (λ all. number_in all b.text scope) bound ∙ found ∙ ap Some (sym first))))
    firsts

pub returns-in_ok-bind-in-None-clause-opening : goal.returns-in_ok-bind-in-None-clause-opening
returns-in_ok-bind-in-None-clause-opening c = λ outer h.
    let scope = c.args.scope.now in
    let b = bound_in scope (named c.args.name.now) in
    let bs = map bound_of c.args.bindings.now.items in
    let bound : map bound_of c.push.new.self.items ≡ bs ++ b ∷ [] =
    search (c.in_ok-push.ensures.items, c.in_ok-copied.ensures, c.clone.ensures, c.clone-2.ensures, map_push, rules) in
    let own : own_if c.args.first (number_in_map c.args.maps.now c.args.scope_map b.text) ≡ None = sym c.in_ok-own.ensures ∙ c.in-None.is in
    let count : c.len-number.result ≡ length c.args.bindings.now.items = search rules in
    let made : IsBound c.args.maps.now c.bind.new.self c.args.scope_map b.text (length bs) c.in_ok-bind-in-None.field-0 =
    subst (λ n. IsBound c.args.maps.now c.bind.new.self c.args.scope_map b.text n c.in_ok-bind-in-None.field-0)
    (count ∙ sym (length-map c.args.bindings.now.items bound_of)) c.in_ok-bind-in-None.ensures in
    subst (λ all. IsOpening outer all c.bind.new.self c.in_ok-bind-in-None.field-0 c.args.first scope) (sym bound)
    (opening_new outer bs c.args.maps.now c.args.scope_map c.args.first scope h b refl c.bind.new.self c.in_ok-bind-in-None.field-0 own made).0

pub returns-in_ok-bind-in-None-clause-firsts : goal.returns-in_ok-bind-in-None-clause-firsts
returns-in_ok-bind-in-None-clause-firsts c = λ outer h firsts.
    let scope = c.args.scope.now in
    let b = bound_in scope (named c.args.name.now) in
    let bs = map bound_of c.args.bindings.now.items in
    let bound : map bound_of c.push.new.self.items ≡ bs ++ b ∷ [] =
    search (c.in_ok-push.ensures.items, c.in_ok-copied.ensures, c.clone.ensures, c.clone-2.ensures, map_push, rules) in
    let own : own_if c.args.first (number_in_map c.args.maps.now c.args.scope_map b.text) ≡ None = sym c.in_ok-own.ensures ∙ c.in-None.is in
    let count : c.len-number.result ≡ length c.args.bindings.now.items = search rules in
    let number : c.len-number.result ≡ length bs = count ∙ sym (length-map c.args.bindings.now.items bound_of) in
    let made : IsBound c.args.maps.now c.bind.new.self c.args.scope_map b.text (length bs) c.in_ok-bind-in-None.field-0 =
    subst (λ n. IsBound c.args.maps.now c.bind.new.self c.args.scope_map b.text n c.in_ok-bind-in-None.field-0) number c.in_ok-bind-in-None.ensures in
    let found = (opening_new outer bs c.args.maps.now c.args.scope_map c.args.first scope h b refl c.bind.new.self c.in_ok-bind-in-None.field-0 own made).1 in
    let first : c.unwrap_or.result ≡ length bs =
    c.unwrap_or.ensures ∙ ap (λ o. unwrap_or o c.len-number.result) c.in-None.is ∙ number in
    firsts_more c.args.bindings.now.items c.push.new.self.items _ c.in_ok-push.ensures.items
    (subst (λ text. number_in (map bound_of c.push.new.self.items) text c.clone-2.result ≡ Some c.unwrap_or.result) (sym c.in_ok-copied.ensures)
    (subst (λ s. number_in (map bound_of c.push.new.self.items) (cow_str_bytes c.args.name.now.text) s ≡ Some c.unwrap_or.result) (sym c.clone-2.ensures)
    (ap (λ all. number_in all b.text scope) bound ∙ found ∙ ap Some (sym first))))
    firsts
