use Rattle.std.proofs.Common.{rules, ◌≡◌, ◌∙◌, [], length, map, true, Some, ap, sym, append-nil}
use Rattle.nix_scopes.specs.{AddedNames.{names_in_list, names_for}, Binders.named, Bound.bound_of}
use Rattle.nix_scopes.proofs.OpeningLemmas.{keeps_same, entered}
use Rattle.nix_scopes.proofs.places.enter_scope.Goals as goal

pub returns : goal.returns
returns c = λ root homes added.
    let e = c.args.node.now in
    let yes : c.is_merged_scope.result ≡ true = search rules in
    let listed : names_in_list (Some c.in-Some.more.now) ≡ names_for c.args.added.now c.number.result = search (c.names.ensures, c.in-Some.is, rules) in
    let count : c.len-first.result ≡ length c.args.bindings.now.items = search rules in
    entered root e c.args.scope_map c.in_ok-own.own c.in_ok-made.made c.len-first.result c.args.maps.now c.bind_names.new.maps
    c.bind_names-2.new.maps c.args.bindings.now.items c.bind_names.new.bindings.items c.bind_names-2.new.bindings.items
    (map named c.deref.result.now) (map named c.deref-2.result.now) (sym (c.is_merged_scope.ensures root homes) ∙ yes)
    (ap (map named) c.deref.ensures.value ∙ c.in_ok-names_bound.ensures)
    (ap (map named) c.deref-2.ensures.value ∙ listed ∙ ap (names_for c.args.added.now) c.number.ensures ∙ added e.number)
    c.in_ok-own.ensures.bindings c.in_ok-made.ensures.bindings count c.in_ok-own.ensures.kept c.in_ok-made.ensures.kept
    c.in_ok-own.ensures.opening c.in_ok-made.ensures.opening c.in_ok-own.ensures.firsts c.in_ok-made.ensures.firsts

pub returns-in_default : goal.returns-in_default
returns-in_default c = λ root homes added.
    let e = c.args.node.now in
    let yes : c.is_merged_scope.result ≡ true = search rules in
    let listed : [] ≡ names_for c.args.added.now c.number.result = search (c.names.ensures, rules) in
    let count : c.len-first.result ≡ length c.args.bindings.now.items = search rules in
    entered root e c.args.scope_map c.in_ok-own.own c.in_ok-own.own c.len-first.result c.args.maps.now c.bind_names.new.maps
    c.bind_names.new.maps c.args.bindings.now.items c.bind_names.new.bindings.items c.bind_names.new.bindings.items
    (map named c.deref.result.now) [] (sym (c.is_merged_scope.ensures root homes) ∙ yes)
    (ap (map named) c.deref.ensures.value ∙ c.in_ok-names_bound.ensures)
    (listed ∙ ap (names_for c.args.added.now) c.number.ensures ∙ added e.number)
    c.in_ok-own.ensures.bindings (sym (append-nil (map bound_of c.bind_names.new.bindings.items))) count c.in_ok-own.ensures.kept
    (keeps_same c.bind_names.new.maps) c.in_ok-own.ensures.opening (λ outer h. h) c.in_ok-own.ensures.firsts (λ outer h firsts. firsts)
