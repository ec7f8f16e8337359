use Rattle.std.proofs.Common.{◌∙◌, ◌==◌, cond, Some, ap, rules}
use Rattle.std.specs.Prelude.{option_and_then}
use Rattle.std.specs.Ordering.{nat_cmp}
use Rattle.std.specs.Map.{lookup}
use Rattle.std.specs.BTreeMap.{get, is_at}
use Rattle.std.proofs.lemmas.Map.Text.{btree_map_updates_text}
use Rattle.nix_values.proofs.OrderedLemmas.{on_err, IsNamed, with_sets, same_sets, sets_updated, name_updated}
use Rattle.nix_values.proofs.ordered.OrderedAttributes.insert.Goals as goal

pub returns-in_err-insert-clause-kept : goal.returns-in_err-insert-clause-kept
returns-in_err-insert-clause-kept c =
    let old = c.args.self.now in
    let sets = c.insert.new.self in
    let named : IsNamed old c.args.name.now sets (record { names = c.get_mut.follows.lender sets }) =
    btree_map_updates_text c.args.name.now old.names (c.get_mut.follows.lender sets) (Some sets) ((c.get_mut.follows.holds sets).3 (search rules)) in
    on_err c.from_residual.result _ (same_sets old (record { names = c.get_mut.follows.lender sets }) c.args.name.now sets named
    (λ s. ap (λ es. lookup (is_at (nat_cmp s)) es) c.in_err-insert.ensures.err ∙ ap (λ o. option_and_then (λ m. get nat_cmp m s) o) c.in-Some.ensures.value))

pub returns-in-Some-clause-inserted : goal.returns-in-Some-clause-inserted
returns-in-Some-clause-inserted c =
    let old = c.args.self.now in
    let sets = c.insert.new.self in
    let named : IsNamed old c.args.name.now sets (record { names = c.get_mut.follows.lender sets }) =
    btree_map_updates_text c.args.name.now old.names (c.get_mut.follows.lender sets) (Some sets) ((c.get_mut.follows.holds sets).3 (search rules)) in
    with_sets old (record { names = c.get_mut.follows.lender sets }) c.args.set c.args.name.now c.args.value sets named
    (λ s. sets_updated c.in-Some.sets.now sets c.args.set c.args.value s c.in_ok-insert.ensures.updates
    ∙ ap (λ o. cond (c.args.set == s) (Some c.args.value) (option_and_then (λ m. get nat_cmp m s) o)) c.in-Some.ensures.value)

pub returns-clause-inserted : goal.returns-clause-inserted
returns-clause-inserted c =
    let old = c.args.self.now in
    let sets = c.insert-2.new.self in
    let named : IsNamed old c.args.name.now sets (record { names = c.insert-3.new.self }) =
    name_updated old.names c.get_mut.follows.lender-at-none c.insert-3.new.self c.in_ok-from_str.field-0 c.args.name.now sets
    c.get_mut.follows.holds-at-none c.in_ok-from_str.ensures.ok c.in_ok-insert-3.ensures.updates in
    with_sets old (record { names = c.insert-3.new.self }) c.args.set c.args.name.now c.args.value sets named
    (λ s. sets_updated c.new-sets.result sets c.args.set c.args.value s c.in_ok-insert-2.ensures.updates
    ∙ ap (λ o. cond (c.args.set == s) (Some c.args.value) o) (ap (λ es. lookup (is_at (nat_cmp s)) es) c.new-sets.ensures.empty
    ∙ ap (λ o. option_and_then (λ m. get nat_cmp m s) o) c.in_default.ensures.value))
