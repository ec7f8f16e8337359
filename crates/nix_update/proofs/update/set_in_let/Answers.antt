use Rattle.std.proofs.Common.{rules, ◌≡◌, ◌≤◌, length, true, map, string_bytes, Some, ap, subst, sym, ◌∙◌}
use Rattle.std.{proofs.lemmas.Option.{slice_get_past}, specs.Prelude.slice_get}
use Rattle.nix_update.{specs.{Updated.{IfMade, IsEntryChanged}, NotUpdated.{IfRefused, IsEntryNotChanged, IsNotChangedInLet}, PathSteps.definitions_in}, proofs.CollectedLists.only_one}
use Rattle.nix_update.proofs.update.set_in_let.Goals as goal

pub returns-in-Made-clause-set : goal.returns-in-Made-clause-set
returns-in-Made-clause-set c =
    let definitions = c.in_ok-definitions.definitions.items in
    let first : slice_get definitions 0 ≡ Some c.in-Some.definition.now = search rules in
    let one : length definitions ≤ 1 = subst (λ xs. length xs ≤ 1) c.deref-3.ensures.value c.in-None.ensures.lookup.3 in
    record {
      definition = c.in-Some.definition.now;
      only = ap (λ names. definitions_in (map string_bytes names) true c.args.steps.now) (sym c.deref.ensures.value) ∙ sym c.in_ok-definitions.ensures
          ∙ only_one definitions c.in-Some.definition.now first (slice_get_past definitions 1 one);
      is_changed = subst (IfMade (IsEntryChanged c.args.update c.args.text.now c.args.root.now c.in-Some.definition.now)) c.in-Made.is
          c.in_ok-made-in-None.ensures.made;
    }

pub returns-clause-refused : goal.returns-clause-refused
returns-clause-refused c =
    let definitions = c.in_ok-definitions.definitions.items in
    let definition = c.in-Some.definition.now in
    let first : slice_get definitions 0 ≡ Some definition = search rules in
    let one : length definitions ≤ 1 = subst (λ xs. length xs ≤ 1) c.deref-3.ensures.value c.in-None.ensures.lookup.3 in
    IsNotChangedInLet.only definition
    (ap (λ names. definitions_in (map string_bytes names) true c.args.steps.now) (sym c.deref.ensures.value) ∙ sym c.in_ok-definitions.ensures
    ∙ only_one definitions definition first (slice_get_past definitions 1 one))
    (subst (IfRefused (IsEntryNotChanged c.args.update c.args.text.now c.args.root.now definition)) c.in-Refused.is
    c.in_ok-made-in-None.ensures.refused)
