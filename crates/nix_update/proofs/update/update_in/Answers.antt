use Rattle.std.proofs.Common.{rules, ◌≡◌, ◌≤◌, [], ◌∷◌, length, false, map, string_bytes, Some, ap, subst, sym, ◌∙◌}
use Rattle.std.{proofs.lemmas.Option.{slice_get_past}, specs.Prelude.slice_get}
use Rattle.nix_update.specs.{PathSteps.{definitions_in}, Updated.{IfMade, IsDefinitionUpdated}, NotUpdated.{IfRefused, IsDefinitionRefused, IsAttributeRefused}}
use Rattle.nix_update.proofs.{CollectedLists.{none_at_all, only_one}, UndefinedLemmas.undefined_updated, DefinedLemmas.defined_updated, NotUpdatedLemmas.{none_weaker, outcome_refused}}
use Rattle.nix_update.proofs.update.update_in.Goals as goal

pub returns-in_default-clause-made : goal.returns-in_default-clause-made
returns-in_default-clause-made c =
    let definitions = c.in_ok-definitions.definitions.items in
    let names = map string_bytes c.args.path.now.names.items in
    let past : length definitions ≤ 0 = subst (λ xs. length xs ≤ 0) c.deref-2.ensures.value c.in_default.ensures.item.3 in
    let none : definitions_in names false c.args.steps.now ≡ [] =
    ap (λ names. definitions_in (map string_bytes names) false c.args.steps.now) (sym c.deref.ensures.value) ∙ sym c.in_ok-definitions.ensures
    ∙ none_at_all definitions (slice_get_past definitions 0 past) in
    undefined_updated c.args.update names c.args.path.now.text.now c.args.path.now.starts.items c.args.steps.now c.args.text.now c.args.root.now
    c.update_undefined.result none c.update_undefined.ensures.made

pub returns-clause-made : goal.returns-clause-made
returns-clause-made c =
    let definitions = c.in_ok-definitions.definitions.items in
    let definition = c.in-Some.definition.now in
    let names = map string_bytes c.args.path.now.names.items in
    let first : slice_get definitions 0 ≡ Some definition = search rules in
    let one : length definitions ≤ 1 = subst (λ xs. length xs ≤ 1) c.deref-3.ensures.value c.in-None.ensures.lookup.3 in
    let only : definitions_in names false c.args.steps.now ≡ definition ∷ [] =
    ap (λ names. definitions_in (map string_bytes names) false c.args.steps.now) (sym c.deref.ensures.value) ∙ sym c.in_ok-definitions.ensures
    ∙ only_one definitions definition first (slice_get_past definitions 1 one) in
    defined_updated c.args.update names c.args.path.now.text.now c.args.path.now.starts.items c.args.steps.now c.args.text.now c.args.root.now
    definition c.in_ok-attempt-in-None.attempt c.outcome_of.result only c.outcome_of.ensures
    (subst (λ names. IfMade (IsDefinitionUpdated c.args.update.action c.args.update (map string_bytes names) c.args.steps.now c.args.text.now
    c.args.root.now definition) c.in_ok-attempt-in-None.attempt) c.deref-in-None.ensures.value c.in_ok-attempt-in-None.ensures.made)

pub returns-in_default-clause-refused : goal.returns-in_default-clause-refused
returns-in_default-clause-refused c =
    let definitions = c.in_ok-definitions.definitions.items in
    let names = map string_bytes c.args.path.now.names.items in
    let past : length definitions ≤ 0 = subst (λ xs. length xs ≤ 0) c.deref-2.ensures.value c.in_default.ensures.item.3 in
    let none : definitions_in names false c.args.steps.now ≡ [] =
    ap (λ names. definitions_in (map string_bytes names) false c.args.steps.now) (sym c.deref.ensures.value) ∙ sym c.in_ok-definitions.ensures
    ∙ none_at_all definitions (slice_get_past definitions 0 past) in
    none_weaker _ (IsAttributeRefused c.args.update names c.args.path.now.text.now c.args.path.now.starts.items c.args.steps.now c.args.text.now
    c.args.root.now) c.update_undefined.result (λ why h. IsAttributeRefused.undefined none h) c.update_undefined.ensures.refused

pub returns-clause-refused : goal.returns-clause-refused
returns-clause-refused c =
    let definitions = c.in_ok-definitions.definitions.items in
    let definition = c.in-Some.definition.now in
    let names = map string_bytes c.args.path.now.names.items in
    let first : slice_get definitions 0 ≡ Some definition = search rules in
    let one : length definitions ≤ 1 = subst (λ xs. length xs ≤ 1) c.deref-3.ensures.value c.in-None.ensures.lookup.3 in
    let only : definitions_in names false c.args.steps.now ≡ definition ∷ [] =
    ap (λ names. definitions_in (map string_bytes names) false c.args.steps.now) (sym c.deref.ensures.value) ∙ sym c.in_ok-definitions.ensures
    ∙ only_one definitions definition first (slice_get_past definitions 1 one) in
    outcome_refused (IsDefinitionRefused c.args.update.action c.args.update names c.args.steps.now c.args.text.now c.args.root.now definition)
    (IsAttributeRefused c.args.update names c.args.path.now.text.now c.args.path.now.starts.items c.args.steps.now c.args.text.now c.args.root.now)
    c.in_ok-attempt-in-None.attempt c.outcome_of.result c.outcome_of.ensures (λ why h. IsAttributeRefused.only definition only h)
    (subst (λ names. IfRefused (IsDefinitionRefused c.args.update.action c.args.update (map string_bytes names) c.args.steps.now c.args.text.now
    c.args.root.now definition) c.in_ok-attempt-in-None.attempt) c.deref-in-None.ensures.value c.in_ok-attempt-in-None.ensures.refused)
