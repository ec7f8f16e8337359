use Rattle.std.proofs.Common.{rules, ◌≡◌, ◌≤◌, ◌∙◌, length, map, string_bytes, Some, subst, sym}
use Rattle.std.{proofs.lemmas.Option.{slice_get_past}, specs.Prelude.slice_get}
use Rattle.nix_update.specs.NotUpdated.{IsNotAdded}
use Rattle.nix_update.proofs.{CollectedLists.only_one, NotUpdatedLemmas.refused_weaker}
use Rattle.nix_update.proofs.adding.add.Goals as goal

pub returns-clause-refused : goal.returns-clause-refused
returns-clause-refused c =
    let update = c.args.update in
    let path = c.args.path.now in
    let target = c.in-Some.target.now in
    let sets = c.in_ok-sets.sets.items in
    let first : slice_get sets 0 ≡ Some target = search rules in
    let one : length sets ≤ 1 = subst (λ xs. length xs ≤ 1) c.deref-2.ensures.value c.in-None.ensures.lookup.3 in
    refused_weaker _ (IsNotAdded update.is_forced update.form update.value.now path.text.now path.starts.items (map string_bytes path.names.items)
    c.args.steps.now c.args.text.now c.args.root.now) c.add_to.result
    (λ why h. IsNotAdded.only target (sym c.in_ok-sets.ensures ∙ only_one sets target first (slice_get_past sets 1 one)) h) c.add_to.ensures.refused
