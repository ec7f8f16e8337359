use Rattle.std.proofs.Common.{rules, ◌≡◌, ◌≤◌, ◌∙◌, length, map, string_bytes, Some, subst, sym}
use Rattle.std.{proofs.lemmas.Option.{slice_get_past}, specs.Prelude.slice_get}
use Rattle.nix_update.proofs.{CollectedLists.only_one, SourceLemmas.only_sought}
use Rattle.nix_update.proofs.source.source_among.Goals as goal

pub returns : goal.returns
returns c =
    let definitions = c.in_ok-definitions.definitions.items in
    let definition = c.in-Some.definition.now in
    let first : slice_get definitions 0 ≡ Some definition = search rules in
    let one : length definitions ≤ 1 = subst (λ xs. length xs ≤ 1) c.deref-2.ensures.value c.in-None.ensures.lookup.3 in
    only_sought c.args.of_let (map string_bytes c.args.names.now) c.args.steps.now definition c.entry_source.result
    (sym c.in_ok-definitions.ensures ∙ only_one definitions definition first (slice_get_past definitions 1 one)) c.entry_source.ensures
