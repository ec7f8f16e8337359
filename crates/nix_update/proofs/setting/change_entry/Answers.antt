use Rattle.nix_update.specs.NotUpdated.{IsValueNotChanged, IsEntryNotChanged}
use Rattle.nix_update.proofs.NotUpdatedLemmas.{refused_weaker}
use Rattle.nix_update.proofs.setting.change_entry.Goals as goal

pub returns-in-Exact-clause-refused : goal.returns-in-Exact-clause-refused
returns-in-Exact-clause-refused c =
    let definition = c.args.definition.now in
    refused_weaker
    (IsValueNotChanged c.args.update.action c.args.update.form c.args.update.value.now c.args.text.now c.args.root.now definition.entry)
    (IsEntryNotChanged c.args.update c.args.text.now c.args.root.now definition) c.change_value.result
    (λ why h. IsEntryNotChanged.exact c.in-Exact.is h) c.change_value.ensures.refused
