use Rattle.std.proofs.Common.{map, subst, string_bytes}
use Rattle.rnix_edit.specs.Edited.{IfDone, IfRefused as IfEditRefused, IsRemoved, IsNotRemoved}
use Rattle.nix_update.specs.NotUpdated.{IsEntryNotRemoved}
use Rattle.nix_update.proofs.NotUpdatedLemmas.{refused_weaker}
use Rattle.nix_update.proofs.removing.remove_entry.Goals as goal

pub returns-in-Refused-clause-refused : goal.returns-in-Refused-clause-refused
returns-in-Refused-clause-refused c =
    IsEntryNotRemoved.not_removed c.in-Refused.refusal c.refuse_at-refused.ensures
    (subst (IfEditRefused (λ refusal. IsNotRemoved refusal c.args.text.now c.args.root.now c.args.definition.now.entry)) c.in-Refused.is
    c.in_ok-made.ensures.refused)

pub returns-clause-refused : goal.returns-clause-refused
returns-clause-refused c =
    let definition = c.args.definition.now in
    let removed : IsRemoved c.args.text.now c.args.root.now definition.entry (string_bytes c.in-Done.made) =
    subst (IfDone (IsRemoved c.args.text.now c.args.root.now definition.entry)) c.in-Done.is c.in_ok-made.ensures.done in
    refused_weaker _ (IsEntryNotRemoved c.args.update.is_forced (map string_bytes c.args.names.now) c.args.steps.now c.args.text.now c.args.root.now
    definition) c.accept_removed.result (λ why h. IsEntryNotRemoved.not_accepted (string_bytes c.in-Done.made) h.0 removed h.1)
    c.accept_removed.ensures.refused
