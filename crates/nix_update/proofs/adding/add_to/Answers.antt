use Rattle.std.proofs.Common.{rules, map, subst, string_bytes}
use Rattle.nix_update.specs.Updated.{IfMade, IsRest, IsEntryAdded}
use Rattle.nix_update.specs.NotUpdated.{IfRefused, IsEntryRefused, IsAdditionRefused, IsNotAddedTo}
use Rattle.nix_update.proofs.NotUpdatedLemmas.{refused_weaker}
use Rattle.nix_update.proofs.adding.add_to.Goals as goal

pub returns-in-Refused-clause-refused : goal.returns-in-Refused-clause-refused
returns-in-Refused-clause-refused c =
    let update = c.args.update in
    let rest = c.in-Some.names.now in
    IsNotAddedTo.no_entry rest (search rules)
    (subst (IfRefused (IsEntryRefused update.form update.value.now rest c.args.text.now c.args.root.now c.args.target.now.node)) c.in-Refused.is
    c.in_ok-made.ensures.refused)

pub returns-clause-refused : goal.returns-clause-refused
returns-clause-refused c =
    let update = c.args.update in
    let path = c.args.path.now in
    let target = c.args.target.now in
    let rest = c.in-Some.names.now in
    let are_rest : IsRest path.starts.items path.text.now target.at rest = search rules in
    let added : IsEntryAdded update.form update.value.now rest c.args.text.now c.args.root.now target.node (string_bytes c.in-Made.made) =
    subst (IfMade (IsEntryAdded update.form update.value.now rest c.args.text.now c.args.root.now target.node)) c.in-Made.is c.in_ok-made.ensures.made in
    refused_weaker _ (IsNotAddedTo update.is_forced update.form update.value.now path.text.now path.starts.items (map string_bytes path.names.items)
    c.args.steps.now target c.args.text.now c.args.root.now) c.accept_added.result
    (λ why h. IsNotAddedTo.not_accepted rest (string_bytes c.in-Made.made) h.0 are_rest added
    (subst (λ names. IsAdditionRefused (map string_bytes names) c.args.steps.now target.at c.args.text.now c.args.root.now target.node
    (string_bytes c.in-Made.made) why) c.deref.ensures.value h.1)) c.accept_added.ensures.refused
