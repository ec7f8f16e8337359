use Rattle.std.proofs.Common.{◌≡◌, ◌≤◌, [], length, map, string_bytes, ap, subst, sym, ◌∙◌, arith}
use Rattle.std.{proofs.lemmas.List.{nil_from_length}, specs.Prelude.{IfSome}}
use Rattle.{rnix_grammar.specs.Fault.fault_of, nix_update.specs.{Path.IsPath, PathSteps.ArePathSteps, Updated.IsOutcome, NotUpdated.{IfNone, IsAttributeRefused}}, nix_update.proofs.UpdatedLemmas.whole_update}
use Rattle.nix_update.proofs.update.updated.Goals as goal

pub returns : goal.returns
returns c =
    let update = c.args.update in
    let path = c.in-Some.path in
    let read = c.in_ok-read.read in
    let past : length c.errors.result.now ≤ 0 = c.in_default-first.ensures.item.3 in
    let none : read.faults ≡ [] = sym c.errors.ensures ∙ ap (map fault_of) (nil_from_length c.errors.result.now (omega (arith, past))) in
    whole_update update c.args.text.now path read c.syntax-root.result c.in_ok-steps.steps.items
    (subst (λ found. IfSome found (λ found. found.text.now ≡ update.path.now)) c.in-Some.is c.in_ok-path.ensures.text)
    (subst (λ found. IfSome found (λ found. IsPath update.path.now (map string_bytes found.names.items) found.starts.items)) c.in-Some.is
    c.in_ok-path.ensures.is_path)
    c.in_ok-read.ensures none c.syntax-root.ensures
    (subst (λ names. ArePathSteps (map string_bytes names) c.syntax-root.result c.in_ok-steps.steps.items) c.deref.ensures.value c.in_ok-steps.ensures)
    c.accept.result c.in_ok-outcome.outcome
    (subst (λ steps. IsOutcome update (map string_bytes path.names.items) path.text.now path.starts.items steps c.args.text.now c.syntax-root.result
    c.in_ok-outcome.outcome) c.deref-2.ensures.value c.in_ok-outcome.ensures.made)
    (subst (λ steps. IfNone (IsAttributeRefused update (map string_bytes path.names.items) path.text.now path.starts.items steps c.args.text.now
    c.syntax-root.result) c.in_ok-outcome.outcome) c.deref-2.ensures.value c.in_ok-outcome.ensures.refused)
    c.accept.ensures.made c.accept.ensures.refused
