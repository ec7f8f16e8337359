use Rattle.std.proofs.{Common.{◌≡◌, List, length, subst, rules}, lemmas.Result.IfOk-weaker}
use Rattle.std.specs.Prelude.{string_bytes}
use Rattle.nix_scopes.specs.Alike.{IsResolution}
use Rattle.nix_dead.specs.declared.removal.Removal.{Removal}
use Rattle.nix_dead.specs.{AppliedRemovals.AreApplied, Editing.{IsChecked, IsTurn}}
use Rattle.nix_dead.proofs.EditingLemmas.{none_proposed, turn_checked}
use Rattle.nix_dead.proofs.editing.take_turn.Goals as goal

pub returns-then-is_empty : goal.returns-then-is_empty
returns-then-is_empty c =
    let names = c.in_ok-names.names in
    let found : IsResolution c.args.root.now names =
    record { bindings = c.in_ok-names.ensures.bindings; firsts = c.in_ok-names.ensures.firsts; resolved = c.in_ok-names.ensures.resolved } in
    let none : length c.in_ok-removals.removals.items ≡ 0 = search rules in
    none_proposed c.args.text.now c.args.options c.args.root.now names found c.in_ok-removals.removals.items c.in_ok-removals.ensures none

pub returns : goal.returns
returns c =
    let text = c.args.text.now in
    let root = c.args.root.now in
    let names = c.in_ok-names.names in
    let removals = c.in_ok-removals.removals.items in
    let made = c.in_ok-made.made in
    let found : IsResolution root names =
    record { bindings = c.in_ok-names.ensures.bindings; firsts = c.in_ok-names.ensures.firsts; resolved = c.in_ok-names.ensures.resolved } in
    let applied : AreApplied text removals made.removals.items (string_bytes made.made) =
    subst (λ (rs : List Removal). AreApplied text rs made.removals.items (string_bytes made.made)) c.deref.ensures.value c.in_ok-made.ensures in
    IfOk-weaker c.checked.result (IsChecked names made) (IsTurn text c.args.options root)
    (turn_checked text c.args.options root names found removals c.in_ok-removals.ensures made applied) c.checked.ensures
