use Rattle.std.proofs.Common.{ℕ, List, Option, string_bytes, subst}
use Rattle.std.specs.Prelude.{IfSome}
use Rattle.rnix_edit.specs.Edited.{IfDone, IfRefused as IfEditRefused}
use Rattle.rnix_edit.specs.declared.edited.Refusal.{Refusal}
use Rattle.nix_update.specs.Updated.{last_member, IsMemberInserted}
use Rattle.nix_update.specs.NotUpdated.{IsMemberNotInserted, IsMeaningChangedWith, IsNotAppended}
use Rattle.nix_update.proofs.elements.append.Goals as goal

pub returns-in-Refused-clause-refused : goal.returns-in-Refused-clause-refused
returns-in-Refused-clause-refused c =
    let list = c.args.list.now in
    let not_inserted : List ℕ → Refusal → Type 0 =
    λ n refusal. IsMemberNotInserted refusal (last_member list) c.args.text.now c.args.root.now list c.args.element.now.kind n in
    IsNotAppended.not_inserted c.in-Refused.refusal c.refuse_at-refused.ensures
    (subst (λ n. not_inserted n c.in-Refused.refusal) c.as_str-new.ensures.value
    (subst (IfEditRefused (not_inserted c.as_str-new.result.now)) c.in-Refused.is c.in_ok-made.ensures.refused))

pub returns-in-Some-clause-refused : goal.returns-in-Some-clause-refused
returns-in-Some-clause-refused c =
    let list = c.args.list.now in
    let made = string_bytes c.in-Done.made in
    let inserted : List ℕ → List ℕ → Type 0 = λ n. IsMemberInserted (last_member list) c.args.text.now c.args.root.now list c.args.element.now.kind n in
    let changed : List ℕ → Type 0 = IsMeaningChangedWith c.args.text.now c.args.root.now list in
    IsNotAppended.changed made c.refuse_at.ensures
    (subst (λ n. inserted n made) c.as_str-new.ensures.value (subst (IfDone (inserted c.as_str-new.result.now)) c.in-Done.is c.in_ok-made.ensures.done))
    (subst changed c.as_str.ensures.value
    (subst (λ (offset : Option ℕ). IfSome offset (λ at. changed c.as_str.result.now)) c.in-Some.is c.in_ok-offset.ensures.some))
