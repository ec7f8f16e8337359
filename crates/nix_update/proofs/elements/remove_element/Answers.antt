use Rattle.std.proofs.Common.{◌∙◌, ℕ, List, Option, string_bytes, subst, sym}
use Rattle.std.specs.Prelude.{IfSome}
use Rattle.rnix_edit.specs.Edited.{IfDone, IfRefused as IfEditRefused, IsRemoved, IsNotRemoved}
use Rattle.nix_update.specs.NotUpdated.{IsMeaningChangedWithout, IsElementNotRemoved}
use Rattle.nix_update.proofs.elements.remove_element.Goals as goal

pub returns-in-Refused-clause-refused : goal.returns-in-Refused-clause-refused
returns-in-Refused-clause-refused c =
    let element = c.in-Some.element in
    IsElementNotRemoved.not_removed element c.in-Refused.refusal c.refuse_at-refused.ensures (sym c.element_with.ensures ∙ c.in-Some.is)
    (subst (IfEditRefused (λ refusal. IsNotRemoved refusal c.args.text.now c.args.root.now element)) c.in-Refused.is c.in_ok-made.ensures.refused)

pub returns-in-Some-2-clause-refused : goal.returns-in-Some-2-clause-refused
returns-in-Some-2-clause-refused c =
    let element = c.in-Some.element in
    let changed : List ℕ → Type 0 = IsMeaningChangedWithout c.args.text.now c.args.root.now element in
    IsElementNotRemoved.changed element (string_bytes c.in-Done.made) c.refuse_at-in-Some-2.ensures (sym c.element_with.ensures ∙ c.in-Some.is)
    (subst (IfDone (IsRemoved c.args.text.now c.args.root.now element)) c.in-Done.is c.in_ok-made.ensures.done)
    (subst changed c.as_str.ensures.value
    (subst (λ (offset : Option ℕ). IfSome offset (λ at. changed c.as_str.result.now)) c.in-Some-2.is c.in_ok-offset.ensures.some))
