use Rattle.std.proofs.Common.{◌≡◌, ◌∙◌, ◌<◌, ◌≤◌, List, Option, Some, IfSome, IfNone, length, arith, ap, sym, subst}
use Rattle.std.proofs.lemmas.{List.Elements.All-more, Option.slice_get-get_or}
use Rattle.nix_diagnostics.specs.declared.{diagnostic.Diagnostic.{Diagnostic}, notes.Note.{Note}}
use Rattle.nix_fixes.specs.declared.tried.Tried.{Tried}
use Rattle.nix_fixes.specs.Fixes.{HaveNoFix, IsFirstFix}
use Rattle.nix_fixes.proofs.FixLemmas.{all_up_to}
use Rattle.nix_fixes.proofs.all_fixes.first_fix.Goals as goal

pub returns-in-Some-clause-first : goal.returns-in-Some-clause-first
returns-in-Some-clause-first c =
    let text = c.args.text.now in
    let own = c.index-diagnostics-number.result in
    record {
      diagnostic = own;
      there = slice_get-get_or c.args.diagnostics.now c.loop-number.number own (omega (arith, c.loop-number-test.true, c.min-number-end.ensures))
          ∙ ap Some (sym c.index-diagnostics-number.is);
      none = c.loop-number.invariant;
      first = subst (λ (notes : List Note). IsFirstFix text c.args.errors notes c.in-Some.tried.fix)
          (c.deref.ensures.value ∙ ap (λ (d : Diagnostic). d.notes.items) (sym c.index-diagnostics-number.is))
          (subst (λ (found : Option Tried). IfSome found (λ tried. IsFirstFix text c.args.errors c.deref.result.now tried.fix)) c.in-Some.is
          c.in_ok-tried.ensures.first);
    }

pub loop-number-preserved : goal.loop-number-preserved
loop-number-preserved c =
    let text = c.args.text.now in
    let none = λ (d : Diagnostic). HaveNoFix text c.args.errors d.notes.items in
    All-more none c.args.diagnostics.now c.loop-number.number c.index-diagnostics-number.result
    (omega (arith, c.loop-number-test.true, c.min-number-end.ensures)) c.loop-number.invariant
    (subst (λ (notes : List Note). HaveNoFix text c.args.errors notes) c.deref.ensures.value
    (subst (λ (found : Option Tried). IfNone found (HaveNoFix text c.args.errors c.deref.result.now)) c.in_default.is c.in_ok-tried.ensures.none))

pub returns-clause-none : goal.returns-clause-none
returns-clause-none c =
    all_up_to (λ (d : Diagnostic). HaveNoFix c.args.text.now c.args.errors d.notes.items) c.args.diagnostics.now c.loop-number.number c.args.most
    (omega (arith, c.loop-number.auto.number-end, c.min-number-end.ensures)) (omega (arith, c.loop-number.auto.number-end, c.min-number-end.ensures))
    (λ less. omega (arith, less, c.loop-number-test.false, c.min-number-end.ensures)) c.loop-number.invariant
