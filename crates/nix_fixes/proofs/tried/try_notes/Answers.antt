use Rattle.std.proofs.Common.{List, Option, IfSome, IfNone, arith, subst}
use Rattle.std.proofs.lemmas.List.{take_all, Elements.All-more}
use Rattle.nix_diagnostics.specs.declared.notes.Note.{Note}
use Rattle.nix_fixes.specs.declared.tried.Tried.{Tried}
use Rattle.nix_fixes.specs.Fixes.{HasNoFix, HaveNoFix, IsOfNote}
use Rattle.nix_fixes.proofs.NoteLemmas.{first_found}
use Rattle.nix_fixes.proofs.tried.try_notes.Goals as goal

pub returns-in-Some-clause-first : goal.returns-in-Some-clause-first
returns-in-Some-clause-first c =
    let text = c.args.text.now in
    let note = c.note-item.result in
    first_found text c.args.errors c.args.notes.now c.loop-note.note-index note c.in-Some.tried.fix c.loop-note-test.true c.note-item.is
    c.loop-note.invariant
    (subst (λ (found : Option Tried). IfSome found (λ tried. IsOfNote text note tried.fix)) c.in-Some.is c.in_ok-tried.ensures.proposed)

pub loop-note-preserved : goal.loop-note-preserved
loop-note-preserved c =
    let none = HasNoFix c.args.text.now c.args.errors in
    All-more none c.args.notes.now c.loop-note.note-index c.note-item.result c.loop-note-test.true c.loop-note.invariant
    (subst none c.note-item.is
    (subst (λ (found : Option Tried). IfNone found (none c.note-item.result)) c.in_default.is c.in_ok-tried.ensures.none))

pub returns-clause-none : goal.returns-clause-none
returns-clause-none c =
    subst (λ (notes : List Note). HaveNoFix c.args.text.now c.args.errors notes)
    (take_all c.loop-note.note-index c.args.notes.now (omega (arith, c.loop-note-test.false))) c.loop-note.invariant
