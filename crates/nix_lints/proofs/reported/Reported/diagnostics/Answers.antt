use Rattle.std.proofs.Common.{◌≡◌, List, [], take, length, sym, subst, arith}
use Rattle.nix_lints.specs.Items.{Item, AreAllWorded}
use Rattle.nix_diagnostics.specs.declared.diagnostic.Diagnostic.{Diagnostic}
use Rattle.nix_lints.proofs.ReportedLemmas.{none_worded, one_worded, all_items}
use Rattle.nix_lints.proofs.reported.Reported.diagnostics.Goals as goal

pub loop-number-init : goal.loop-number-init
loop-number-init c = λ items are. (none_worded items c.new-found.result.items c.new-found.ensures.items, are)

pub loop-number-preserved : goal.loop-number-preserved
loop-number-preserved c = λ items are.
    let before = c.loop-number.invariant items are in
    let given = c.in_ok-diagnostic.ensures items before.1 in (
      one_worded items c.loop-number.found.items _ c.loop-number.number c.in_ok-diagnostic.diagnostic
          (omega (arith, c.loop-number-test.true, c.len-number-end.ensures items are)) before.0 given.1 c.in_ok-add.ensures,
      given.0,
    )

pub returns : goal.returns
returns c = λ items are.
    all_items items c.loop-number.found.items c.loop-number.number
    (omega (arith, c.loop-number-test.false, c.loop-number.auto.number-end, c.len-number-end.ensures items are)) (c.loop-number.invariant items are).0
