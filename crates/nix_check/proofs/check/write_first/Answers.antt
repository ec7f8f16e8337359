use Rattle.std.proofs.Common.{ℕ, ◌==◌, List, arith, subst}
use Rattle.nix_lints.specs.Items.{Item}
use Rattle.nix_check.{specs.{Listed.Prints, PrintedFindings.{IsPrintedItem, AreFormed}}, proofs.{ListedPieces.none_printed, PrintedDiagnostics.{item_printed, first_items}}}
use Rattle.nix_check.proofs.check.write_first.Goals as goal

pub loop-number-init : goal.loop-number-init
loop-number-init g c = λ items are. (
  none_printed
      (λ (number : ℕ) (item : Item) (piece : List ℕ).
      IsPrintedItem c.args.style c.args.source.now.name.now c.args.source.now.text.now (number == 0) item piece)
      c.args.earlier (g.W.Write.contents c.args.out.now),
  are,
)

pub loop-number-preserved : goal.loop-number-preserved
loop-number-preserved g c = λ items are.
    let source = c.args.source.now in
    let before = c.loop-number.invariant items are in
    let given = c.in_ok-diagnostic.ensures items before.1 in (
      item_printed c.args.style source.name.now source.text.now c.args.earlier items c.loop-number.number c.in_ok-diagnostic.diagnostic
          c.is_first_of_all-is_first.result (g.W.Write.contents c.args.out.now) (g.W.Write.contents c.loop-number.out)
          (g.W.Write.contents c.write_if.new.out)
          (omega (arith, c.loop-number-test.true, c.min-number-end.ensures, c.len.ensures items are)) c.is_first_of_all-is_first.ensures given.1
          c.in_ok-write_if.ensures before.0,
      given.0,
    )

pub returns : goal.returns
returns g c = λ items are.
    let source = c.args.source.now in
    subst (λ (shown : List Item). Prints (AreFormed c.args.style source.name.now source.text.now c.args.earlier shown) (g.W.Write.contents c.args.out.now)
    (g.W.Write.contents c.loop-number.out))
    (first_items items c.loop-number.number c.args.style.limit
    (omega (arith, c.loop-number-test.false, c.loop-number.auto.number-end, c.min-number-end.ensures, c.len.ensures items are)))
    (c.loop-number.invariant items are).0
