use Rattle.std.proofs.Common.{map, refl, inr, arith}
use Rattle.nix_scopes.{specs.Bound.bound_of, proofs.SymbolTableLemmas.{shown_more, shown_fewer}}
use Rattle.nix_scopes.proofs.symbols.restore_shadowed.Goals as goal

pub loop-number-init : goal.loop-number-init
loop-number-init c = λ outer h text. inr (refl, λ n b low high at. absurd (omega (arith, low, high)))

pub loop-number-preserved : goal.loop-number-preserved
loop-number-preserved c = λ outer h.
    shown_more outer (map bound_of c.args.bindings.now) c.args.numbers.now c.loop-number.numbers c.restore_binding.new.numbers c.args.shadowed.now c.args.scope
    c.loop-number.number (c.loop-number.invariant outer h) h (omega (arith, c.loop-number.auto.number)) (omega (arith, c.loop-number-test.true))
    c.in_ok-restore_binding.ensures.shown c.in_ok-restore_binding.ensures.same

pub returns : goal.returns
returns c = λ outer h text.
    shown_fewer outer (map bound_of c.args.bindings.now) c.args.scope.first c.args.scope.end c.loop-number.number c.args.numbers.now c.loop-number.numbers text
    (omega (arith, c.loop-number-test.false)) (c.loop-number.invariant outer h text)
