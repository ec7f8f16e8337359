use Rattle.std.proofs.Common.{◌≡◌, subst, arith, ap, map, take, length}
use Rattle.nix_diagnostics.specs.Mistakes.{mistake_of, mistakes_at, AreWorded}
use Rattle.nix_diagnostics.proofs.MistakeLemmas.{count_mistakes, one_worded}
use Rattle.nix_diagnostics.proofs.diagnostic.worded.Goals as goal

pub loop-number-init : goal.loop-number-init
loop-number-init c = λ root faults starts are fits. (
  record { are = ap (map mistake_of) c.new-found.ensures.items; messages = λ k d less. absurd (omega (arith, less, ap length c.new-found.ensures.items)) },
  are,
)

pub loop-number-preserved : goal.loop-number-preserved
loop-number-preserved c = λ root faults starts are fits.
    let before = c.loop-number.invariant root faults starts are fits in
    let given = c.in_ok-diagnostic.ensures root faults starts before.1 in (
      one_worded (mistakes_at root faults starts) c.loop-number.found.items _ c.loop-number.number c.in_ok-diagnostic.diagnostic
          (omega (arith, c.loop-number-test.true, fits, count_mistakes root faults starts)) before.0 given.1.mistake given.1.has_message c.in_ok-add.ensures,
      given.0,
    )

pub returns : goal.returns
returns c = λ root faults starts are fits.
    let all : c.loop-number.number ≡ c.args.count = omega (arith, c.loop-number-test.false, c.loop-number.auto.number-end) in
    subst (λ n. AreWorded (take n (mistakes_at root faults starts)) c.loop-number.found.items) all (c.loop-number.invariant root faults starts are fits).0
