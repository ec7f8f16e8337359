use Rattle.{std.proofs.Common.{◌≡◌, ◌+◌, ◌-◌, arith, append_assoc}, rnix_tree.proofs.DigitLemmas.{decimal_pair, length_pair}}
use Rattle.rnix_tree.proofs.digits.write_digits.Goals as goal

pub overflow_sub-at : goal.overflow_sub-at
overflow_sub-at c = omega (arith, length_pair c.loop-remaining.remaining c.loop-remaining-test.true c.loop-remaining.auto.remaining-fits.fits)

pub write_pair-requires : goal.write_pair-requires
write_pair-requires c = omega (arith, length_pair c.loop-remaining.remaining c.loop-remaining-test.true c.loop-remaining.auto.remaining-fits.fits)

pub overflow_sub-at-in-loop-remaining : goal.overflow_sub-at-in-loop-remaining
overflow_sub-at-in-loop-remaining c = omega (arith, length_pair c.loop-remaining.remaining c.loop-remaining-test.true c.loop-remaining.auto.remaining-fits.fits)

pub loop-remaining-preserved : goal.loop-remaining-preserved
loop-remaining-preserved c =
    let l = c.loop-remaining in
    let long = length_pair l.remaining c.loop-remaining-test.true l.auto.remaining-fits.fits in
    let e : l.at - 2 + 2 ≡ l.at = omega arith in (
      omega arith,
      omega arith,
      omega arith,
      rw (c.write_pair.ensures, e) (rw (decimal_pair l.remaining c.loop-remaining-test.true l.auto.remaining-fits.fits, append_assoc) at l.invariant.3),
    )
