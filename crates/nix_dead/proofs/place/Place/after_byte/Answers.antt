use Rattle.std.proofs.Common.{◌≡◌, ◌+◌, ◌==◌, false, get_or, refl, arith}
use Rattle.std.proofs.lemmas.{Bool.Decides.nat_tests}
use Rattle.nix_dead.proofs.LineBeforeLemmas.{line_goes_on}
use Rattle.nix_dead.proofs.place.Place.after_byte.Goals as goal

pub returns-clause-lines : goal.returns-clause-lines
returns-clause-lines c = λ text offset at.
    let old = c.args.self in
    let other : (get_or old.text.now old.offset 0 == 10) ≡ false = grind (arith, nat_tests, c.if-self-eq10.false) in
    line_goes_on text offset old record { text = old.text; offset = old.offset + 1; start = old.start; is_left_out = old.is_left_out } at c.requires.within
    other refl refl refl refl
