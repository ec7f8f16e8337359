use Rattle.std.proofs.Common.{◌≡◌, ◌∙◌, ◌-◌, ◌<◌, suc, Some, length, slice_get, sym, eqb-true, arith}
use Rattle.std.proofs.lemmas.Option.{slice_get_within}
use Rattle.nix_values.proofs.InOrderLemmas.{innermost_last}
use Rattle.nix_values.proofs.nodes.is_inside_last.Goals as goal

pub returns-then-group-gt0 : goal.returns-then-group-gt0
returns-then-group-gt0 c = λ same.
    let numbers = c.args.numbers.now in
    let number = c.in-Some.number.now in
    let last : slice_get numbers (length numbers - 1) ≡ Some number = sym c.in-Some.ensures.value in
    let within : length numbers - 1 < length numbers = slice_get_within numbers (length numbers - 1) number last in
    let is : c.args.group - 1 ≡ number = eqb-true (c.args.group - 1) number same in
    let group : c.args.group ≡ suc number = omega (arith, c.if-group-gt0.true, is) in
    group ∙ sym (innermost_last 0 numbers number (length numbers - 1) (omega (arith, within)) last)
