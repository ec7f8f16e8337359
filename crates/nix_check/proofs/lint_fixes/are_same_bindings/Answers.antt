use Rattle.std.proofs.Common.{◌≡◌, ◌≤◌, length, arith}
use Rattle.std.proofs.lemmas.{Bool.Decides.nat_tests}
use Rattle.nix_scopes.specs.{Bound.bound_of, Scopes.Bound}
use Rattle.nix_check.proofs.LintFixLemmas.{all_same}
use Rattle.nix_check.proofs.lint_fixes.are_same_bindings.Goals as goal

pub returns : goal.returns
returns c = λ _.
    let same : length c.args.new.now ≡ length c.args.old.now = grind (arith, nat_tests, c.if-new-old.false) in
    let past : length c.args.new.now ≤ c.loop-number.number = omega (arith, c.loop-number-test.false) in
    all_same (λ (b : Bound). b.text) bound_of c.args.old.now c.args.new.now c.loop-number.number (omega (arith, past, same)) past c.loop-number.invariant
