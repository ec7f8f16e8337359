use Rattle.std.proofs.Common.{◌≡◌, ◌∙◌, false, sym, arith}
use Rattle.nix_values.specs.JsonContent.{is_high}
use Rattle.nix_values.proofs.JsonContentLemmas.{unit_found, unit_none}
use Rattle.nix_values.proofs.json_content.escaped_unit.Goals as goal

pub returns-in-Some-clause-found : goal.returns-in-Some-clause-found
returns-in-Some-clause-found c =
    let other : is_high c.args.unit ≡ false = sym c.is_high.ensures ∙ c.if-is_high.false in
    unit_found c.args.unit c.in-Some.letter c.args.rest.now (λ e. omega (arith, c.if-unit-eq0.false, e)) other c.in-Some.ensures.cases
    c.in-Some.ensures.value.1

pub returns-in-None-clause-found : goal.returns-in-None-clause-found
returns-in-None-clause-found c =
    let other : is_high c.args.unit ≡ false = sym c.is_high.ensures ∙ c.if-is_high.false in
    unit_none c.args.unit c.args.rest.now (λ e. omega (arith, c.if-unit-eq0.false, e)) c.requires other c.in-None.ensures.cases
