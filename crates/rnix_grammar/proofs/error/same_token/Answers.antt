use Rattle.{std.proofs.Common.{◌∙◌, ◌&&◌, sym, ap}, rnix_green.specs.Range.bounds_of, rnix_grammar.specs.Fault.same_extent}
use Rattle.rnix_grammar.proofs.error.same_token.Goals as goal

pub returns-then-eq : goal.returns-then-eq
returns-then-eq c =
    c.eq-then-eq.ensures
    ∙ ap (λ b. b && same_extent (bounds_of c.args.range) (bounds_of c.args.position))
    (sym c.if-eq.true ∙ c.eq.ensures)
