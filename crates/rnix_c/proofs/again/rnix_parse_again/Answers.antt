use Rattle.std.proofs.{Common.{rules, ◌≡◌, ℤ, inl, inr, refl, subst, to_z, of_z, w64, arith}, lemmas.{Int.{ints}}}
use Rattle.rnix_c.{specs.AgainCalls.{IsEditRefused}, proofs.FewElements.{few_parsed}}
use Rattle.rnix_c.proofs.again.rnix_parse_again.Goals as goal

pub returns-in-Ok : goal.returns-in-Ok
returns-in-Ok c =
    let read = c.in-Ok.read in
    inr (
      c.in-Ok.ensures.editable,
      c.in-Ok.ensures.utf8,
      (
        read.tree,
        read.faults,
        c.in-Ok.ensures.read,
        (
          (omega (arith, ints, c.write_parse.ensures.ranges.0), c.write_parse.ensures.ranges.1),
          c.write_parse.ensures.links,
          few_parsed _ read.tree read.faults c.in-Ok.ensures.utf8 c.in-Ok.ensures.read,
          c.in-Ok.ensures.few,
          c.write_parse.ensures.errors,
          c.write_parse.ensures.count,
        ),
      ),
    )

pub returns-in-Err : goal.returns-in-Err
returns-in-Err c =
    let same : c.in-Err.answer ≡ to_z w64 (of_z w64 c.in-Err.answer) = search rules in
    let refused = subst (λ (answer : ℤ). IsEditRefused c.args.text.now c.args.start c.args.end c.args.replacement.now answer) same c.in-Err.ensures.refused in
    inl (refused, (refl, refl, refl, refl))
