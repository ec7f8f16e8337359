use Rattle.std.proofs.{Common.{length, map, ap, ◌∙◌, inr, arith}, lemmas.{Int.{ints}}}
use Rattle.std.specs.Prelude.{string_bytes}
use Rattle.{rnix_grammar.specs.Fault.{fault_of}, rnix_c.{specs.{Answers.{filled}, Errors.{errors_of}}, proofs.ShortTrees.{few_kept, short_kept}}}
use Rattle.rnix_c.proofs.compact.rnix_parse_compact.Goals as goal

pub write_compact-requires-clause-few : goal.write_compact-requires-clause-few
write_compact-requires-clause-few c =
    few_kept c.in-Ok.green c.green.inside.elements.items (string_bytes c.green.inside.text) (rw c.green.view_is at c.green.invariant)

pub write_compact-requires-clause-short : goal.write_compact-requires-clause-short
write_compact-requires-clause-short c =
    short_kept c.in-Ok.green c.green.inside.elements.items (string_bytes c.green.inside.text) (rw c.green.view_is at c.green.invariant)

pub returns-in-Ok : goal.returns-in-Ok
returns-in-Ok c =
    let faults = c.deref.ensures.value in
    let few = few_kept c.in-Ok.green c.green.inside.elements.items (string_bytes c.green.inside.text) (rw c.green.view_is at c.green.invariant) in
    inr (
      c.in-Ok.ensures.utf8,
      (
        c.in-Ok.green,
        map fault_of c.in-Ok.faults.items,
        c.in-Ok.ensures.read,
        (
          (omega (arith, ints, c.write_compact.ensures.ranges.0), c.write_compact.ensures.ranges.1),
          c.write_compact.ensures.links,
          c.in-Ok.ensures.few,
          few,
          c.write_compact.ensures.errors ∙ ap (λ list. filled (errors_of (map fault_of list)) c.args.errors.now) faults,
          c.write_compact.ensures.count ∙ ap (λ list. length (map fault_of list)) faults,
        ),
      ),
    )
