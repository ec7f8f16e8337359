use Rattle.std.proofs.Common.{◌≡◌, ◌∙◌, ◌==◌, ap, length, map, rules}
use Rattle.rnix_grammar.specs.Fault.{fault_of}
use Rattle.rnix_print.proofs.PrintedLemmas.{empty_alike}
use Rattle.rnix_print.proofs.printing.print_text.Goals as goal

pub returns-clause-printed : goal.returns-clause-printed
returns-clause-printed g c =
    let counted : c.in-Ok.errors.len ≡ length c.in-Ok.errors.items = search rules in
    record {
      tree = c.in-Ok.tree;
      faults = map fault_of c.in-Ok.errors.items;
      parsed = search rules;
      printed = search rules;
      good_is = empty_alike fault_of c.in-Ok.errors.items c.is_empty.result (c.is_empty.ensures ∙ ap (λ count. count == 0) counted);
    }
