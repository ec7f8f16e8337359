use Rattle.{std.proofs.Common.{sym, subst}, rnix_reader.specs.{Performed.NamesAfter, State.state}}
use Rattle.rnix_reader.proofs.reading.step.Goals as goal

pub returns-in_ok-open_entry-in-Entry-clause-names : goal.returns-in_ok-open_entry-in-Entry-clause-names
returns-in_ok-open_entry-in-Entry-clause-names c =
    subst (λ x. NamesAfter x c.args.mark (state c.args.p.now) c.args.names.now c.open_entry.new.names) (sym c.in-Entry.is)
    (λ t h. c.in_ok-open_entry-in-Entry.ensures.names t h)
