use Rattle.rnix_reader.{specs.{Placed.token_of, State.state}, proofs.{StateLemmas.item_there, SkippedRuns.item_in_order}}
use Rattle.rnix_reader.proofs.entries.open_entry.Goals as goal

pub new-requires : goal.new-requires
new-requires c = item_in_order (state c.args.p.now) (token_of c.in-Some.name) c.ordered.ensures (item_there _ _ _ c.item.ensures c.in-Some.is)
