use Rattle.{std.proofs.Common.{ap, map}, rnix_green.specs.Walk.event_at, rnix_tree.proofs.PreorderLemmas.whole_walk}
use Rattle.rnix_tree.proofs.walk.PreorderWithTokens.new.Goals as goal

pub returns : goal.returns
returns c = ap (map (event_at c.args.green.now)) (whole_walk _ _ c.requires)
