use Rattle.rnix_kinds.proofs.KindSets.{kinds_of-one}
use Rattle.rnix_kinds.proofs.token_set.TokenSet.new.Goals as goal

pub returns : goal.returns
returns c = kinds_of-one c.args.kind
