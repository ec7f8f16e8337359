use Rattle.rnix_laws.proofs.PrefixTexts.{prefix_texts}
use Rattle.rnix_laws.proofs.prefix.correct_prefix.Goals as goal

pub returns : goal.returns
returns c = prefix_texts c.args.first.now c.args.second.now
