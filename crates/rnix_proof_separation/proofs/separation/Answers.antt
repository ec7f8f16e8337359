use Rattle.rnix_proof_separation.proofs.SeparatedTokens.{separated_again}
use Rattle.rnix_proof_separation.proofs.separation.Goals as goal

pub returns : goal.returns
returns c = λ ok separated. separated_again c.args.first.now c.args.second.now c.utf8.first ok separated
