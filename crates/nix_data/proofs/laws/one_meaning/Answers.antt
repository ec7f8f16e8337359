use Rattle.nix_data.proofs.UniqueLemmas.{one_written}
use Rattle.nix_data.proofs.laws.one_meaning.Goals as goal

pub returns : goal.returns
returns c = one_written c.one_reading.ensures
