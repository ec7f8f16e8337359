use Rattle.nix_data.proofs.UniqueLemmas.{one_data, data_or_none}
use Rattle.nix_data.proofs.laws.one_data.Goals as goal

pub returns-clause-one : goal.returns-clause-one
returns-clause-one c = one_data c.one_reading.ensures

pub returns-clause-none : goal.returns-clause-none
returns-clause-none c = data_or_none c.one_reading.ensures
