use Rattle.rnix_parser.proofs.OneReading.{one_reading}
use Rattle.rnix_parser.proofs.readings.one_reading.Goals as goal

pub returns : goal.returns
returns c = one_reading
