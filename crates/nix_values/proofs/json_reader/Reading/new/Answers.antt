use Rattle.std.proofs.Common.{map, ap, refl}
use Rattle.nix_values.specs.Contents.{entry_of}
use Rattle.nix_values.specs.FoundKeys.{found_keys}
use Rattle.nix_values.proofs.JsonLocationLemmas.{placed_begun}
use Rattle.nix_values.proofs.JsonDistinctLemmas.{begun_distinct}
use Rattle.nix_values.proofs.json_reader.Reading.new.Goals as goal

pub returns-clause-begun : goal.returns-clause-begun
returns-clause-begun c = record { is_state = refl; no_name = refl; no_frames = c.new-3.ensures.items; no_entries = ap (map entry_of) c.new.ensures.items }

pub returns-clause-placed : goal.returns-clause-placed
returns-clause-placed c =
    placed_begun c.new.result c.new-2.result c.new-3.result.items c.new.ensures.items c.new.ensures.locations c.new-3.ensures.items
    (c.new-2.ensures (found_keys c.new.result)).0

pub returns-clause-distinct : goal.returns-clause-distinct
returns-clause-distinct c = begun_distinct _ c.new.ensures.items refl
