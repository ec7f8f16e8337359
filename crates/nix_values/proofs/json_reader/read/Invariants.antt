use Rattle.std.proofs.Common.{◌≡◌, ◌-◌, ◌<◌, ◌≤◌, false, length, get_or}
use Rattle.nix_values.specs.Json.{is_space}
use Rattle.nix_values.specs.JsonReading.{IsSound, IsPlacedIn, IsDistinct}
use Rattle.nix_values.proofs.JsonReadLemmas.{IsReadUpTo}
use Rattle.nix_values.proofs.JsonReadErrorLemmas.{StopsFrom, IsReadIn}
use Rattle.nix_values.proofs.json_reader.read.Given as goal

-- the values so far come before those that the rest of the text means
abbrev pub invariant-loop-at : goal.invariant-loop-at
invariant-loop-at l = record {
  within : l.at ≤ length l.text;
  solid : l.at < length l.text → is_space (get_or l.text l.at 0) ≡ false;
  sound : IsSound l.reading;
  placed : IsPlacedIn l.reading;
  distinct : IsDistinct l.reading;
  remaining : IsReadUpTo l.text l.at l.reading;
  stops : StopsFrom l.text l.at l.reading;
  read : IsReadIn l.text l.at l.reading;
}

abbrev pub decreases-loop-at : goal.decreases-loop-at
decreases-loop-at l = length l.text - l.at
