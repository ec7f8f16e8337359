use Rattle.std.proofs.Common.{◌≡◌, ◌≤◌, ◌<◌, ℕ, length, map, take, get_or}
use Rattle.std.specs.{Prelude.string_bytes, List.{filter, Sorted.IsNonDecreasingBy}}
use Rattle.nix_lints.specs.declared.finding.Finding.{Finding}
use Rattle.nix_lints.specs.{Found.{Found, found_of}, Ignored.IsAt, Items.is_enabled}
use Rattle.nix_lints.proofs.reported.enabled.Given as goal

-- the findings so far, and a place that the next one does not precede
abbrev pub invariant-loop-finding : goal.invariant-loop-finding
invariant-loop-finding l = record {
  order : l.place.start ≤ l.place.offset;
  found : IsNonDecreasingBy (λ (f : Found). f.extent.start) (map found_of l.all) →
      map found_of l.found.items ≡ filter (is_enabled l.text (map string_bytes l.disabled)) (map found_of (take l.finding-index l.all));
  at : IsNonDecreasingBy (λ (f : Found). f.extent.start) (map found_of l.all) → (offset : ℕ) × IsAt l.text offset l.place
      × ((d : Finding) → l.finding-index < length l.all → offset ≤ (get_or l.all l.finding-index d).range.start);
}
