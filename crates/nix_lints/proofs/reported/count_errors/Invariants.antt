use Rattle.std.proofs.Common.{◌≡◌, ◌≤◌, map, take, length}
use Rattle.std.specs.List.{filter}
use Rattle.nix_lints.specs.Found.{found_of}
use Rattle.nix_lints.specs.Items.{finding, is_error}
use Rattle.nix_lints.proofs.reported.count_errors.Given as goal

-- the number of errors so far
abbrev pub invariant-loop-finding : goal.invariant-loop-finding
invariant-loop-finding l = record {
  count : l.count ≡ length (filter is_error (map (λ f. finding (found_of f)) (take l.finding-index l.found)));
  below : l.count ≤ l.finding-index;
}
