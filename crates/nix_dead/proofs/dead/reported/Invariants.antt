use Rattle.std.proofs.Common.{◌≡◌, ◌<◌, ◌≤◌, ◌++◌, ℕ, length, get_or}
use Rattle.std.specs.{List.{filter, Sorted.IsNonDecreasingBy}, Vec.Iter.{into_iter_items, into_iter_len}}
use Rattle.nix_lints.specs.declared.unused.UnusedName.{UnusedName}
use Rattle.nix_dead.specs.{Dead.start_of, Skipped.{is_reported, IsAt}}
use Rattle.nix_dead.proofs.dead.reported.Given as goal

-- the names so far, and a place that the next one does not precede
abbrev pub invariant-loop-name : goal.invariant-loop-name
invariant-loop-name l = record {
  items : l.yielded ++ into_iter_items l.name-iterator ≡ l.fn.names.items;
  len : into_iter_len l.name-iterator ≡ length (into_iter_items l.name-iterator);
  order : l.place.start ≤ l.place.offset;
  found : IsNonDecreasingBy start_of l.fn.names.items → l.reported.items ≡ filter (is_reported l.text l.options) l.yielded;
  at : IsNonDecreasingBy start_of l.fn.names.items → (offset : ℕ) × IsAt l.text offset l.place
      × ((d : UnusedName) → length l.yielded < length l.fn.names.items → offset ≤ start_of (get_or l.fn.names.items (length l.yielded) d));
}
