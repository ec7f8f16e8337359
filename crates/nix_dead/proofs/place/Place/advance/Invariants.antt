use Rattle.std.proofs.Common.{◌≡◌, ◌⊎◌, ◌-◌, ◌≤◌, ℕ, List}
use Rattle.nix_dead.specs.Skipped.{IsAt}
use Rattle.nix_dead.proofs.place.Place.advance.Given as goal

-- the place so far
abbrev pub invariant-loop-place : goal.invariant-loop-place
invariant-loop-place l = record {
  text_is : l.place.text.now ≡ l.fn.self.text.now;
  order : l.place.start ≤ l.place.offset;
  lines : (text : List ℕ) (old : ℕ) → IsAt text old l.fn.self → IsAt text l.place.offset l.place × (old ≤ l.place.offset)
      × (l.place.offset ≤ l.end ⊎ (l.place.offset ≡ old));
}

-- each turn goes on by a byte
abbrev pub decreases-loop-place : goal.decreases-loop-place
decreases-loop-place l = l.end - l.place.offset
