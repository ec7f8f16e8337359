use Rattle.std.proofs.Common.{◌≡◌, ◌-◌, false}
use Rattle.nix_data.specs.Added.{added}
use Rattle.nix_data.specs.Places.{place_of, values_read}
use Rattle.nix_data.proofs.AddedLemmas.{IsLeft}
use Rattle.nix_data.proofs.nix_reader.Reader.+read.Given as goal

abbrev pub decreases-read : goal.decreases-read
decreases-read l = l.levels

-- the remaining nodes inside this one add the rest of the values
abbrev pub invariant-loop-child : goal.invariant-loop-child
invariant-loop-child l = record {
  next : (goal.iterator-loop-child).can_next l.child-iterator;
  ends : (goal.iterator-loop-child).is_finite l.child-iterator;
  added : l.self.is_lossy ≡ false → IsLeft (added (l.levels - 1)) (place_of l.inside) l.child-iterator (values_read l.values)
      (added l.levels (place_of l.fn.target) l.node (values_read l.fn.values));
}
