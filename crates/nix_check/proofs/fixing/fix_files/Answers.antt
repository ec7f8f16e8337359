use Rattle.std.proofs.KnownBytes.{Appends-kept}
use Rattle.nix_check.specs.Fixing.{remaining_line}
use Rattle.nix_check.proofs.fixing.fix_files.Goals as goal

pub returns : goal.returns
returns g c = record {
  done = g.W.Write.contents c.fix_each.new.out;
  tally = c.in_ok-tally.tally;
  fixed = c.in_ok-tally.ensures;
  tail = Appends-kept (g.W.Write.contents c.fix_each.new.out) (g.W.Write.contents c.write_remaining.new.out) (g.W.Write.contents c.flush.new.self)
      (remaining_line c.in_ok-tally.tally) c.in_ok-write_remaining.ensures c.flush.ensures.bytes;
  status_is = c.status.ensures;
}
