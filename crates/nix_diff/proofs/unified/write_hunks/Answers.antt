use Rattle.nix_diff.proofs.HunkLemmas.{one_hunk}
use Rattle.nix_diff.proofs.unified.write_hunks.Goals as goal

pub write_hunk-requires : goal.write_hunk-requires
write_hunk-requires c = one_hunk c.args.diff.now 0 c.args.hunks.now c.loop-hunk.hunk-index _ c.requires c.loop-hunk-test.true
