use Rattle.nix_dead.proofs.AppliedLemmas.{draft_next}
use Rattle.nix_dead.proofs.applied.apply_removals.Goals as goal

pub loop-removal-preserved : goal.loop-removal-preserved
loop-removal-preserved c =
    draft_next c.args.text.now c.args.removals.now c.loop-removal.applied.items c.add_edit.new.applied.items _ c.loop-removal.edits c.add_edit.new.edits
    c.loop-removal.removal-index c.loop-removal.invariant c.loop-removal-test.true c.in_ok-add_edit.ensures.text c.in_ok-add_edit.ensures.tried
