use Rattle.std.proofs.Common.{rules, string_bytes}
use Rattle.nix_update.proofs.SeveralLemmas.{next_update}
use Rattle.nix_update.proofs.several.all_updated.Goals as goal

pub loop-update-preserved : goal.loop-update-preserved
loop-update-preserved c = record {
  count = search rules;
  made = next_update c.args.updates.now c.loop-update.update-index c.args.text.now (string_bytes c.loop-update.made) c.as_str.result.now
      (string_bytes c.in-Made.next) c.in_ok-outcome.outcome _ c.loop-update-test.true c.loop-update.invariant.made c.as_str.ensures.value
      c.in_ok-outcome.ensures c.in-Made.ensures.made;
}
