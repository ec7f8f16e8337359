use Rattle.std.proofs.Common.{◌≡◌, take, string_bytes}
use Rattle.nix_update.specs.Several.{AreUpdatedTo}
use Rattle.nix_update.proofs.several.all_updated.Given as goal

-- the text is that of the updates so far
abbrev pub invariant-loop-update : goal.invariant-loop-update
invariant-loop-update l = record {
  count : l.number ≡ l.update-index;
  made : AreUpdatedTo (take l.update-index l.updates) l.text (string_bytes l.made);
}
