use Rattle.{std.proofs.Common.{◌≡◌, drop}, nix_rename.specs.Refused.obstacle_among}
use Rattle.nix_rename.proofs.refusal.obstacle_among.Given as goal

abbrev pub invariant-loop-part : goal.invariant-loop-part
invariant-loop-part l = obstacle_among l.number l.parts ≡ obstacle_among l.number (drop l.part-index l.parts)
