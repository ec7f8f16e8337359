use Rattle.std.proofs.Common.{◌≡◌, ◌+◌, ◌<◌, drop, false}
use Rattle.nix_diagnostics.specs.Following.{words}
use Rattle.nix_diagnostics.proofs.near.has_few_words.Given as goal

abbrev pub invariant-loop-byte : goal.invariant-loop-byte
invariant-loop-byte l = record {
  counted : l.count + words l.inside (drop l.byte-index l.text) ≡ words false l.text;
  few : l.count < 3;
}
