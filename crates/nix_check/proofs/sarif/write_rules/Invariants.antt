use Rattle.std.{proofs.Common.{map, take}, specs.Io.KnownBytes.Appends}
use Rattle.nix_check.specs.{Listed.comma_joined, AsSarif.rule_object}
use Rattle.nix_check.proofs.sarif.write_rules.Given as goal

-- the rules so far are written
abbrev pub invariant-loop-number : goal.invariant-loop-number
invariant-loop-number g l =
    Appends (g.W.Write.contents l.initial.out) (g.W.Write.contents l.out) (comma_joined (map rule_object (take l.number l.all)))
