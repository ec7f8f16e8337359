use Rattle.std.{proofs.Common.{map, take}, specs.Io.KnownBytes.Appends}
use Rattle.nix_check.specs.{Listed.comma_joined, AsSarif.related_location}
use Rattle.nix_check.proofs.sarif.write_all_related.Given as goal

-- the notes so far are written
abbrev pub invariant-loop-number : goal.invariant-loop-number
invariant-loop-number g l =
    Appends (g.W.Write.contents l.initial.out) (g.W.Write.contents l.out)
    (comma_joined (map (related_location l.source.name.now l.source.text.now l.range) (take l.number l.notes)))
