use Rattle.std.{proofs.Common.{map, take}, specs.Io.KnownBytes.Appends}
use Rattle.nix_check.specs.{Listed.comma_joined, AsJson.note_object}
use Rattle.nix_check.proofs.json.write_notes.Given as goal

-- the notes so far are written
abbrev pub invariant-loop-number : goal.invariant-loop-number
invariant-loop-number g l =
    Appends (g.W.Write.contents l.initial.out) (g.W.Write.contents l.out)
    (comma_joined (map (note_object l.source.text.now l.range) (take l.number l.notes)))
