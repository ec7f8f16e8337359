use Rattle.std.{proofs.Common.take, specs.{List.flat_map, Io.KnownBytes.Appends}}
use Rattle.nix_dead.specs.Report.{name_output}
use Rattle.nix_dead.proofs.report.write_names.Given as goal

-- the lines of the names so far are written
abbrev pub invariant-loop-name : goal.invariant-loop-name
invariant-loop-name g l =
    Appends (g.W.Write.contents l.initial.out) (g.W.Write.contents l.out)
    (flat_map (name_output l.is_json l.source.name.now l.source.text.now) (take l.name-index l.names))
