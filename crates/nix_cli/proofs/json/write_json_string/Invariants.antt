use Rattle.std.{proofs.Common.{◌≤◌, ◌-◌, ◌++◌, length, take}, specs.{Prelude.codes, List.flat_map, Io.KnownBytes.Appends}}
use Rattle.nix_cli.specs.JsonString.{escape}
use Rattle.nix_cli.proofs.json.write_json_string.Given as goal

-- the quote and the bytes so far are written
abbrev pub invariant-loop-written : goal.invariant-loop-written
invariant-loop-written g l =
    (l.written ≤ length l.bytes)
    × Appends (g.W.Write.contents l.fn.out) (g.W.Write.contents l.out) (codes "\"" ++ flat_map escape (take l.written l.bytes))

abbrev pub decreases-loop-written : goal.decreases-loop-written
decreases-loop-written g l = length l.bytes - l.written
