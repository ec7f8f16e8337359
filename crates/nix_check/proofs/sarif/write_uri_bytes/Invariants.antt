use Rattle.std.{proofs.Common.take, specs.{List.flat_map, Io.KnownBytes.Appends}}
use Rattle.nix_check.specs.AsSarif.{uri_byte}
use Rattle.nix_check.proofs.sarif.write_uri_bytes.Given as goal

-- the escapes of the bytes so far are written
abbrev pub invariant-loop-byte : goal.invariant-loop-byte
invariant-loop-byte g l =
    Appends (g.W.Write.contents l.initial.out) (g.W.Write.contents l.out) (flat_map uri_byte (take l.byte-index l.bytes))
