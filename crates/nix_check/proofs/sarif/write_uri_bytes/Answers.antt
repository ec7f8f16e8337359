use Rattle.nix_check.{specs.AsSarif.uri_byte, proofs.ListedPieces.bytes_more}
use Rattle.nix_check.proofs.sarif.write_uri_bytes.Goals as goal

pub loop-byte-preserved : goal.loop-byte-preserved
loop-byte-preserved g c =
    bytes_more uri_byte c.args.bytes.now c.loop-byte.byte-index 0 (g.W.Write.contents c.args.out.now) (g.W.Write.contents c.loop-byte.out)
    (g.W.Write.contents c.write_uri_byte.new.out) c.loop-byte-test.true c.loop-byte.invariant c.in_ok-write_uri_byte.ensures
