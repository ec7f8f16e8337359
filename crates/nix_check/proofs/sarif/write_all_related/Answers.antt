use Rattle.std.proofs.Common.{arith, subst}
use Rattle.std.specs.Io.KnownBytes.{Appends}
use Rattle.nix_diagnostics.specs.declared.notes.Note.{Note}
use Rattle.nix_check.{specs.AsSarif.related_location, proofs.ListedPieces.one_joined}
use Rattle.nix_check.proofs.sarif.write_all_related.Goals as goal

pub loop-number-preserved : goal.loop-number-preserved
loop-number-preserved g c =
    one_joined (related_location c.args.source.now.name.now c.args.source.now.text.now c.args.range) c.args.notes.now c.loop-number.number
    c.index-notes-number.result (g.W.Write.contents c.args.out.now) (g.W.Write.contents c.loop-number.out) (g.W.Write.contents c.write_comma.new.out)
    (g.W.Write.contents c.write_related.new.out) (omega (arith, c.loop-number-test.true)) c.loop-number.invariant
    c.in_ok-write_comma.ensures
    (subst (λ (note : Note). Appends (g.W.Write.contents c.write_comma.new.out) (g.W.Write.contents c.write_related.new.out)
    (related_location c.args.source.now.name.now c.args.source.now.text.now c.args.range note))
    c.index-notes-number.is c.in_ok-write_related.ensures)
