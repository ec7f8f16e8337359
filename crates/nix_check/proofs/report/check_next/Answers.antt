use Rattle.nix_check.proofs.CheckedFiles.{counted_before}
use Rattle.nix_check.proofs.report.check_next.Goals as goal

pub returns : goal.returns
returns g c =
    counted_before c.args.style (g.R.TextReader.texts c.args.reader.now) c.args.name.now c.args.tally c.in_ok-next.next (g.W.Write.contents c.args.out.now)
    (g.W.Write.contents c.check_file.new.out) (g.W.Write.contents c.flush.new.self) c.in_ok-next.ensures c.flush.ensures.bytes
