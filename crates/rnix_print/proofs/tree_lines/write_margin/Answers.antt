use Rattle.{std.{proofs.Common.{List, ℕ, subst}, specs.Io.KnownBytes.Appends}, rnix_print.proofs.WalkLines.margin_spaces}
use Rattle.rnix_print.proofs.tree_lines.write_margin.Goals as goal

pub returns-in_ok-write_all : goal.returns-in_ok-write_all
returns-in_ok-write_all g c =
    subst (λ (bytes : List ℕ). Appends (g.W.Write.contents c.args.out.now) (g.W.Write.contents c.write_all.new.self) bytes)
    (margin_spaces c.args.depth c.if-depth-le-INDENTED.true) c.in_ok-write_all.ensures.bytes
