use Rattle.{std.proofs.{Common.arith, lemmas.List.Sums.prefix_len-le-length}, rnix_base.specs.Indent.is_inside_line}
use Rattle.rnix_base.proofs.indent.line_end.Goals as goal

pub split_at-requires : goal.split_at-requires
split_at-requires c = omega (arith, c.line_len.ensures, prefix_len-le-length is_inside_line c.args.bytes.now)
