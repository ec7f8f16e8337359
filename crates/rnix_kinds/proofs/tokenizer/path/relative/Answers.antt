use Rattle.{std.proofs.{Common.arith, lemmas.List.Sums.prefix_len-le-length}, rnix_kinds.specs.declared.tokenizer.text.Class.TheVariants.Step}
use Rattle.rnix_kinds.specs.Lexical.Classes.{class_test}
use Rattle.rnix_kinds.proofs.tokenizer.path.relative.Goals as goal

pub goes_on_as_path-requires : goal.goes_on_as_path-requires
goes_on_as_path-requires c = omega (arith, prefix_len-le-length (class_test Step) c.args.text.now, c.requires)
