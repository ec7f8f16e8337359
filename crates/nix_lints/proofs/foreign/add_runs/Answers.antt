use Rattle.std.proofs.{Common.map, lemmas.Str.IsCharBoundary-start}
use Rattle.nix_lints.{specs.ForeignSpaces.run_of, proofs.ForeignLemmas.{no_byte, byte_next, boundary_next}}
use Rattle.nix_lints.proofs.foreign.add_runs.Goals as goal

pub loop-index-init : goal.loop-index-init
loop-index-init c = record {
  runs = no_byte c.args.start c.args.text.now (map run_of c.args.found.now.items);
  boundary = λ _. IsCharBoundary-start c.args.text.now c.utf8.text;
}

pub loop-index-preserved : goal.loop-index-preserved
loop-index-preserved c = record {
  runs = byte_next c.args.start c.loop-index.index c.loop-index.is_inside c.in_ok-is_inside.is_inside c.args.text.now (map run_of c.loop-index.found.items)
      (map run_of c.add_run.new.found.items) _ c.loop-index-test.true c.loop-index.invariant.runs c.in_ok-is_inside.ensures.byte c.in_ok-is_inside.ensures.runs;
  boundary = boundary_next c.args.text.now c.loop-index.index c.in_ok-is_inside.is_inside c.utf8.text c.loop-index-test.true c.in_ok-is_inside.ensures.byte;
}
