use Rattle.{std.{proofs.Common.{◌≡◌, ◌++◌, drop, map, string_bytes}, specs.Str.IsCharBoundary}, rnix_text.specs.{Edit.change_of, Changes.AreInOrder}}
use Rattle.rnix_text.specs.{Changes.changed_from, Runs.edits_of}
use Rattle.rnix_text.proofs.runs.changed.Given as goal

abbrev pub invariant-loop-run : goal.invariant-loop-run
invariant-loop-run l = record {
  order : AreInOrder l.text l.at (map change_of (edits_of (drop l.run-index l.runs)));
  boundary : IsCharBoundary l.text l.at;
  made : string_bytes l.made ++ changed_from l.at (map change_of (edits_of (drop l.run-index l.runs))) l.text
      ≡ changed_from 0 (map change_of (edits_of l.runs)) l.text;
}
