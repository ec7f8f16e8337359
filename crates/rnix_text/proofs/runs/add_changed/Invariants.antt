use Rattle.std.{proofs.Common.{◌≡◌, ◌++◌, List, drop, map, string_bytes}, specs.Str.IsCharBoundary}
use Rattle.rnix_text.specs.{Edit.change_of, Changes.{Change, AreInOrder, changed_from}, Runs.end_of}
use Rattle.rnix_text.proofs.runs.add_changed.Given as goal

abbrev pub invariant-loop-edit : goal.invariant-loop-edit
invariant-loop-edit l = record {
  order : AreInOrder l.text l.at (map change_of (drop l.edit-index l.run));
  boundary : IsCharBoundary l.text l.at;
  end : end_of l.at (drop l.edit-index l.run) ≡ end_of l.start l.run;
  made : (cs : List Change) → string_bytes l.made ++ changed_from l.at (map change_of (drop l.edit-index l.run) ++ cs) l.text
      ≡ string_bytes l.fn.made ++ changed_from l.start (map change_of l.run ++ cs) l.text;
}
