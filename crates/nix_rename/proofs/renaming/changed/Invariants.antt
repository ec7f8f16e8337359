use Rattle.{std.proofs.Common.{map, take}, rnix_green.specs.Range.bounds_of, nix_rename.proofs.ChangedLemmas.IsDraftOf}
use Rattle.nix_rename.proofs.renaming.changed.Given as goal

abbrev pub invariant-loop-occurrence : goal.invariant-loop-occurrence
invariant-loop-occurrence l = IsDraftOf l.text (map bounds_of (take l.occurrence-index l.occurrences)) l.old l.new l.edits
