use Rattle.std.proofs.Common.{map, length}
use Rattle.nix_values.specs.PathNames.{name_of}
use Rattle.nix_data.specs.Definitions.{definitions_of}
use Rattle.nix_data.specs.Selection.{selected_in, selection}
use Rattle.nix_values.proofs.EachLemmas.{IsRest}
use Rattle.nix_data.proofs.selection.selection.Given as goal

-- the remaining names select among what is found
abbrev pub invariant-loop-name : goal.invariant-loop-name
invariant-loop-name l = IsRest selected_in (map name_of l.rest) (definitions_of l.found.items) (selection (map name_of l.path) l.root)

abbrev pub decreases-loop-name : goal.decreases-loop-name
decreases-loop-name l = length l.rest
