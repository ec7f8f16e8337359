use Rattle.nix_scopes.specs.Bound.{references_of}
use Rattle.nix_update.specs.SameNames.{IsSameReference, is_outside}
use Rattle.nix_update.proofs.SameNamesLemmas.{RestDecides}
use Rattle.nix_update.proofs.meaning.first_difference.Given as goal

-- the remaining references of both texts mean the same exactly if all do
abbrev pub invariant-loop-reference : goal.invariant-loop-reference
invariant-loop-reference l =
    RestDecides (IsSameReference l.change l.longer l.shorter) (is_outside l.change) (references_of l.longer) (references_of l.shorter) l.reference-index l.next
