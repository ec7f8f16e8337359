use Rattle.{std.{proofs.Common.take, specs.List.AllZip}, nix_scopes.specs.Alike.{rename_by, IsBoundAlike}}
use Rattle.nix_scopes.proofs.renaming.are_bound_alike.Given as goal

abbrev pub invariant-loop-index : goal.invariant-loop-index
invariant-loop-index l = AllZip (IsBoundAlike (rename_by l.name)) (take l.index l.bindings) (take l.index l.others)
