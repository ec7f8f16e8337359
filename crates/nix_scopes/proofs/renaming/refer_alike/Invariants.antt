use Rattle.{std.{proofs.Common.take, specs.List.AllZip}, nix_scopes.specs.Alike.{rename_by, RefersAlike}}
use Rattle.nix_scopes.proofs.renaming.refer_alike.Given as goal

abbrev pub invariant-loop-index : goal.invariant-loop-index
invariant-loop-index l = AllZip (RefersAlike (rename_by l.name)) (take l.index l.references) (take l.index l.others)
