use Rattle.{std.proofs.Common.take, nix_lints.specs.UnusedNames.AreMarked}
use Rattle.nix_lints.proofs.unused.used_bindings.Given as goal

abbrev pub invariant-loop-reference : goal.invariant-loop-reference
invariant-loop-reference l = AreMarked l.count (take l.reference-index l.references) l.is_used.items
