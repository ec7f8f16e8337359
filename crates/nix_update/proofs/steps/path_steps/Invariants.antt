use Rattle.std.{proofs.Common.map, specs.Prelude.string_bytes}
use Rattle.nix_update.proofs.PathStepLemmas.{AreStepsUpTo}
use Rattle.nix_update.proofs.steps.path_steps.Given as goal

abbrev pub invariant-loop-number : goal.invariant-loop-number
invariant-loop-number l = AreStepsUpTo (map string_bytes l.names) l.root l.steps.items l.number
