use Rattle.{std.proofs.Common.{◌≡◌, length}, rnix_kinds.specs.Lexical.Tokens.without_ended_paths}
use Rattle.rnix_kinds.proofs.tokenizer.modes.Modes.leave_ended_paths.Given as goal

abbrev pub invariant-loop-self : goal.invariant-loop-self
invariant-loop-self l = without_ended_paths l.self l.text ≡ without_ended_paths l.initial.self l.text

abbrev pub decreases-loop-self : goal.decreases-loop-self
decreases-loop-self l = length l.self
