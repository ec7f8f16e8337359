use Rattle.std.proofs.Common.{◌≡◌, drop}
use Rattle.nix_lints.specs.Ignored.{without_blanks}
use Rattle.nix_dead.proofs.comments.without_blanks.Given as goal

-- the bytes that follow decide
abbrev pub invariant-loop-number : goal.invariant-loop-number
invariant-loop-number l = without_blanks (drop l.number l.line) ≡ without_blanks l.line
