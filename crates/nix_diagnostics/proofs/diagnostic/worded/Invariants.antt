use Rattle.std.proofs.Common.{◌≤◌, ℕ, List, take, length}
use Rattle.rnix_green.specs.Tree.{Located}
use Rattle.rnix_grammar.specs.Fault.{Fault}
use Rattle.nix_diagnostics.specs.{Mistakes.{mistakes_at, AreWorded}, Described.Describes}
use Rattle.nix_diagnostics.proofs.diagnostic.worded.Given as goal

-- the diagnostics so far, and what is still known of the text
abbrev pub invariant-loop-number : goal.invariant-loop-number
invariant-loop-number l =
    (root : Located) (faults : List Fault) (starts : List ℕ) → Describes root faults starts l.initial.diagnosis → l.count ≤ length starts →
    AreWorded (take l.number (mistakes_at root faults starts)) l.found.items × Describes root faults starts l.diagnosis
