use Rattle.std.proofs.Common.{◌≡◌, [], take, map}
use Rattle.rnix_grammar.specs.Fault.{fault_of}
use Rattle.rnix.specs.WholeTree.{IsInTree}
use Rattle.nix_diagnostics.specs.{Known.FitsErrors, Following.firsts_from}
use Rattle.nix_diagnostics.proofs.diagnosis.first_numbers.Given as goal

-- the errors that begin runs so far, and what is known of the errors so far
abbrev pub invariant-loop-number : goal.invariant-loop-number
invariant-loop-number l = record {
  firsts : l.found.items ≡ firsts_from l.root (map fault_of l.errors) [] (map fault_of (take l.number l.errors));
  known : FitsErrors l.root (map fault_of l.errors) (map fault_of (take l.number l.errors)) l.folding;
  earlier : IsInTree l.root l.earlier;
}
