use Rattle.std.proofs.Common.{◌≡◌, drop, map}
use Rattle.rnix_grammar.specs.Fault.{fault_of}
use Rattle.nix_diagnostics.specs.Ends.{ends_early}
use Rattle.nix_diagnostics.proofs.ends.ends_early.Given as goal

abbrev pub invariant-loop-error : goal.invariant-loop-error
invariant-loop-error l =
    ends_early (map fault_of (drop l.error-index l.errors)) ≡ ends_early (map fault_of l.errors)
