use Rattle.rnix_reparse.specs.ParsedText.{IsParsedText}
use Rattle.nix_workloads.proofs.again.edit_again.Given as goal

abbrev pub invariant-loop-edit : goal.invariant-loop-edit
invariant-loop-edit l = IsParsedText l.last
