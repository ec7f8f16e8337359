use Rattle.rnix_reparse.specs.ParsedText.{IsParsedText}
use Rattle.nix_workloads.proofs.press.press_in_place.Given as goal

abbrev pub invariant-loop-press : goal.invariant-loop-press
invariant-loop-press l = IsParsedText l.parse
