use Rattle.std.proofs.Common.{◌≡◌, ◌∙◌, length, map, sym, ap, arith}
use Rattle.std.proofs.lemmas.{List.length-map, Bool.Decides.nat_tests}
use Rattle.std.specs.Prelude.{string_bytes}
use Rattle.rnix_grammar.specs.Fault.{fault_of}
use Rattle.rnix.specs.ParseResult.{root_of}
use Rattle.nix_lints.proofs.ReportedLemmas.{mistakes_reported}
use Rattle.nix_lints.proofs.reported.Reported.new.Goals as goal

pub returns-then-not-is_empty : goal.returns-then-not-is_empty
returns-then-not-is_empty c =
    let read = c.args.read.now in
    let errors = c.errors.result.now in
    mistakes_reported c.args.is_each (map string_bytes c.args.disabled.now) (root_of read) read.faults c.in_ok-diagnosis.diagnosis
    (λ none.
    let no_error : length errors ≡ 0 = sym (length-map errors fault_of) ∙ ap length (c.errors.ensures ∙ none) in
    absurd (grind (arith, nat_tests, no_error, c.is_empty.ensures, c.if-not-is_empty.true)))
    c.in_ok-diagnosis.ensures
