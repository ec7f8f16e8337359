use Rattle.std.proofs.Common.{◌≡◌, ◌∙◌, ap, sym, refl, arith, length, true}
use Rattle.std.proofs.lemmas.List.{length-map}
use Rattle.std.specs.List.{range_with_len}
use Rattle.rnix_grammar.specs.Fault.{fault_of}
use Rattle.rnix.specs.ParseResult.{root_of}
use Rattle.nix_diagnostics.proofs.MistakeLemmas.{starts_within}
use Rattle.nix_diagnostics.proofs.diagnosis.Diagnosis.of_names.Goals as goal

pub returns : goal.returns
returns c =
    let read = c.args.read.now in
    let count : length c.errors.result.now ≡ length read.faults = sym (length-map c.errors.result.now fault_of) ∙ ap length c.errors.ensures in
    record {
      root_is = refl;
      faults_are = refl;
      starts_are = c.in_ok-starts.ensures ∙ ap (range_with_len 0) count;
      within = starts_within true (root_of read) read.faults;
      end = λ other. absurd (grind (arith, sym other ∙ c.requires));
    }
