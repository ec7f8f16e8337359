use Rattle.std.proofs.Common.{◌≡◌, ◌∙◌, List, ℕ, ap, sym, subst, refl, rules, true}
use Rattle.std.specs.List.{list_all}
use Rattle.std.proofs.lemmas.List.Folds.{list_all-map}
use Rattle.rnix_grammar.specs.Fault.{fault_of}
use Rattle.rnix.specs.ParseResult.{root_of}
use Rattle.nix_diagnostics.specs.{TokenErrors.is_repeated_name, Described.Describes, Mistakes.starts}
use Rattle.nix_diagnostics.proofs.{MistakeLemmas.starts_within, RepeatedNameLemmas.same_starts}
use Rattle.nix_diagnostics.proofs.diagnosis.Diagnosis.new.Goals as goal

pub of_names-requires : goal.of_names-requires
of_names-requires c =
    ap (list_all is_repeated_name) (sym c.errors-errors.ensures) ∙ list_all-map is_repeated_name fault_of c.errors-errors.result.now
    ∙ sym c.are_repeated_names.ensures ∙ c.if-are_repeated_names.true

pub returns-then-are_repeated_names : goal.returns-then-are_repeated_names
returns-then-are_repeated_names c =
    let read = c.args.read.now in
    let names : list_all is_repeated_name read.faults ≡ true =
    ap (list_all is_repeated_name) (sym c.errors-errors.ensures) ∙ list_all-map is_repeated_name fault_of c.errors-errors.result.now
    ∙ sym c.are_repeated_names.ensures ∙ c.if-are_repeated_names.true in
    subst (λ (ns : List ℕ). Describes (root_of read) read.faults ns c.in_ok-found.found) (same_starts c.args.is_each (root_of read) read.faults names)
    c.in_ok-found.ensures

pub returns : goal.returns
returns c =
    let read = c.args.read.now in
    record {
      root_is = refl;
      faults_are = refl;
      starts_are = c.in_ok-starts.ensures ∙ (λ k. starts c.args.is_each (c.syntax-root.ensures k) (c.errors-errors.ensures k));
      within = starts_within c.args.is_each (root_of read) read.faults;
      end = λ other. search rules;
    }
