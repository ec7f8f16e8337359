use Rattle.std.proofs.Common.{◌≡◌, ◌∙◌, List, map, drop, length, Some, ◌+◌, ap, sym}
use Rattle.std.specs.Prelude.{option_map, slice_get}
use Rattle.std.proofs.lemmas.Option.{slice_get_within}
use Rattle.rnix_grammar.specs.Fault.{Fault, fault_of}
use Rattle.nix_diagnostics.specs.{Locations.end_of_items, Following.next_or, Mistakes.mistake_at}
use Rattle.nix_diagnostics.proofs.DescribedLemmas.{none_there, is_error, end_known, one_there, error_there}
use Rattle.nix_diagnostics.proofs.diagnosis.Diagnosis.diagnostic.Goals as goal

pub end_of_run-end-requires : goal.end_of_run-end-requires
end_of_run-end-requires c =
    slice_get_within c.args.self.now.starts.items c.args.number c.in-Some.first
    (ap (λ ns. slice_get ns c.args.number) (sym c.deref.ensures.value) ∙ sym c.number_at.ensures ∙ c.in-Some.is)

pub returns-in_default : goal.returns-in_default
returns-in_default c = λ root faults starts are. (
  are,
  none_there root faults starts c.args.number c.args.self.now are
      (ap (λ ns. slice_get ns c.args.number) (sym c.deref.ensures.value) ∙ sym c.number_at.ensures ∙ c.in_default.is),
)

pub returns-in_default-error_at : goal.returns-in_default-error_at
returns-in_default-error_at c = λ root faults starts are.
    absurd (error_there c.errors.result.now faults c.in-Some.first (c.errors.ensures ∙ are.faults_are)
    (is_error root faults starts c.args.number c.in-Some.first c.args.self.now are
    (ap (λ ns. slice_get ns c.args.number) (sym c.deref.ensures.value) ∙ sym c.number_at.ensures ∙ c.in-Some.is))
    (sym c.error_at.ensures ∙ ap (option_map (λ e. e.now)) c.in_default-error_at.is))

pub returns : goal.returns
returns c = λ root faults starts are.
    let d = c.args.self.now in
    let number = c.args.number in
    let first = c.in-Some.first in
    let end = c.end_of_run-end.result in
    let errors = c.errors.result.now in
    let e = c.in-Some-error_at.error.now in
    let same : map fault_of errors ≡ faults = c.errors.ensures ∙ are.faults_are in
    let is : slice_get d.starts.items number ≡ Some first =
    ap (λ ns. slice_get ns number) (sym c.deref.ensures.value) ∙ sym c.number_at.ensures ∙ c.in-Some.is in
    let there : slice_get errors first ≡ Some e = sym c.error_at.ensures ∙ ap (option_map (λ e. e.now)) c.in-Some-error_at.is in
    let until : end ≡ next_or (length faults) (drop (number + 1) d.starts.items) =
    c.end_of_run-end.ensures ∙ ap (λ (fs : List Fault). next_or (length fs) (drop (number + 1) d.starts.items)) are.faults_are in (
      record { root_is = are.root_is; faults_are = are.faults_are; starts_are = are.starts_are; within = are.within; end = are.end },
      one_there root faults starts number first end errors e d c.in_ok-found.found are same is there until
          (c.in_ok-found.ensures.mistake (λ other. end_known root faults starts errors first e d are same there other ∙ sym (ap end_of_items are.root_is))
          ∙ (λ k. mistake_at (are.root_is k) (fault_of e) first end))
          c.in_ok-found.ensures.message,
    )
