-- Equality of steps.
use Rattle.std.specs.Prelude.{◌≡◌, ◌&&◌, Bool}
use Rattle.std.specs.Bool.{Decides, beq}
use Rattle.std.specs.Cmp.{IsEquivalence, booleans_Decides}
use Rattle.std.specs.Str.{bytes_eq}
use Rattle.std.proofs.Common.{ap}
use Rattle.std.proofs.lemmas.Bool.Decides.{Decides-like, Decides-and}
use Rattle.std.proofs.lemmas.Slice.Eq.{bytes_eq-Decides}
use Rattle.rnix_green.specs.Equality.{same_kind, same_kind-decides, equivalence_from}
use Rattle.rnix_edit.specs.declared.steps.Step.{Step as Made}
use Rattle.rnix_edit.specs.Steps.{Step, step_of, same_step}

-- the test decides whether two steps are equal
pub same_step_decides : (a b : Step) → Decides (same_step a b) (a ≡ b)
same_step_decides a b =
    Decides-like (same_step a b) (λ e i. record { enters = e.0 i; kind = e.1.0 i; text = e.1.1 i })
    (λ e. (ap (λ (x : Step). x.enters) e, (ap (λ (x : Step). x.kind) e, ap (λ (x : Step). x.text) e)))
    (Decides-and (beq a.enters b.enters) (same_kind a.kind b.kind && bytes_eq a.text b.text) (booleans_Decides a.enters b.enters)
    (Decides-and (same_kind a.kind b.kind) (bytes_eq a.text b.text) (same_kind-decides a.kind b.kind) (bytes_eq-Decides a.text b.text)))

-- two steps of the program are equal
abbrev pub same_made : Made → Made → Bool
same_made a b = same_step (step_of a) (step_of b)

-- equality of steps is an equivalence
pub steps_equal : IsEquivalence same_made
steps_equal = record {
  refl = λ x. (equivalence_from same_step same_step_decides).refl (step_of x);
  symm = λ x y. (equivalence_from same_step same_step_decides).symm (step_of x) (step_of y);
  congr = λ x y z. (equivalence_from same_step same_step_decides).congr (step_of x) (step_of y) (step_of z);
}
