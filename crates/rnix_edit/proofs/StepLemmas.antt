-- Comparing the steps of walks.
use Rattle.std.proofs.Common.{◌≡◌, ℕ, List, [], ◌∷◌, ◌++◌, length, drop, Bool, true, false, sym, ap, ◌∙◌, arith, Option, Some, None, refl}
use Rattle.std.proofs.{lemmas.{Bool.false≢true}}
use Rattle.std.specs.{Prelude.{◌||◌, not, is_some, MatchOption, if◌then◌else◌}, Bool.Decides}
use Rattle.rnix_green.specs.{Walk.Event}
use Rattle.rnix_edit.specs.declared.node_range.NodeRange.{NodeRange}
use Rattle.rnix_edit.specs.declared.steps.Step.{Step as Made}
use Rattle.rnix_edit.specs.Steps.{Step, step_of, leaves, events_after}
use Rattle.rnix_edit.specs.Steps.{is_exited, AreComments}

-- one more event before the node is left
pub after_more : (target : NodeRange) (events rest all : List Event) (event : Event) → events_after target events ≡ all → events ≡ event ∷ rest →
    leaves target event ≡ false → events_after target rest ≡ all
after_more target events rest all event so_far next fails =
    sym (ap (events_after target) next ∙ ap (λ b. if b then rest else events_after target rest) fails) ∙ so_far

-- the node is left: all remaining events follow it
pub after_found : (target : NodeRange) (events rest all : List Event) (event : Event) → events_after target events ≡ all → events ≡ event ∷ rest →
    leaves target event ≡ true → rest ≡ all
after_found target events rest all event so_far next found =
    sym (ap (events_after target) next ∙ ap (λ b. if b then rest else events_after target rest) found) ∙ so_far

-- one more event that does not leave the node
pub exited_more : (target : NodeRange) (events rest : List Event) (all : Bool) (event : Event) → is_exited target events ≡ all → events ≡ event ∷ rest →
    leaves target event ≡ false → is_exited target rest ≡ all
exited_more target events rest all event so_far next fails =
    sym (ap (is_exited target) next ∙ ap (λ b. b || is_exited target rest) fails) ∙ so_far

-- the node is left
pub exited_found : (target : NodeRange) (events rest : List Event) (all : Bool) (event : Event) → is_exited target events ≡ all → events ≡ event ∷ rest →
    leaves target event ≡ true → true ≡ all
exited_found target events rest all event so_far next found =
    sym (ap (is_exited target) next ∙ ap (λ b. b || is_exited target rest) found) ∙ so_far

-- if one walk ends, both have the same steps exactly if the other ends too
pub walks_end : (a b whole_a whole_b : List Step) (ended : Bool) → (a ≡ b → whole_a ≡ whole_b) → (whole_a ≡ whole_b → a ≡ b) → a ≡ [] →
    Decides ended (b ≡ []) → Decides ended (whole_a ≡ whole_b)
walks_end a b whole_a whole_b ended there back end tested =
    (λ is. there (end ∙ sym (tested.0 is)), λ same. tested.1 (sym (back same) ∙ end))

-- if no step comes next, no steps remain
pub none_tested : (found : Option Made) (none : Bool) (steps remaining : List Step)
    → MatchOption found (steps ≡ []) (λ step. steps ≡ step_of step ∷ remaining) →
    is_some found ≡ not none → Decides none (steps ≡ [])
none_tested None true steps remaining none is = (λ _. none, λ _. refl)
none_tested None false steps remaining none is = absurd (false≢true is)
none_tested (Some step) true steps remaining some is = absurd (false≢true (sym is))
none_tested (Some step) false steps remaining some is = (λ no. absurd (false≢true no), λ none. absurd (omega (arith, ap length some, ap length none)))

-- if both walks take the same step, and their remaining steps are the same, all their steps are
pub both_passed : (x y : Step) (a b all_a all_b : List Step) → all_a ≡ x ∷ a → all_b ≡ y ∷ b → x ≡ y → a ≡ b → all_a ≡ all_b
both_passed x y a b all_a all_b first second same rests = cc

-- if all steps are the same, so are the remaining ones
pub both_remaining : (x y : Step) (a b all_a all_b : List Step) → all_a ≡ x ∷ a → all_b ≡ y ∷ b → all_a ≡ all_b → a ≡ b
both_remaining x y a b all_a all_b first second same = cc

-- the steps of one walk begin with those of another exactly if the remaining ones do
pub record RestContinues (first all first_remaining all_remaining : List Step) : Type 0 where
  pub there : (rest : List Step) → all_remaining ≡ first_remaining ++ rest → all ≡ first ++ rest
  pub back : (rest : List Step) → all ≡ first ++ rest → all_remaining ≡ first_remaining ++ rest

-- the steps begin with `count` comments exactly if the remaining steps begin with the remaining number of comments
pub record RestHasComments (count : ℕ) (all : List Step) (remaining : ℕ) (steps : List Step) : Type 0 where
  pub there : AreComments remaining steps → AreComments count all
  pub back : AreComments count all → AreComments remaining steps
  pub rest : drop remaining steps ≡ drop count all
