-- The result of an update of a text in which a single entry defines the attribute.
use Rattle.std.proofs.Common.{◌≡◌, ℕ, List, [], ◌∷◌, false, inl, sym, subst}
use Rattle.rnix_green.specs.Tree.{Located}
use Rattle.nix_update.specs.declared.{outcome.{Attempt.{Attempt}, Outcome.{Outcome}}, request.Update.{Update}, steps.PathStep.{PathStep}, definitions.Definition.{Definition}}
use Rattle.nix_update.specs.{PathSteps.{definitions_in}, Updated.{IfMade, IsDefinitionUpdated, IsOutcome, outcome_of}}
use Rattle.nix_update.specs.declared.outcome.Attempt.TheVariants as attempt

-- the result of an attempt on that entry is an outcome of the update
pub defined_updated : (update : Update) (names : List (List ℕ)) (path starts : List ℕ) (steps : List PathStep) (text : List ℕ) (root : Located)
    (definition : Definition) (attempted : Attempt) (outcome : Outcome) → definitions_in names false steps ≡ definition ∷ [] →
    outcome ≡ outcome_of attempted → IfMade (IsDefinitionUpdated update.action update names steps text root definition) attempted →
    IsOutcome update names path starts steps text root outcome
defined_updated update names path starts steps text root definition (attempt.Made made) outcome only is updated =
    subst (IsOutcome update names path starts steps text root) (sym is) (inl record { definition = definition; only = only; is_updated = updated })
defined_updated update names path starts steps text root definition (attempt.Refused refused) outcome only is updated =
    subst (IsOutcome update names path starts steps text root) (sym is) tt
