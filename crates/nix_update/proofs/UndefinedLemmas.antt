-- The result of an update of a text in which no entry defines the attribute.
use Rattle.std.proofs.Common.{◌≡◌, ℕ, List, [], false, inr}
use Rattle.std.specs.Prelude.{Result, Ok, Err, IfOk}
use Rattle.rnix_green.specs.Tree.{Located}
use Rattle.nix_update.specs.{declared.{outcome.Outcome.{Outcome}, request.Update.{Update}, steps.PathStep.{PathStep}}, PathSteps.{definitions_in}, Updated.{IsUndefinedUpdated, IsOutcome}}
use Rattle.nix_update.specs.declared.outcome.Outcome.TheVariants as outcome

pub undefined_updated : {E : Type 0} (update : Update) (names : List (List ℕ)) (path starts : List ℕ) (steps : List PathStep) (text : List ℕ) (root : Located)
    (r : Result Outcome E) → definitions_in names false steps ≡ [] → IfOk r (IsUndefinedUpdated update names path starts steps text root)
    → IfOk r (IsOutcome update names path starts steps text root)
undefined_updated update names path starts steps text root (Ok (outcome.Updated made)) none is = inr (none, is)
undefined_updated update names path starts steps text root (Ok (outcome.SetInLet made offset)) none is = (none, is)
undefined_updated update names path starts steps text root (Ok (outcome.Refused refused)) none is = tt
undefined_updated update names path starts steps text root (Err e) none is = tt
