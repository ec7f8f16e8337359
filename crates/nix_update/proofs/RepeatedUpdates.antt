-- Updates that are repeated.
use Rattle.std.proofs.Common.{◌≡◌, ℕ, List, subst, sym}
use Rattle.nix_update.specs.declared.{outcome.{Attempt.{Attempt}, Refused.{Refused}}, request.Update.{Update}}
use Rattle.nix_update.specs.declared.outcome.Attempt.TheVariants as attempt
use Rattle.nix_update.specs.declared.outcome.Outcome.TheVariants as outcome
use Rattle.nix_update.specs.declared.outcome.Reason.TheVariants as reason
use Rattle.nix_update.specs.{Updated.{IfMade}, NotUpdated.{IfRefused}, Results.{IsUpdated}}
use Rattle.nix_update.specs.FullUpdates.{IsRepeatedTo, IsRepeatedToEnd, IsNotRepeatedToEnd}

-- an update is repeated to the end, if it is refused then because no element is left
pub to_end : (update : Update) (first text : List ℕ) (refused : Refused) (tried : Attempt) → IsRepeatedTo update first text →
    IsUpdated update text (outcome.Refused refused) → IfMade (λ made. (made ≡ text) × (refused.reason ≡ reason.NoElement)) tried →
    IfMade (IsRepeatedToEnd update first) tried
to_end update first text refused (attempt.Made made) repeated is_refused is = record {
  repeated = subst (IsRepeatedTo update first) (sym is.0) repeated;
  refused = refused;
  is_refused = subst (λ t. IsUpdated update t (outcome.Refused refused)) (sym is.0) is_refused;
  none = is.1;
}
to_end update first text refused (attempt.Refused other) repeated is_refused is = tt

-- it is not, if it is refused for another reason
pub not_to_end : (update : Update) (first text : List ℕ) (refused : Refused) (tried : Attempt) → IsRepeatedTo update first text →
    IsUpdated update text (outcome.Refused refused) → IfRefused (λ why. (why ≡ refused.reason) × ¬ (why ≡ reason.NoElement)) tried →
    IfRefused (IsNotRepeatedToEnd update first) tried
not_to_end update first text refused (attempt.Made made) repeated is_refused is = tt
not_to_end update first text refused (attempt.Refused other) repeated is_refused is =
    record { made = text; repeated = repeated; refused = refused; is_refused = is_refused; why_is = is.0; is_other = is.1 }
