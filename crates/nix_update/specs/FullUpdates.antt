-- The result of an update that is repeated: until no element is left to remove.
use Rattle.std.specs.Prelude.{◌≡◌, ℕ, List, string_bytes}
use Rattle.nix_update.specs.declared.outcome.Attempt.{Attempt}
use Rattle.nix_update.specs.declared.outcome.Attempt.TheVariants as attempt
use Rattle.nix_update.specs.declared.outcome.Outcome.{Outcome}
use Rattle.nix_update.specs.declared.outcome.Outcome.TheVariants as outcome
use Rattle.nix_update.specs.declared.outcome.Reason.{Reason}
use Rattle.nix_update.specs.declared.outcome.Reason.TheVariants as reason
use Rattle.nix_update.specs.declared.outcome.Refused.{Refused}
use Rattle.nix_update.specs.declared.request.Action.TheVariants as action
use Rattle.nix_update.specs.declared.request.Update.{Update}
use Rattle.nix_update.specs.Results.{HasNew, IsUpdated}

-- P holds for the refusal, if an attempt is refused
abbrev pub IfRefusal : (Refused → Type 0) → Attempt → Type 0
IfRefusal P (attempt.Made made) = Unit {0}
IfRefusal P (attempt.Refused refused) = P refused

-- an update makes a new text of a text
abbrev pub IsUpdatedTo : Update → List ℕ → List ℕ → Type 0
IsUpdatedTo update text made = (found : Outcome) × IsUpdated update text found × HasNew (λ new. new ≡ made) found

-- an update makes a new text of a text if it is repeated
pub data IsRepeatedTo (update : Update) (text : List ℕ) : List ℕ → Type 0 where
  begins : IsRepeatedTo update text text
  follows : (middle made : List ℕ) → IsRepeatedTo update text middle → IsUpdatedTo update middle made → IsRepeatedTo update text made

-- an update is repeated until no element is left to remove
pub record IsRepeatedToEnd (update : Update) (text made : List ℕ) : Type 0 where
  pub repeated : IsRepeatedTo update text made
  pub refused : Refused
  pub is_refused : IsUpdated update made (outcome.Refused refused)
  pub none : refused.reason ≡ reason.NoElement

-- why an update is not repeated so: one of the texts that it makes is not updated, for another reason
pub record IsNotRepeatedToEnd (update : Update) (text : List ℕ) (why : Reason) : Type 0 where
  pub made : List ℕ
  pub repeated : IsRepeatedTo update text made
  pub refused : Refused
  pub is_refused : IsUpdated update made (outcome.Refused refused)
  pub why_is : why ≡ refused.reason
  pub is_other : ¬ (why ≡ reason.NoElement)

-- what follows the first update: nothing, or if elements are removed, the same update again and again
pub data IsCompleted (update : Update) (text made : List ℕ) : Type 0 where
  once : ¬ (update.action ≡ action.RemoveItem) → made ≡ text → IsCompleted update text made
  to_end : update.action ≡ action.RemoveItem → IsRepeatedToEnd update text made → IsCompleted update text made

-- why this does not follow
pub record IsNotCompleted (update : Update) (text : List ℕ) (why : Reason) : Type 0 where
  pub removes : update.action ≡ action.RemoveItem
  pub not_repeated : IsNotRepeatedToEnd update text why

-- why a text is not updated fully: it is not updated, or the update is not repeated
pub data IsNotFullyUpdated (update : Update) (text : List ℕ) (refused : Refused) : Type 0 where
  at_first : IsUpdated update text (outcome.Refused refused) → IsNotFullyUpdated update text refused
  later : (made : List ℕ) → IsUpdatedTo update text made → IsNotCompleted update made refused.reason → IsNotFullyUpdated update text refused

-- a text is updated fully, or the reason why it is not
abbrev pub IsFullyUpdated : Update → List ℕ → Outcome → Type 0
IsFullyUpdated update text (outcome.Updated made) =
    (first : List ℕ) × IsUpdatedTo update text first × IsCompleted update first (string_bytes made)
IsFullyUpdated update text (outcome.SetInLet made offset) =
    (first : List ℕ) × IsUpdatedTo update text first × IsCompleted update first (string_bytes made)
IsFullyUpdated update text (outcome.Refused refused) = IsNotFullyUpdated update text refused
