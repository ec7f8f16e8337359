-- The result of several updates, one after another.
use Rattle.std.specs.Prelude.{◌≡◌, ℕ, List, [], ◌∷◌, take, slice_get, Some, string_bytes}
use Rattle.nix_update.specs.declared.outcome.Outcome.{Outcome}
use Rattle.nix_update.specs.declared.outcome.Outcome.TheVariants as outcome
use Rattle.nix_update.specs.declared.outcome.Refused.{Refused}
use Rattle.nix_update.specs.declared.request.Update.{Update}
use Rattle.nix_update.specs.declared.several.Several.{Several}
use Rattle.nix_update.specs.declared.several.Several.TheVariants as several
use Rattle.nix_update.specs.Results.{HasNew}
use Rattle.nix_update.specs.FullUpdates.{IsFullyUpdated}

-- an update makes a new text of a text
abbrev pub IsFullyUpdatedTo : Update → List ℕ → List ℕ → Type 0
IsFullyUpdatedTo update text made = (found : Outcome) × IsFullyUpdated update text found × HasNew (λ new. new ≡ made) found

-- several updates make a new text of a text: each is an update of the text that the one before makes
abbrev pub AreUpdatedTo : List Update → List ℕ → List ℕ → Type 0
AreUpdatedTo [] text made = made ≡ text
AreUpdatedTo (update ∷ updates) text made = (next : List ℕ) × IsFullyUpdatedTo update text next × AreUpdatedTo updates next made

-- an update with a number is refused: it is not an update of the text that those before it make
pub record IsOneRefused (updates : List Update) (text : List ℕ) (number : ℕ) (refused : Refused) : Type 0 where
  pub update : Update
  pub update_is : slice_get updates number ≡ Some update
  pub made : List ℕ
  pub before : AreUpdatedTo (take number updates) text made
  pub is_refused : IsFullyUpdated update made (outcome.Refused refused)

-- a text is updated by each of several updates, or one of them is refused
abbrev pub AreUpdatedAll : List Update → List ℕ → Several → Type 0
AreUpdatedAll updates text (several.Updated made in_let) = AreUpdatedTo updates text (string_bytes made)
AreUpdatedAll updates text (several.Refused number refused) = IsOneRefused updates text number refused
