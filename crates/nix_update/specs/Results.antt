-- The result of an update: the new text, or why there is none.
use Rattle.std.specs.Prelude.{◌≡◌, ◌<◌, ℕ, List, [], length, string_bytes}
use Rattle.rnix_kinds.specs.Lexical.Tokens.{tokens_of}
use Rattle.rnix_green.specs.Tree.{Tree, Located}
use Rattle.rnix_grammar.specs.Parsed.{IsParsed}
use Rattle.rnix.specs.ParseResult.{Reading, root_of}
use Rattle.rnix_edit.specs.Edited.{root_in, IsReadWithErrors}
use Rattle.nix_attributes.specs.Repeated.{repeated_in}
use Rattle.nix_update.specs.declared.outcome.Outcome.{Outcome}
use Rattle.nix_update.specs.declared.outcome.Outcome.TheVariants as outcome
use Rattle.nix_update.specs.declared.outcome.Reason.{Reason}
use Rattle.nix_update.specs.declared.outcome.Reason.TheVariants as reason
use Rattle.nix_update.specs.declared.request.Update.{Update}
use Rattle.nix_update.specs.declared.steps.PathStep.{PathStep}
use Rattle.nix_update.specs.Path.{IsPath, IsNoPath}
use Rattle.nix_update.specs.PathSteps.{ArePathSteps}
use Rattle.nix_update.specs.NotUpdated.{IsAttributeRefused}
use Rattle.nix_update.specs.Updated.{IsOutcome, IsOutcomeOf}

-- a new text has more names that define an attribute again than the old one, given the root of the old one
pub record HasMoreRepeated (root : Located) (made : List ℕ) : Type 0 where
  pub read : Reading
  pub is_read : IsParsed (tokens_of made) read.tree read.faults
  pub more : length (repeated_in root) < length (repeated_in (root_of read))

-- there is a new text, and P holds for it
abbrev pub HasNew : (List ℕ → Type 0) → Outcome → Type 0
HasNew P (outcome.Updated made) = P (string_bytes made)
HasNew P (outcome.SetInLet made offset) = P (string_bytes made)
HasNew P (outcome.Refused refused) = ⊥

-- why the attribute of a path is not updated in a text without errors: it cannot be, or the new text would define an attribute again
pub data IsUpdateRefused (update : Update) (names : List (List ℕ)) (path starts : List ℕ) (steps : List PathStep) (text : List ℕ) (root : Located)
    (why : Reason) : Type 0 where
  attribute : IsAttributeRefused update names path starts steps text root why → IsUpdateRefused update names path starts steps text root why
  repeated : (found : Outcome) → why ≡ reason.Repeated → IsOutcome update names path starts steps text root found → HasNew (HasMoreRepeated root) found →
      IsUpdateRefused update names path starts steps text root why

-- why an attribute of a text is not updated, where the text and the path can be read
pub record IsRefusedOf (update : Update) (text : List ℕ) (why : Reason) : Type 0 where
  pub names : List (List ℕ)
  pub starts : List ℕ
  pub is_path : IsPath update.path.now names starts
  pub tree : Tree
  pub is_read : IsParsed (tokens_of text) tree []
  pub steps : List PathStep
  pub are_steps : ArePathSteps names (root_in tree) steps
  pub is_refused : IsUpdateRefused update names update.path.now starts steps text (root_in tree) why

-- why a text is not updated
pub data IsRefused (update : Update) (text : List ℕ) (why : Reason) : Type 0 where
  no_path : why ≡ reason.NotAPath → IsNoPath update.path.now → IsRefused update text why
  no_nix : why ≡ reason.NotNix → IsReadWithErrors text → IsRefused update text why
  not_updated : IsRefusedOf update text why → IsRefused update text why

-- the result of an update: a new text, or the reason why there is none
abbrev pub IsUpdated : Update → List ℕ → Outcome → Type 0
IsUpdated update text (outcome.Updated made) = IsOutcomeOf update text (outcome.Updated made)
IsUpdated update text (outcome.SetInLet made offset) = IsOutcomeOf update text (outcome.SetInLet made offset)
IsUpdated update text (outcome.Refused refused) = IsRefused update text refused.reason
