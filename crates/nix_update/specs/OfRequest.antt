-- The definitions of updates and refusals, given an update, a path and a place as the program has them.
use Rattle.std.specs.Prelude.{ℕ, List, map, string_bytes}
use Rattle.rnix_green.specs.Tree.{Located}
use Rattle.nix_update.specs.declared.definitions.Definition.{Definition}
use Rattle.nix_update.specs.declared.guard.Site.{Site}
use Rattle.nix_update.specs.declared.outcome.Outcome.{Outcome}
use Rattle.nix_update.specs.declared.outcome.Reason.{Reason}
use Rattle.nix_update.specs.declared.path.Path.{Path}
use Rattle.nix_update.specs.declared.request.Update.{Update}
use Rattle.nix_update.specs.declared.steps.PathStep.{PathStep}
use Rattle.nix_update.specs.Updated.{IsAddedTo, IsAdded, IsUndefinedUpdated, IsOutcome}
use Rattle.nix_update.specs.NotUpdated.{IsRemovalRefused, IsAdditionRefused, IsNotAddedTo, IsNotAdded, IsDefinitionRefused, IsUndefinedRefused}
use Rattle.nix_update.specs.NotUpdated.{IsAttributeRefused}

-- the names of a path
abbrev pub names_of : Path → List (List ℕ)
names_of path = map string_bytes path.names.items

-- the names of the path that leads to a set
abbrev pub names_at : Site → List (List ℕ)
names_at site = map string_bytes site.names.now

-- why a new text with one more entry in a set is refused
abbrev pub IsRefusedWith : Site → List ℕ → Reason → Type 0
IsRefusedWith site made why = IsAdditionRefused (names_at site) site.steps.now site.at site.text.now site.root.now site.set.now made why

-- why a new text without an entry of a set is refused
abbrev pub IsRefusedWithout : Site → Located → List ℕ → Reason → Type 0
IsRefusedWithout site entry made why = IsRemovalRefused (names_at site) site.steps.now site.at site.text.now site.root.now entry made why

-- the attribute of a path is added to a set, or it is not, for a reason
abbrev pub IsAddedAt : Update → Path → List PathStep → PathStep → List ℕ → Located → List ℕ → Type 0
IsAddedAt update path steps target text root made =
    IsAddedTo update.is_forced update.form update.value.now path.text.now path.starts.items (names_of path) steps target text root made

abbrev pub IsNotAddedAt : Update → Path → List PathStep → PathStep → List ℕ → Located → Reason → Type 0
IsNotAddedAt update path steps target text root why =
    IsNotAddedTo update.is_forced update.form update.value.now path.text.now path.starts.items (names_of path) steps target text root why

-- the attribute of a path is added to the only set for it, or it is not, for a reason
abbrev pub IsAddedFor : Update → Path → List PathStep → List ℕ → Located → List ℕ → Type 0
IsAddedFor update path steps text root made =
    IsAdded update.is_forced update.form update.value.now path.text.now path.starts.items (names_of path) steps text root made

abbrev pub IsNotAddedFor : Update → Path → List PathStep → List ℕ → Located → Reason → Type 0
IsNotAddedFor update path steps text root why =
    IsNotAdded update.is_forced update.form update.value.now path.text.now path.starts.items (names_of path) steps text root why

-- why an attribute that a single entry defines is not updated
abbrev pub IsDefinitionRefusedFor : Update → List (List ℕ) → List PathStep → List ℕ → Located → Definition → Reason → Type 0
IsDefinitionRefusedFor update names steps text root definition why = IsDefinitionRefused update.action update names steps text root definition why

-- the result for the attribute of a path that no entry defines, and why there is no new text
abbrev pub IsUndefinedOutcome : Update → Path → List PathStep → List ℕ → Located → Outcome → Type 0
IsUndefinedOutcome update path steps text root found =
    IsUndefinedUpdated update (names_of path) path.text.now path.starts.items steps text root found

abbrev pub IsUndefinedRefusedFor : Update → Path → List PathStep → List ℕ → Located → Reason → Type 0
IsUndefinedRefusedFor update path steps text root why =
    IsUndefinedRefused update.action update (names_of path) path.text.now path.starts.items steps text root why

-- the result for the attribute of a path, and why there is no new text
abbrev pub IsOutcomeFor : Update → Path → List PathStep → List ℕ → Located → Outcome → Type 0
IsOutcomeFor update path steps text root found = IsOutcome update (names_of path) path.text.now path.starts.items steps text root found

abbrev pub IsAttributeRefusedFor : Update → Path → List PathStep → List ℕ → Located → Reason → Type 0
IsAttributeRefusedFor update path steps text root why =
    IsAttributeRefused update (names_of path) path.text.now path.starts.items steps text root why
