-- A text without what some removals remove.
use Rattle.std.specs.Prelude.{◌≡◌, ◌⊎◌, ◌≤◌, ℕ, List, [], ◌∷◌, ◌++◌, map}
use Rattle.std.specs.List.{All, Contains, Sorted.{IsPermutation}}
use Rattle.rnix_text.specs.Changes.{Change, Draft, AreAscending, IsAdded, changed_from}
use Rattle.nix_dead.specs.Removal.{change_of}
use Rattle.nix_dead.specs.declared.removal.Removal.{Removal}

-- a removal is added to a draft and to the list of those that were applied, or to neither
abbrev pub IsTried : Removal → Draft → Draft → List Removal → List Removal → Type 0
IsTried removal before after old new =
    ((removal.start ≤ removal.end) × IsAdded (change_of removal) before.changes after.changes × (new ≡ old ++ removal ∷ []))
    ⊎ ((after ≡ before) × (new ≡ old))

-- a text is made by some of these removals, none of which overlap; all else is as before
pub record AreApplied (text : List ℕ) (removals applied : List Removal) (made : List ℕ) : Type 0 where
  pub changes : List Change
  pub exactly : IsPermutation (map change_of applied) changes
  pub ascending : AreAscending 0 changes
  pub are_some : All (Contains removals) applied
  pub made_is : made ≡ changed_from 0 changes text
