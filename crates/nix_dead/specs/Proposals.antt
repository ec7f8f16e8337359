-- The removals of all names that are reported.
use Rattle.std.specs.Prelude.{◌≡◌, ℕ, ◌==◌, not, Bool, true, false, List, codes, flat_map}
use Rattle.std.specs.List.{list_any}
use Rattle.std.specs.Option.{option_to_list}
use Rattle.std.specs.BTreeSet.{BTreeSet}
use Rattle.std.specs.Cow.{cow_str_bytes}
use Rattle.std.specs.Str.{bytes_eq}
use Rattle.rnix_green.specs.Tree.{Located}
use Rattle.rnix_text.specs.Changes.{Change}
use Rattle.nix_scopes.specs.declared.resolution.Reference.{Reference}
use Rattle.nix_scopes.specs.declared.resolution.Resolution.{Resolution}
use Rattle.nix_scopes.specs.Bound.{references_of}
use Rattle.nix_lints.specs.UnusedNames.{has_offset}
use Rattle.nix_lints.specs.declared.unused.UnusedName.{UnusedName}
use Rattle.nix_dead.specs.declared.options.Options.{Options}
use Rattle.nix_dead.specs.Dead.{start_of}
use Rattle.nix_dead.specs.DeadNames.{AreDead}
use Rattle.nix_dead.specs.Removal.{removal_of}
use Rattle.nix_dead.specs.Underscore.{underscored}

-- an offset is in the set exactly if one of the names begins there
abbrev pub AreStarts : List UnusedName → BTreeSet ℕ → Type 0
AreStarts names starts = (start : ℕ) → has_offset starts start ≡ list_any (λ name. start_of name == start) names

-- a reference is called `_`
abbrev pub is_hole : Reference → Bool
is_hole reference = bytes_eq (cow_str_bytes reference.text) (codes "_")

-- the removals of these names, as far as there are any
abbrev pub removals_of : List ℕ → BTreeSet ℕ → Bool → List UnusedName → List Change
removals_of text dead is_free names = flat_map (λ name. option_to_list (removal_of text dead is_free name.node)) names

-- the insertions of `_` before these names, as far as there are any
abbrev pub insertions_of : Resolution → List UnusedName → List Change
insertions_of names unused = flat_map (λ name. option_to_list (underscored names name)) unused

-- these are the removals of the names of a text that are reported, or the insertions of `_` before them
pub record AreProposed (text : List ℕ) (options : Options) (root : Located) (names : Resolution) (changes : List Change) : Type 0 where
  pub reported : List UnusedName
  pub are_reported : AreDead text options root reported
  pub underscores : options.writes_underscores ≡ true → changes ≡ insertions_of names reported
  pub removals : options.writes_underscores ≡ false → (dead : BTreeSet ℕ) × AreStarts reported dead
      × (changes ≡ removals_of text dead (not (list_any is_hole (references_of names))) reported)
