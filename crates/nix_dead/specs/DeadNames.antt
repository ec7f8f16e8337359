-- The unused names of a text that are reported.
use Rattle.std.specs.Prelude.{◌≡◌, ℕ, List, map}
use Rattle.std.specs.List.{filter, Sorted.{IsNonDecreasingBy, IsPermutation}}
use Rattle.rnix_green.specs.Tree.{Located}
use Rattle.nix_lints.specs.UnusedNames.{unused_in, written_name}
use Rattle.nix_lints.specs.declared.unused.UnusedName.{UnusedName}
use Rattle.nix_dead.specs.Dead.{start_of}
use Rattle.nix_dead.specs.Skipped.{is_reported}
use Rattle.nix_dead.specs.declared.options.Options.{Options}

-- these are the unused names of a text, in its order, without those that are left out
pub record AreDead (text : List ℕ) (options : Options) (root : Located) (names : List UnusedName) : Type 0 where
  pub all : List UnusedName
  pub exactly : IsPermutation (unused_in root) (map written_name all)
  pub order : IsNonDecreasingBy start_of all
  pub names_are : names ≡ filter (is_reported text options) all
