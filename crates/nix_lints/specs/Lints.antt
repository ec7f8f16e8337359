-- What all lints find.
use Rattle.std.specs.Prelude.{List, ◌++◌, map}
use Rattle.std.specs.List.Sorted.{IsPermutation, IsNonDecreasingBy}
use Rattle.rnix_green.specs.Tree.{Located}
use Rattle.nix_attributes.specs.Repeated.{Repetition, repeated_in}
use Rattle.nix_diagnostics.specs.declared.code.Code.TheVariants as code
use Rattle.nix_lints.specs.ForeignSpaces.{Run, foreign_in}
use Rattle.nix_lints.specs.Found.{Found, found, character, place}
use Rattle.nix_lints.specs.{UnboundNames.unbound_names, UnusedNames.{unused_in, unused_found}, Nodes.found_at_nodes}

-- the finding on a run of white space that Nix does not read
abbrev pub space_found : Run → Found
space_found run = found code.ForeignSpace run.0 (character run.1)

-- the finding on a name that defines an attribute again
abbrev pub repetition_found : Repetition → Found
repetition_found repetition = found code.RepeatedAttribute repetition.0 (place repetition.1)

-- the findings on the names of a text: those that nothing binds, and those that nothing uses
abbrev pub found_at_names : Located → List Found
found_at_names root = unbound_names root ++ map unused_found (unused_in root)

-- what the lints find, one lint after another
abbrev pub lints_in : Located → List Found
lints_in root =
    map space_found (foreign_in root) ++ (map repetition_found (repeated_in root) ++ (found_at_names root ++ found_at_nodes root))

-- these are the findings, in the order of where they begin
pub record AreLints (root : Located) (all : List Found) : Type 0 where
  pub same : IsPermutation (lints_in root) all
  pub ordered : IsNonDecreasingBy (λ (f : Found). f.extent.start) all
