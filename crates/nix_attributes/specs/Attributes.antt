-- What the program stores about the names that it has visited.
use Rattle.std.specs.Prelude.{◌≡◌, ◌++◌, ℕ, List, [], map, Option, Some, None, option_map}
use Rattle.std.specs.Option.{unwrap_or}
use Rattle.std.specs.BTreeMap.{BTreeMap, get, get_by}
use Rattle.std.specs.Cmp.Lexicographic.{slice_cmp}
use Rattle.std.specs.Cow.{cow_str_bytes}
use Rattle.std.specs.Ordering.{nat_cmp, ordering_then}
use Rattle.std.specs.declared.alloc.Global.{Global}
use Rattle.std.specs.declared.borrow.CowStr.{CowStr}
use Rattle.std.specs.declared.cmp.Ordering.{Ordering}
use Rattle.nix_attributes.specs.Repeated.{Known, with_names, repetition_of, repetitions_after}
use Rattle.nix_attributes.specs.DefinedNames.{Name, site_of}
use Rattle.nix_attributes.specs.declared.attributes.Attributes.{Attributes}
use Rattle.nix_attributes.specs.declared.homes.Homes.{Homes}
use Rattle.nix_attributes.specs.declared.definition.NameSite.{NameSite}

-- an attribute or a set, and the name of an attribute in it
abbrev pub Key : Type 0
Key = ℕ × CowStr Global

-- the first name of each attribute
abbrev pub FirstNames : Type 0
FirstNames = BTreeMap Key NameSite

-- the order of an attribute with a name and a key
abbrev pub compare_key : ℕ → List ℕ → Key → Ordering
compare_key home text key = ordering_then (nat_cmp home key.0) (slice_cmp nat_cmp text (cow_str_bytes key.1))

-- the attribute of the owner with a number
abbrev pub attribute_by : BTreeMap ℕ ℕ → ℕ → ℕ
attribute_by attributes owner = unwrap_or (get nat_cmp attributes owner) owner

-- the home of an owner
abbrev pub home_by : Homes → ℕ → ℕ
home_by homes owner = attribute_by homes.homes owner

-- the first name of an attribute
abbrev pub first_by : FirstNames → ℕ → List ℕ → Option NameSite
first_by firsts home text = get_by (compare_key home text) firsts

-- the maps contain what is known
pub record IsTable (known : Known) (attributes : BTreeMap ℕ ℕ) (firsts : FirstNames) : Type 0 where
  pub attributes_are : (start : ℕ) → attribute_by attributes start ≡ known.attribute start
  pub firsts_are : (home : ℕ) (text : List ℕ) → option_map site_of (first_by firsts home text) ≡ known.first home text

-- no name is known
pub record IsEmpty (new : Attributes) : Type 0 where
  pub attributes : new.attributes.entries ≡ []
  pub firsts : new.firsts.entries ≡ []
  pub repeated : new.repeated.items ≡ []

-- names are added, together with the repetitions among them
pub record AddsNames (old new : Attributes) (names : List Name) : Type 0 where
  pub table : (known : Known) → IsTable known old.attributes old.firsts → IsTable (with_names known names) new.attributes new.firsts
  pub repeated : (known : Known) → IsTable known old.attributes old.firsts →
      map repetition_of new.repeated.items ≡ map repetition_of old.repeated.items ++ repetitions_after known names
