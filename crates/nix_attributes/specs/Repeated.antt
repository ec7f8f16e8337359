-- Which names define an attribute again although Nix allows no second definition of it.
use Rattle.std.specs.Prelude.{ℕ, ◌==◌, ◌&&◌, ◌||◌, Bool, true, false, List, [], ◌∷◌, ◌++◌, Option, Some, None, if◌then◌else◌}
use Rattle.std.specs.Option.{option_or}
use Rattle.std.specs.Str.{bytes_eq}
use Rattle.rnix_green.specs.Range.{Extent, bounds_of}
use Rattle.rnix_green.specs.Tree.{Located}
use Rattle.nix_attributes.specs.DefinedNames.{Site, Name, names_in}
use Rattle.nix_attributes.specs.declared.repeated.Repeated.{Repeated}

-- what some names define. A set is identified by its number, and an attribute by `inner` of the first name that defines it. `attribute` maps the owner
-- of a name to the set or attribute that has the name inside it; `first` maps a set or attribute, and a text, to the first name with this text inside it
pub record Known : Type 0 where
  pub attribute : ℕ → ℕ
  pub first : ℕ → List ℕ → Option Site

-- before the first name
abbrev pub nothing : Known
nothing = record { attribute = λ owner. owner; first = λ home text. None }

-- the first name of the attribute that a name defines again
abbrev pub earlier_by : Known → ℕ → Option (List ℕ) → Option Site
earlier_by known owner None = None
earlier_by known owner (Some text) = known.first (known.attribute owner) text

-- the same, for a name with its site
abbrev pub earlier : Known → Name → Option Site
earlier known own = earlier_by known own.site.owner own.text

-- whether a name is known and is this one
abbrev pub is_called : Option (List ℕ) → List ℕ → Bool
is_called None text = false
is_called (Some own) text = bytes_eq own text

-- whether a name defines the attribute with this name inside an attribute or a set
abbrev pub defines : Known → Name → ℕ → List ℕ → Bool
defines known own home text = (known.attribute own.site.owner == home) && is_called own.text text

-- the attribute of an owner: that of the first name, or else a given one
abbrev pub attribute_from : ℕ → Option Site → ℕ
attribute_from attribute None = attribute
attribute_from attribute (Some first) = first.inner

-- one more name: the names inside it belong to the attribute that the first name defines, or if there is no first name, to its own
abbrev pub with_name : Known → Name → Known
with_name known own = record {
  attribute = λ owner. if own.site.is_open && (own.site.inner == owner) then attribute_from (known.attribute owner) (earlier known own)
      else known.attribute owner;
  first = λ home text. option_or (known.first home text) (if defines known own home text then Some own.site else None);
}

-- more names, one after another
abbrev pub with_names : Known → List Name → Known
with_names known [] = known
with_names known (own ∷ more) = with_names (with_name known own) more

-- whether a name adds to the attribute that another name defines first: both leave the attribute open, and either the name continues a path, or both are
-- in the same set, since a whole set as a value adds only new attributes
abbrev pub extends : Site → Site → Bool
extends first own = first.is_open && (own.is_open && (own.continues || (first.owner == own.owner)))

-- a repetition: the later name, and the first one of the attribute
abbrev pub Repetition : Type 0
Repetition = Extent × Extent

-- a repetition in the program
abbrev pub repetition_of : Repeated → Repetition
repetition_of found = (bounds_of found.range, bounds_of found.first)

-- the repetition that a name is, given the first name of its attribute, if there is one
abbrev pub repetition : Option Site → Site → List Repetition
repetition None own = []
repetition (Some first) own = if extends first own then [] else (own.extent, first.extent) ∷ []

-- the repetitions among names that follow others
abbrev pub repetitions_after : Known → List Name → List Repetition
repetitions_after known [] = []
repetitions_after known (own ∷ more) = repetition (earlier known own) own.site ++ repetitions_after (with_name known own) more

-- what all names of a text define
abbrev pub known_in : Located → Known
known_in root = with_names nothing (names_in root)

-- the home of the names that have an owner with a number: the set or the name by which their attribute is defined first
abbrev pub home_in : Located → ℕ → ℕ
home_in root owner = (known_in root).attribute owner

-- the repetitions of a text, in the order of the entries
abbrev pub repeated_in : Located → List Repetition
repeated_in root = repetitions_after nothing (names_in root)
