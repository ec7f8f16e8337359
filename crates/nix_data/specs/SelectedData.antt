-- The data of the part of a text that a path selects.
use Rattle.std.specs.Prelude.{◌≡◌, List, [], ◌∷◌, Option, Some, None, option_map, option_and_then}
use Rattle.rnix_green.specs.Tree.{Located}
use Rattle.nix_values.specs.Contents.{Entry}
use Rattle.nix_values.specs.Each.{each}
use Rattle.nix_values.specs.PathNames.{Name}
use Rattle.nix_values.specs.Built.{Built}
use Rattle.nix_values.specs.Preorder.{preorder}
use Rattle.nix_data.specs.declared.nix_reader.TheConstants.{LEVELS}
use Rattle.nix_data.specs.Added.{Place, outermost, set_at, path_in, added}
use Rattle.nix_data.specs.Misread.{IsReadAlike}
use Rattle.nix_data.specs.Selection.{Definition, selection}

-- the place of the value of a definition with these names: they lead from the outermost value, which is then a set
abbrev pub definition_place : List Located → List Built → Option (Place × List Built)
definition_place [] values = Some (outermost, values)
definition_place (attr ∷ names) values = option_and_then (λ set. path_in 0 set.0 (attr ∷ names) set.1) (set_at outermost values)

-- the values after a definition has added its own
abbrev pub definition_added : Definition → List Built → Option (List Built)
definition_added definition values =
    option_and_then (λ place. added LEVELS place.0 definition.value place.1) (definition_place definition.names values)

-- the values after definitions have added theirs, one after another
abbrev pub definitions_added : List Definition → List Built → Option (List Built)
definitions_added = each definition_added

-- the values of the part of a tree that a path selects: those that its definitions add. There are none if there is no such part.
abbrev pub values_at : List Name → Located → Option (List Built)
values_at path root = option_and_then (λ definitions. definitions_added definitions []) (selection path root)

-- these are the data of that part, each value followed by the values inside it
abbrev pub HasDataAt : List Name → Located → List Entry → Type 0
HasDataAt path root entries = option_map preorder (values_at path root) ≡ Some entries

-- Nix reads a token of the tree differently, or the path selects no data
abbrev pub HasNoDataAt : List Name → Located → Type 0
HasNoDataAt path root = IsReadAlike root → values_at path root ≡ None
