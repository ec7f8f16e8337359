-- The definitions of the program.
use Rattle.std.specs.Prelude.{List, [], ◌∷◌, map, Option, Some, None}
use Rattle.rnix_green.specs.Tree.{Located}
use Rattle.rnix_base.specs.Select.{those_of}
use Rattle.rnix.specs.NodeKinds.{is_attr}
use Rattle.rnix.specs.Sums.{attr_node}
use Rattle.nix_data.specs.declared.definition.Names.{Names}
use Rattle.nix_data.specs.declared.definition.Definition.{Definition}
use Rattle.nix_data.specs.declared.definition.Turn.{Turn}
use Rattle.nix_data.specs.declared.definition.Turn.TheVariants as turn
use Rattle.nix_data.specs.Selection as selection

-- names, the first one apart
abbrev pub names_of : Option Names → List Located
names_of None = []
names_of (Some names) = attr_node names.first ∷ those_of is_attr names.others

abbrev pub definition_of : Definition → selection.Definition
definition_of definition = record { names = names_of definition.names; value = definition.value }

-- several definitions
abbrev pub definitions_of : List Definition → List selection.Definition
definitions_of definitions = map definition_of definitions

abbrev pub turn_of : Turn → selection.Turn
turn_of (turn.Found definitions) = selection.finish (definitions_of definitions.items)
turn_of (turn.Enter node) = selection.enter node
turn_of (turn.Update left right) = selection.update left right
