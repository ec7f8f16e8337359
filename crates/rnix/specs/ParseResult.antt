-- What a text was read as.
use Rattle.std.specs.Prelude.{List}
use Rattle.rnix_green.specs.Tree.{Tree, Located}
use Rattle.rnix_grammar.specs.Fault.{Fault}

-- the tree, and the errors in the order in which they were found
pub record Reading : Type 0 where
  pub tree : Tree
  pub faults : List Fault

-- the node at the root
abbrev pub root_of : Reading → Located
root_of read = record { tree = read.tree; number = 0 }
