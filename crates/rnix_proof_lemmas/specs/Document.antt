-- The reading of a whole text by steps.
use Rattle.std.specs.Prelude.{◌≡◌, ◌+◌, true, List, [], ◌∷◌}
use Rattle.rnix_kinds.specs.declared.kinds.SyntaxKind.TheVariants.{NODE_ROOT}
use Rattle.rnix_kinds.specs.Lexical.Tokens.{Lexeme}
use Rattle.rnix_green.specs.Tree.{Tree}
use Rattle.rnix_grammar.specs.declared.position.Position.TheVariants as p
use Rattle.rnix_grammar.specs.declared.slot_table.TheConstants.{ROOT}
use Rattle.rnix_grammar.specs.Fault.{Fault}
use Rattle.rnix_grammar.specs.AnnotatedForest.{placed_from, forget}
use Rattle.rnix_grammar.specs.Layout.{items}
use Rattle.rnix_proof_lemmas.specs.Machine.{Node, Frame, Machine, initial_machine, with_leading, Runs}

-- the machine of steps reads these tokens to the end: its last frame is the root, and its children are the tree's
pub record IsRead (lexemes : List Lexeme) (tree : Tree) (faults : List Fault) : Type 0 where
  pub root : Frame
  pub last : Machine
  pub runs : Runs true (initial_machine (placed_from 0 lexemes)) last
  pub alone : last.frames ≡ root ∷ []
  pub head : root.head ≡ Node NODE_ROOT
  pub position : root.position ≡ p.InRow (ROOT + 1)
  pub nothing : items last.remaining ≡ []
  pub tree_is : tree ≡ record { kind = NODE_ROOT; children = forget (with_leading true root.children last.remaining) }
  pub faults_are : faults ≡ last.faults
