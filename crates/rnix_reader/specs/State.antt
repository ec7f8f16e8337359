-- What the reader holds, as values: the tokens that are left, the trees so far, the open nodes, the errors, where the last item ended, and
-- the marks of all that is open; and its single steps.
use Rattle.std.specs.Prelude.{◌≡◌, ℕ, List, [], ◌∷◌, ◌++◌, map, Some}
use Rattle.rnix_kinds.specs.declared.kinds.SyntaxKind.{SyntaxKind}
use Rattle.rnix_green.specs.Forest.{Forest, join, tree_count}
use Rattle.rnix_green.specs.Draft.{Draft, OpenNode, node_closed}
use Rattle.rnix_grammar.specs.Fault.{Fault, fault_of}
use Rattle.rnix_grammar.specs.AnnotatedForest.{Token, row_of, forget, end_from, head_of}
use Rattle.rnix_grammar.specs.Layout.{items, from_item, trivia_before, tail_of, remaining_after, with_trivia}
use Rattle.rnix_proof_lemmas.specs.Machine.{leaf_in, end_of}
use Rattle.rnix_reader.specs.declared.mark.Mark.{Mark}
use Rattle.rnix_reader.specs.declared.parser.Parser.{Parser}

-- what the reader holds, as one value
pub record State : Type 0 where
  pub rest : List Token
  pub trees : Forest
  pub open_nodes : List OpenNode
  pub faults : List Fault
  pub prev_end : ℕ
  pub marks : List Mark

-- what a reader holds
abbrev pub state : Parser → State
state p = record {
  rest = p.cursor;
  trees = p.builder.draft.finished;
  open_nodes = p.builder.draft.open_nodes;
  faults = map fault_of p.errors.items;
  prev_end = p.prev_end;
  marks = p.marks.items;
}

-- with other marks
abbrev pub with_marks : List Mark → State → State
with_marks ms s = record { rest = s.rest; trees = s.trees; open_nodes = s.open_nodes; faults = s.faults; prev_end = s.prev_end; marks = ms }

-- the remaining tokens that are not trivia
abbrev pub items_remaining : State → List Token
items_remaining s = items s.rest

-- this is the next item
abbrev pub IsNextItem : Token → State → Type 0
IsNextItem t s = head_of (items_remaining s) ≡ Some t

-- the trivia before the next item are read
unfoldable pub eaten : State → State
eaten s = record {
  rest = from_item s.rest;
  trees = join s.trees (forget (trivia_before s.rest));
  open_nodes = s.open_nodes;
  faults = s.faults;
  prev_end = s.prev_end;
  marks = s.marks;
}

-- the next token is a leaf below a node of the kind
abbrev pub taken : SyntaxKind → State → State
taken k s = record {
  rest = tail_of s.rest;
  trees = join s.trees (forget (leaf_in k s.rest));
  open_nodes = s.open_nodes;
  faults = s.faults;
  prev_end = end_of s.prev_end s.rest;
  marks = s.marks;
}

-- the trivia before the next item are read, and it, as a leaf below a node of the kind
unfoldable pub bumped : SyntaxKind → State → State
bumped k s = taken k (eaten s)

-- a run of items is read, as leaves of their own kinds
unfoldable pub skipped : List Token → State → State
skipped run s = record {
  rest = remaining_after (row_of run) s.rest;
  trees = join s.trees (forget (with_trivia (row_of run) s.rest));
  open_nodes = s.open_nodes;
  faults = s.faults;
  prev_end = end_from s.prev_end run;
  marks = s.marks;
}

-- a node is opened at a checkpoint
unfoldable pub started_at : ℕ → SyntaxKind → State → State
started_at position k s = record {
  rest = s.rest;
  trees = s.trees;
  open_nodes = (k, position) ∷ s.open_nodes;
  faults = s.faults;
  prev_end = s.prev_end;
  marks = s.marks;
}

-- a node is opened after the trees
abbrev pub started_here : SyntaxKind → State → State
started_here k s = started_at (tree_count s.trees) k s

-- a node is opened at the next item
abbrev pub started : SyntaxKind → State → State
started k s = started_here k (eaten s)

-- a draft in place of the trees and the open nodes
abbrev pub closed_on : Draft → State → State
closed_on d s = record { rest = s.rest; trees = d.finished; open_nodes = d.open_nodes; faults = s.faults; prev_end = s.prev_end; marks = s.marks }

-- the innermost node is closed
unfoldable pub ended : State → State
ended s = closed_on (node_closed record { finished = s.trees; open_nodes = s.open_nodes }) s

-- an error is reported
unfoldable pub failed : Fault → State → State
failed e s = record { rest = s.rest; trees = s.trees; open_nodes = s.open_nodes; faults = s.faults ++ e ∷ []; prev_end = s.prev_end; marks = s.marks }

-- one more node or operand is open
unfoldable pub pushed : Mark → State → State
pushed m s = record { rest = s.rest; trees = s.trees; open_nodes = s.open_nodes; faults = s.faults; prev_end = s.prev_end; marks = s.marks ++ m ∷ [] }
