-- What the reader holds, by the machine of steps: the children of all frames in one forest, from the outermost to the innermost.
use Rattle.std.specs.Prelude.{ℕ, List, [], ◌∷◌, ◌++◌}
use Rattle.rnix_kinds.specs.declared.kinds.SyntaxKind.TheVariants.{NODE_ERROR}
use Rattle.rnix_green.specs.Forest.{Forest, empty, join, tree_count}
use Rattle.rnix_green.specs.Draft.{OpenNode}
use Rattle.rnix_grammar.specs.declared.position.Position.{Position}
use Rattle.rnix_grammar.specs.AnnotatedForest.{forget}
use Rattle.rnix_proof_lemmas.specs.Machine.{Head, Node, SecondBind, Operand, Frame, Machine}
use Rattle.rnix_reader.specs.declared.mark.Mark.{Mark}
use Rattle.rnix_reader.specs.State.{State}

-- the trees of all frames in one forest
abbrev pub trees_of : List Frame → Forest
trees_of [] = empty
trees_of (f ∷ fs) = join (trees_of fs) (forget f.children)

-- the nodes that are open; an operand is none yet
abbrev pub opened_on : Head → ℕ → List OpenNode → List OpenNode
opened_on (Node k) n os = (k, n) ∷ os
opened_on SecondBind n os = (NODE_ERROR, n) ∷ os
opened_on Operand n os = os

-- the open nodes of some frames, the innermost first
abbrev pub nodes_of : List Frame → List OpenNode
nodes_of [] = []
nodes_of (f ∷ fs) = opened_on f.head (tree_count (trees_of fs)) (nodes_of fs)

-- a mark: the position, the depth and the checkpoint
abbrev pub mark_at : Position → ℕ → ℕ → Mark
mark_at position depth n = record { position = position; depth = depth; at = n }

-- the mark of a frame, above others
abbrev pub mark_of : Frame → List Frame → Mark
mark_of f fs = mark_at f.position f.depth (tree_count (trees_of fs))

-- the marks of all frames, the innermost last
abbrev pub marks_of : List Frame → List Mark
marks_of [] = []
marks_of (f ∷ fs) = marks_of fs ++ mark_of f fs ∷ []

-- the frames below the innermost
abbrev pub rest_of : List Frame → List Frame
rest_of [] = []
rest_of (f ∷ fs) = fs

-- what the reader holds of a machine, with these marks
abbrev pub erase_with : List Mark → Machine → State
erase_with marks m = record {
  rest = m.remaining;
  trees = trees_of m.frames;
  open_nodes = nodes_of m.frames;
  faults = m.faults;
  prev_end = m.prev_end;
  marks = marks;
}

-- what the reader holds of a machine
abbrev pub erase : Machine → State
erase m = erase_with (marks_of m.frames) m

-- without the mark of the innermost frame
abbrev pub popped : Machine → State
popped m = erase_with (marks_of (rest_of m.frames)) m
