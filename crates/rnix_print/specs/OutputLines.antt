-- The lines that are printed for a text: those of its errors, and those of its tree.
use Rattle.std.specs.Prelude.{ℕ, ◌+◌, ◌-◌, true, false, nat_lt, List, [], ◌∷◌, ◌++◌, codes, decimal, if◌then◌else◌}
use Rattle.std.specs.List.{flat_map}
use Rattle.rnix_kinds.specs.SyntaxKind.{name_of}
use Rattle.rnix_green.specs.Tree.{Tree, Located, item_of, extent_of}
use Rattle.rnix_green.specs.Walk.{Event, preorder_of}
use Rattle.rnix_tree.specs.Lines.{indent, range_end}
use Rattle.rnix_grammar.specs.Fault.{Fault, fault_text}

-- an error's line
abbrev pub error_line : Fault → List ℕ
error_line fault = codes "error: " ++ fault_text fault ++ codes "\n"

-- the lines of errors, in order
abbrev pub error_lines : List Fault → List ℕ
error_lines = flat_map error_line

-- the beginning of an element's line: two spaces for each level; at more than 100 levels, the number of the level follows
abbrev pub margin : ℕ → List ℕ
margin depth = if nat_lt 100 depth then decimal depth ++ codes " " else indent depth

-- an element's line: its margin, its kind's name, its range
abbrev pub element_line : ℕ → Located → List ℕ
element_line depth e = margin depth ++ name_of (item_of e).kind ++ range_end (extent_of e)

-- the lines of a walk that starts at a level: one for each element that is entered; the lines inside an element are one level deeper
abbrev pub walk_lines : ℕ → List Event → List ℕ
walk_lines depth [] = []
walk_lines depth ((true, spot) ∷ events) = element_line depth spot.1 ++ walk_lines (depth + 1) events
walk_lines depth ((false, spot) ∷ events) = walk_lines (depth - 1) events

-- the lines of an element and of everything inside it, where the element itself is not indented
abbrev pub tree_lines : Located → List ℕ
tree_lines e = walk_lines 0 (preorder_of e)

-- the output for a text: the lines of its errors, and those of its tree
abbrev pub output : Tree → List Fault → List ℕ
output tree faults = error_lines faults ++ tree_lines record { tree = tree; number = 0 }
