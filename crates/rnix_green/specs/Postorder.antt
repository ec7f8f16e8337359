-- Trees as a list in which each node follows its children, and what is left to do when that list is read from its end.
use Rattle.std.specs.Prelude.{◌≡◌, ◌≢◌, ℕ, zero, suc, ◌+◌, ◌-◌, List, [], ◌∷◌, ◌++◌, length, reverse, take, Option, Some, None, true}
use Rattle.rnix_kinds.specs.declared.kinds.SyntaxKind.{SyntaxKind}
use Rattle.rnix_green.specs.declared.packed.Packed.{Packed}
use Rattle.rnix_green.specs.declared.postorder.Frame.{Frame}
use Rattle.rnix_green.specs.Forest.{Forest, empty, leaf, node, text_of, element_count}
use Rattle.rnix_green.specs.Packed.{packed, len_or_start_in, size_in}
use Rattle.rnix_green.specs.Kept.{parent_or_root, kept_from}

-- a leaf with the length of its text; a node with the number of elements inside it
pub data Entry : Type 0 where
  Leaf : SyntaxKind → ℕ → Entry
  Node : SyntaxKind → ℕ → Entry

-- an entry of a size: a node if the size is not 0
abbrev pub entry_by : ℕ → SyntaxKind → ℕ → Entry
entry_by zero k n = Leaf k n
entry_by (suc below) k n = Node k below

-- the entry that an element holds before it is placed
abbrev pub entry_of : Packed → Entry
entry_of e = entry_by (size_in e) e.kind (len_or_start_in e)

-- each leaf, and each node after its children
abbrev pub entries_of : Forest → List Entry
entries_of empty = []
entries_of (leaf k t f) = Leaf k (length t) ∷ entries_of f
entries_of (node k c f) = entries_of c ++ (Node k (element_count c) ∷ entries_of f)

-- the number of the first child, inside the innermost frame
abbrev pub child_number : List Frame → ℕ
child_number [] = 0
child_number (fr ∷ frs) = fr.number + 1

-- the number of the parent, inside the innermost frame
abbrev pub parent_number : List Frame → Option ℕ
parent_number [] = None
parent_number (fr ∷ frs) = Some fr.number

-- the entries of forests side by side, the last one first
abbrev pub rest_entries : List Forest → List Entry
rest_entries [] = []
rest_entries (g ∷ gs) = rest_entries gs ++ entries_of g

-- the length of their text
abbrev pub rest_text : List Forest → ℕ
rest_text [] = 0
rest_text (g ∷ gs) = rest_text gs + length (text_of g)

-- the stored form of the node of a frame
abbrev pub frame_kept : Frame → ℕ → Option ℕ → Packed
frame_kept fr start parent = packed fr.kind start (parent_or_root parent) fr.size

-- all elements: es in the innermost frame, and to the left of each frame a forest that is not read yet
abbrev pub around : List Frame → List Forest → List Packed → List Packed
around [] gs es = es
around (fr ∷ frs) [] es = es
around (fr ∷ frs) (g ∷ gs) es =
    around frs gs
    (kept_from (child_number frs) (rest_text gs) (parent_number frs) g ++ (frame_kept fr (rest_text (g ∷ gs)) (parent_number frs) ∷ es))

-- each frame knows how many entries precede it, and its number
abbrev pub IsAligned : List Frame → List Forest → Type 0
IsAligned [] [] = Unit {0}
IsAligned [] (g ∷ gs) = ⊥
IsAligned (fr ∷ frs) [] = ⊥
IsAligned (fr ∷ frs) (g ∷ gs) =
    (fr.first ≡ length (rest_entries (g ∷ gs))) × (fr.number ≡ length (rest_entries (g ∷ gs)) + length frs) × IsAligned frs gs

-- an entry of the innermost frame is not read yet
abbrev pub HasMore : List Frame → ℕ → Type 0
HasMore [] n = Unit {0}
HasMore (fr ∷ frs) n = fr.first ≢ n

-- the innermost frame, whose entries are all read
pub record IsReached (frames : List Frame) (n : ℕ) (fr : Frame) : Type 0 where
  pub reached : fr.first ≡ n
  pub innermost : reverse frames ≡ fr ∷ reverse (take (length frames - 1) frames)

-- what is left to do: the trees that are not read yet, in the innermost frame and to the left of each frame
pub record IsWork (forest : Forest) (prefix : List Entry) (offset : ℕ) (frames : List Frame) (done : List Packed) : Type 0 where
  pub current : Forest
  pub outer : List Forest
  pub entries : prefix ≡ rest_entries (current ∷ outer)
  pub text : offset ≡ rest_text (current ∷ outer)
  pub aligned : IsAligned frames outer
  pub elements :
      around frames outer (kept_from (child_number frames) (rest_text outer) (parent_number frames) current ++ done) ≡ kept_from 0 0 None forest
