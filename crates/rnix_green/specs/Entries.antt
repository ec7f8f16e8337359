-- What a builder keeps: one list of what was added and closed, in that order, beside the text.
use Rattle.std.specs.Prelude.{◌≡◌, Bool, true, false, Option, Some, slice_get, ℕ, ◌+◌, ◌-◌, ◌≤◌, ◌<◌, List, [], ◌∷◌, ◌++◌, length, take, drop, map, reverse}
use Rattle.std.specs.Prelude.{vec_len, vec_capacity}
use Rattle.std.specs.Str.{IsUtf8}
use Rattle.rnix_kinds.specs.declared.kinds.SyntaxKind.{SyntaxKind}
use Rattle.rnix_green.specs.declared.entries.{OpenNode.{OpenNode as Pending}, Entries.{Entries}}
use Rattle.rnix_green.specs.Forest.{Forest, empty, leaf, node, join, tree_count, element_count, text_of, HasText}
use Rattle.rnix_green.specs.Draft.{Draft, TextDraft, OpenNode, with_leaf}
use Rattle.rnix_green.specs.Kept.{first_elements, elements_after}
use Rattle.rnix_green.specs.declared.packed.Packed.{Packed}
use Rattle.rnix_green.specs.Packed.{limit}
use Rattle.rnix_green.specs.Postorder.{Entry, Leaf, Node, entry_of, entries_of}

-- the last trees of a forest, those with n elements in all, become the children of one node
abbrev pub wrapped_last : SyntaxKind → ℕ → Forest → Forest
wrapped_last k n f =
    join (first_elements (element_count f - n) f) (node k (elements_after (element_count f - n) f) empty)

-- the trees f, followed by the trees that the entries make, whose leaves take the text
abbrev pub built_onto : Forest → List ℕ → List Entry → Forest
built_onto f text [] = f
built_onto f text (Leaf k n ∷ es) = built_onto (with_leaf k (take n text) f) (drop n text) es
built_onto f text (Node k n ∷ es) = built_onto (wrapped_last k n f) text es

-- the trees that the entries make of the text
abbrev pub built : List ℕ → List Entry → Forest
built text es = built_onto empty text es

-- the trees that the elements of a builder make of the text
abbrev pub made : List ℕ → List Packed → Forest
made text es = built text (map entry_of es)

-- the entry at which each tree begins
abbrev pub starts_from : ℕ → Forest → List ℕ
starts_from n empty = []
starts_from n (leaf k t f) = n ∷ starts_from (n + 1) f
starts_from n (node k c f) = n ∷ starts_from (n + 1 + element_count c) f

-- the open nodes, the innermost first
abbrev pub open_pairs : List Pending → List OpenNode
open_pairs nodes = map (λ o. (o.kind, o.first_child)) (reverse nodes)

-- no place is above n, nor above the place of a node that is open inside
abbrev pub IsNested : ℕ → List OpenNode → Type 0
IsNested n [] = Unit {0}
IsNested n ((k, first_child) ∷ outer) = (first_child ≤ n) × IsNested first_child outer

-- the draft that elements and open nodes make of a text
abbrev pub draft_of : List ℕ → List Packed → List Pending → Draft
draft_of text es os = record { finished = made text es; open_nodes = open_pairs os }

-- the elements, the open nodes and the starts are those of a draft of a text, with less text and fewer elements than the limit
pub record IsDraft (text : List ℕ) (es : List Packed) (os : List Pending) (starts : List ℕ) (d : Draft) : Type 0 where
  pub entries : map entry_of es ≡ entries_of d.finished
  pub text_is : text ≡ text_of d.finished
  pub characters : HasText d.finished
  pub starts_are : starts ≡ starts_from 0 d.finished
  pub counted : length starts ≡ tree_count d.finished
  pub pending_is : d.open_nodes ≡ open_pairs os
  pub nested : IsNested (tree_count d.finished) d.open_nodes
  pub short : length text < limit
  pub few : length es < limit

-- the entries are those of a draft of a text
abbrev pub Holds : List ℕ → Entries → Draft → Type 0
Holds text e d = IsDraft text e.elements.items e.pending.items e.starts.items d

-- the draft that the entries make of a text
abbrev pub draft_in : List ℕ → Entries → Draft
draft_in text e = draft_of text e.elements.items e.pending.items

-- the entries are those of a draft of the first bytes of a text, which is shorter than the limit
pub record IsTextBuilder (text : List ℕ) (taken : ℕ) (e : Entries) : Type 0 where
  pub characters : IsUtf8 text
  pub within : taken ≤ length text
  pub short : length text < limit
  pub held : Holds (take taken text) e (draft_in (take taken text) e)

-- the lists are the same
abbrev pub AreSame : Entries → Entries → Type 0
AreSame old new = (new.elements.items ≡ old.elements.items) × (new.pending.items ≡ old.pending.items) × (new.starts.items ≡ old.starts.items)

-- the draft of a text, of which the first bytes have leaves
abbrev pub text_draft_of : List ℕ → ℕ → Entries → TextDraft
text_draft_of text taken e = record { draft = draft_in (take taken text) e; remaining = drop taken text }

-- there is room for one more tree, of so many elements
abbrev pub HasRoom : ℕ → Entries → Type 0
HasRoom n e = (length e.elements.items + n < limit) × (vec_len e.elements + n ≤ vec_capacity e.elements) × (vec_len e.starts < vec_capacity e.starts)

-- a tree with a text of so many bytes is added to each draft that is held
abbrev pub IsAdded : Entries → Entries → ℕ → (List ℕ → Draft → Draft) → Type 0
IsAdded old new len added =
    (text part : List ℕ) (d : Draft) → Holds text old d → IsUtf8 part → length part ≡ len → length text + len < limit → Holds (text ++ part) new (added part d)

-- an entry, if there is one, is that of a node
abbrev pub is_node_entry : Option Entry → Bool
is_node_entry (Some (Node k n)) = true
is_node_entry e = false

-- the last entry is a node
abbrev pub is_node_last : List Entry → Bool
is_node_last es = is_node_entry (slice_get es (length es - 1))
