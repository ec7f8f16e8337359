-- The builder's entries determine its trees.
use Rattle.std.proofs.Common.{◌≡◌, ℕ, zero, suc, ◌+◌, ◌-◌, ◌≤◌, ◌<◌, List, [], ◌∷◌, ◌++◌, length, take, drop, get_or, map, true, refl, ap, sym, ◌∙◌, arith}
use Rattle.std.proofs.{Common.{append_assoc, length-append, inl, inr}, lemmas.List.{take_all, take_more, reverse-append, length-map}}
use Rattle.std.proofs.lemmas.{List.{map-append, take_at, drop_at, append-nil, length_push, length-take-le, get_or_past}, Bool.{cases_lt, and_parts}}
use Rattle.{std.specs.Str.IsUtf8, rnix_kinds.specs.declared.kinds.SyntaxKind.SyntaxKind, rnix_green.specs.declared.entries.{OpenNode.OpenNode as Pending, Entries.Entries}}
use Rattle.rnix_green.specs.{declared.packed.Packed.Packed, Forest.{Forest, empty, leaf, node, join, tree_count, element_count, first_trees, trees_after}}
use Rattle.rnix_green.specs.{Forest.{text_of, HasText}, Draft.{Draft, OpenNode, with_leaf, wrapped, leaf_added, leaf_node_added, closed_over, wrapped-join}}
use Rattle.rnix_green.specs.{Kept.{first_elements, elements_after}, Packed.{limit, packed}, Postorder.{Entry, Leaf, Node, entry_of, entries_of}}
use Rattle.rnix_green.specs.{Entries.{built_onto, built, wrapped_last, starts_from, open_pairs, draft_of, draft_in, IsNested}, ForestCode.join_empty}
use Rattle.rnix_green.specs.{Entries.{IsDraft, Holds, AreSame, IsAdded}, Draft.{is_complete_of, is_nothing, is_one_node}}
use Rattle.rnix_green.proofs.ForestLemmas.{tree_count-join, tree_count-first, element_count-join, text_of-join, join_assoc, join_first_after}
use Rattle.rnix_green.proofs.PostorderLemmas.{entries_of-join, length-post_of, packed_leaf, packed_node}

-- the first of two joined forests, by the number of its elements
pub first_elements-join : (f g : Forest) → first_elements (element_count f) (join f g) ≡ f
first_elements-join empty g = refl
first_elements-join (leaf k t f) g = ap (leaf k t) (first_elements-join f g)
first_elements-join (node k c f) g =
    let same : element_count c + element_count f - element_count c ≡ element_count f = omega arith in
    ap (node k c) (ap (λ n. first_elements n (join f g)) same ∙ first_elements-join f g)

-- the second of two joined forests
pub elements_after-join : (f g : Forest) → elements_after (element_count f) (join f g) ≡ g
elements_after-join empty g = refl
elements_after-join (leaf k t f) g = elements_after-join f g
elements_after-join (node k c f) g =
    let same : element_count c + element_count f - element_count c ≡ element_count f = omega arith in
    ap (λ n. elements_after n (join f g)) same ∙ elements_after-join f g

wrapped_last-join : (k : SyntaxKind) (f c : Forest) → wrapped_last k (element_count c) (join f c) ≡ join f (node k c empty)
wrapped_last-join k f c =
    let same : element_count (join f c) - element_count c ≡ element_count f = omega (arith, element_count-join f c) in
    ap (λ n. join (first_elements n (join f c)) (node k (elements_after n (join f c)) empty)) same
    ∙ ap (λ x. join x (node k (elements_after (element_count f) (join f c)) empty)) (first_elements-join f c)
    ∙ ap (λ x. join f (node k x empty)) (elements_after-join f c)

-- the entries of a forest, put onto another forest, add that forest to it
pub built_onto-entries : (g f : Forest) (rest : List ℕ) (es : List Entry) →
    built_onto g (text_of f ++ rest) (entries_of f ++ es) ≡ built_onto (join g f) rest es
built_onto-entries g empty rest es = ap (λ x. built_onto x rest es) (sym (join_empty g))
built_onto-entries g (leaf k t f) rest es =
    ap (λ x. built_onto (with_leaf k (take (length t) x) g) (drop (length t) x) (entries_of f ++ es)) (append_assoc t (text_of f) rest)
    ∙ ap (λ x. built_onto (with_leaf k x g) (drop (length t) (t ++ (text_of f ++ rest))) (entries_of f ++ es)) (take_at t (text_of f ++ rest) (length t) refl)
    ∙ ap (λ x. built_onto (with_leaf k t g) x (entries_of f ++ es)) (drop_at t (text_of f ++ rest) (length t) refl)
    ∙ built_onto-entries (with_leaf k t g) f rest es
    ∙ ap (λ x. built_onto x rest es) (join_assoc g (leaf k t empty) f)
built_onto-entries g (node k c f) rest es =
    ap (λ x. built_onto g x ((entries_of c ++ (Node k (element_count c) ∷ entries_of f)) ++ es)) (append_assoc (text_of c) (text_of f) rest)
    ∙ ap (λ x. built_onto g (text_of c ++ (text_of f ++ rest)) x) (append_assoc (entries_of c) (Node k (element_count c) ∷ entries_of f) es)
    ∙ built_onto-entries g c (text_of f ++ rest) (Node k (element_count c) ∷ (entries_of f ++ es))
    ∙ ap (λ x. built_onto x (text_of f ++ rest) (entries_of f ++ es)) (wrapped_last-join k g c)
    ∙ built_onto-entries (join g (node k c empty)) f rest es
    ∙ ap (λ x. built_onto x rest es) (join_assoc g (node k c empty) f)

-- the entries of a forest make that forest
pub built-entries : (f : Forest) → built (text_of f) (entries_of f) ≡ f
built-entries f =
    ap (λ x. built x (entries_of f)) (sym (append-nil (text_of f))) ∙ ap (λ x. built (text_of f ++ []) x) (sym (append-nil (entries_of f)))
    ∙ built_onto-entries empty f [] []

-- a draft that the entries represent is the one that they make of the text
pub draft_is : (text : List ℕ) (es : List Packed) (os : List Pending) (st : List ℕ) (d : Draft) → IsDraft text es os st d → draft_of text es os ≡ d
draft_is text es os st d h =
    ap (λ (f : Forest). let x : Draft = record { finished = f; open_nodes = open_pairs os } in x) (rw (h.entries, h.text_is) (built-entries d.finished))
    ∙ ap (λ (ps : List OpenNode). let x : Draft = record { finished = d.finished; open_nodes = ps } in x) (sym h.pending_is)

-- so the entries represent the draft that they make of the text
pub settled : (text : List ℕ) (es : List Packed) (os : List Pending) (st : List ℕ) (d : Draft) → IsDraft text es os st d →
    IsDraft text es os st (draft_of text es os)
settled text es os st d h = rw (draft_is text es os st d h) h

-- the starts of the trees of two joined forests are those of both
pub starts_from-join : (n : ℕ) (f g : Forest) → starts_from n (join f g) ≡ starts_from n f ++ starts_from (n + element_count f) g
starts_from-join n empty g = ap (λ m. starts_from m g) (omega arith)
starts_from-join n (leaf k t f) g =
    ap (λ x. n ∷ x) (starts_from-join (n + 1) f g ∙ ap (λ m. starts_from (n + 1) f ++ starts_from m g) (omega arith))
starts_from-join n (node k c f) g =
    ap (λ x. n ∷ x) (starts_from-join (n + 1 + element_count c) f g ∙ ap (λ m. starts_from (n + 1 + element_count c) f ++ starts_from m g) (omega arith))

-- a tree begins after the elements of the trees before it
pub start_at : (n : ℕ) (f : Forest) (p d : ℕ) → p < tree_count f → get_or (starts_from n f) p d ≡ n + element_count (first_trees p f)
start_at n empty p d h = absurd (omega arith)
start_at n (leaf k t f) zero d h = omega arith
start_at n (leaf k t f) (suc p) d h = omega (arith, start_at (n + 1) f p d (omega arith))
start_at n (node k c f) zero d h = omega arith
start_at n (node k c f) (suc p) d h = omega (arith, start_at (n + 1 + element_count c) f p d (omega arith))

-- the starts of the first trees
pub take-starts_from : (n : ℕ) (f : Forest) (p : ℕ) → take p (starts_from n f) ≡ starts_from n (first_trees p f)
take-starts_from n f zero = refl
take-starts_from n empty (suc p) = refl
take-starts_from n (leaf k t f) (suc p) = ap (λ x. n ∷ x) (take-starts_from (n + 1) f p)
take-starts_from n (node k c f) (suc p) = ap (λ x. n ∷ x) (take-starts_from (n + 1 + element_count c) f p)

-- if a forest has at most `n` trees, its first `n` are all of it
pub first_trees_all : (n : ℕ) (f : Forest) → tree_count f ≤ n → first_trees n f ≡ f
first_trees_all n empty h = elim n as (λ m. first_trees m empty ≡ empty) [ zero ↦ refl | suc m ↦ refl ]
first_trees_all zero (leaf k t f) h = absurd (omega arith)
first_trees_all (suc n) (leaf k t f) h = ap (leaf k t) (first_trees_all n f (omega arith))
first_trees_all zero (node k c f) h = absurd (omega arith)
first_trees_all (suc n) (node k c f) h = ap (node k c) (first_trees_all n f (omega arith))

-- if the leaves of two forests are UTF-8, so are those of both joined
pub HasText-join : (f g : Forest) → HasText f → HasText g → HasText (join f g)
HasText-join empty g h i = i
HasText-join (leaf k t f) g h i = (h.0, HasText-join f g h.1 i)
HasText-join (node k c f) g h i = (h.0, HasText-join f g h.1 i)

-- so are those of the first trees
pub HasText-first : (n : ℕ) (f : Forest) → HasText f → HasText (first_trees n f)
HasText-first zero f h = tt
HasText-first (suc n) empty h = tt
HasText-first (suc n) (leaf k t f) h = (h.0, HasText-first n f h.1)
HasText-first (suc n) (node k c f) h = (h.0, HasText-first n f h.1)

-- so are those of the trees after them
pub HasText-after : (n : ℕ) (f : Forest) → HasText f → HasText (trees_after n f)
HasText-after zero f h = h
HasText-after (suc n) empty h = tt
HasText-after (suc n) (leaf k t f) h = HasText-after n f h.1
HasText-after (suc n) (node k c f) h = HasText-after n f h.1

-- a node that replaces the trees from a position on leaves the trees before it, and one
pub tree_count-wrapped : (k : SyntaxKind) (p : ℕ) (f : Forest) → p ≤ tree_count f → tree_count (wrapped k p f) ≡ p + 1
tree_count-wrapped k p f h = omega (arith, tree_count-join (first_trees p f) (node k (trees_after p f) empty), tree_count-first p f h)

-- the last of the open nodes is the innermost
pub open_pairs-last : (os : List Pending) (n : ℕ) (o : Pending) → n < length os → n + 1 ≡ length os → get_or os n o ≡ o →
    open_pairs os ≡ (o.kind, o.first_child) ∷ open_pairs (take n os)
open_pairs-last os n o l e is =
    let all : os ≡ take n os ++ o ∷ [] = sym (take_all (n + 1) os (omega arith)) ∙ take_more os n o l ∙ ap (λ x. take n os ++ x ∷ []) is in
    ap open_pairs all ∙ (rw (reverse-append (take n os) (o ∷ [])) refl)

-- open nodes are also nested among more trees
pub IsNested-weaker : (n m : ℕ) (os : List (SyntaxKind × ℕ)) → n ≤ m → IsNested n os → IsNested m os
IsNested-weaker n m [] l h = tt
IsNested-weaker n m ((k, p) ∷ os) l h = (omega arith, h.1)

-- one more element is one more entry
pub entries_push : (es more : List Packed) (x : Packed) (n : Entry) → more ≡ es ++ x ∷ [] → entry_of x ≡ n → map entry_of more ≡ map entry_of es ++ n ∷ []
entries_push es more x n e is = ap (map entry_of) e ∙ map-append entry_of es (x ∷ []) ∙ ap (λ y. map entry_of es ++ y ∷ []) is

-- there are as many entries as elements
pub entry_count : (text : List ℕ) (e : Entries) (d : Draft) → Holds text e d → length e.elements.items ≡ element_count d.finished
entry_count text e d h = sym (length-map e.elements.items entry_of) ∙ ap length h.entries ∙ length-post_of d.finished

-- the entries with those of one more tree
held-tree : (g : Forest) (text part : List ℕ) (e later : Entries) (d : Draft) → Holds text e d → HasText g → tree_count g ≡ 1 →
    starts_from (element_count d.finished) g ≡ element_count d.finished ∷ [] → part ≡ text_of g → length text + length part < limit →
    length later.elements.items < limit → map entry_of later.elements.items ≡ map entry_of e.elements.items ++ entries_of g →
    later.starts.items ≡ e.starts.items ++ length e.elements.items ∷ [] → later.pending.items ≡ e.pending.items →
    Holds (text ++ part) later record { finished = join d.finished g; open_nodes = d.open_nodes }
held-tree g text part e later d h u one first le short few mo sta same =
    let f = d.finished in
    record {
      entries = mo ∙ ap (λ x. x ++ entries_of g) h.entries ∙ sym (entries_of-join f g);
      text_is = ap (λ x. text ++ x) le ∙ ap (λ x. x ++ text_of g) h.text_is ∙ sym (text_of-join f g);
      characters = HasText-join f g h.characters u;
      starts_are =
          let behind : element_count f ≡ 0 + element_count f = omega arith in
          sta ∙ ap (λ x. x ++ length e.elements.items ∷ []) h.starts_are ∙ ap (λ m. starts_from 0 f ++ m ∷ []) (entry_count text e d h)
          ∙ ap (λ x. starts_from 0 f ++ x) (sym first) ∙ ap (λ m. starts_from 0 f ++ starts_from m g) behind ∙ sym (starts_from-join 0 f g);
      counted = omega (arith, ap length sta, length_push e.starts.items (length e.elements.items), h.counted, tree_count-join f g);
      pending_is = h.pending_is ∙ ap open_pairs (sym same);
      nested = IsNested-weaker (tree_count f) (tree_count (join f g)) d.open_nodes (omega (arith, tree_count-join f g)) h.nested;
      short = omega (arith, length-append text part);
      few = few;
    }

-- the entries with one more token
pub held-token : (k : SyntaxKind) (e later : Entries) → length e.elements.items + 1 < limit → later.pending.items ≡ e.pending.items →
    later.starts.items ≡ e.starts.items ++ length e.elements.items ∷ [] → (len : ℕ) → later.elements.items ≡ e.elements.items ++ packed k len 0 0 ∷ [] →
    IsAdded e later len (leaf_added k)
held-token k e later few same sta len mo text part d h u is short =
    let entry : entry_of (packed k len 0 0) ≡ Leaf k (length part) = packed_leaf k len (omega arith) ∙ ap (Leaf k) (sym is) in
    held-tree (leaf k part empty) text part e later d h (u, tt) refl refl (sym (append-nil part)) (omega arith)
    (omega (arith, ap length mo, length_push e.elements.items (packed k len 0 0))) (entries_push e.elements.items later.elements.items _ _ mo entry) sta same

-- the entries with one more node over one token
pub held-leaf_node : (i k : SyntaxKind) (e later : Entries) (both : List Packed) → length e.elements.items + 2 < limit → later.pending.items ≡ e.pending.items →
    later.starts.items ≡ e.starts.items ++ length e.elements.items ∷ [] → (len : ℕ) → both ≡ e.elements.items ++ packed k len 0 0 ∷ [] →
    later.elements.items ≡ both ++ packed i 0 0 2 ∷ [] → IsAdded e later len (leaf_node_added i k)
held-leaf_node i k e later both few same sta len bo mo text part d h u is short =
    let es = e.elements.items in
    let token : entry_of (packed k len 0 0) ≡ Leaf k (length part) = packed_leaf k len (omega arith) ∙ ap (Leaf k) (sym is) in
    let entries : map entry_of later.elements.items ≡ map entry_of es ++ (Leaf k (length part) ∷ (Node i 1 ∷ [])) =
    entries_push both later.elements.items _ _ mo (packed_node i 1 (omega arith)) ∙ ap (λ z. z ++ Node i 1 ∷ []) (entries_push es both _ _ bo token)
    ∙ append_assoc (map entry_of es) (Leaf k (length part) ∷ []) (Node i 1 ∷ []) in
    let text_is : part ≡ (part ++ []) ++ [] = sym (append-nil part) ∙ sym (append-nil (part ++ [])) in
    rw (wrapped-join i d.finished (leaf k part empty))
    (held-tree (node i (leaf k part empty) empty) text part e later d h ((u, tt), tt) refl refl text_is (omega arith)
    (omega (arith, ap length mo, length_push both (packed i 0 0 2), ap length bo, length_push es (packed k len 0 0))) entries sta same)

-- adding a tree keeps the entries right, after room was made for it
pub held-added : (text part whole : List ℕ) (e mid later : Entries) (added : List ℕ → Draft → Draft) → Holds text e (draft_in text e) → AreSame e mid →
    IsAdded mid later (length part) added → IsUtf8 part → length text + length part < limit → whole ≡ text ++ part →
    Holds whole later (draft_in whole later) × (draft_in whole later ≡ added part (draft_in text e))
held-added text part whole e mid later added h same a u short w =
    let before : IsDraft text mid.elements.items mid.pending.items mid.starts.items (draft_in text e) = rw (same.0, same.1, same.2) h in
    let after : Holds whole later (added part (draft_in text e)) = rw w (a text part (draft_in text e) before u refl short) in
    (settled _ _ _ _ _ after, draft_is _ _ _ _ _ after)

-- the first entry of the trees from a position on
pub first_entry : (text : List ℕ) (e : Entries) (d : Draft) (p : ℕ) → Holds text e d →
    get_or e.starts.items p (length e.elements.items) ≡ element_count (first_trees p d.finished)
first_entry text e d p h =
    let end = length e.elements.items in
    elim (cases_lt p (length e.starts.items)) [
      | inl l ↦
          let in_range : p < tree_count d.finished = omega (arith, h.counted) in
          ap (λ x. get_or x p end) h.starts_are ∙ start_at 0 d.finished p end in_range ∙ (omega arith)
      | inr l ↦
          let in_range : tree_count d.finished ≤ p = omega (arith, h.counted) in
          get_or_past e.starts.items p end l ∙ entry_count text e d h ∙ ap element_count (sym (first_trees_all p d.finished in_range))
    ]

-- no open node begins after the last entry
pub first_entry_le : (text : List ℕ) (e : Entries) (d : Draft) (p : ℕ) → Holds text e d →
    get_or e.starts.items p (length e.elements.items) ≤ length e.elements.items
first_entry_le text e d p h =
    omega (
      arith,
      first_entry text e d p h,
      entry_count text e d h,
      element_count-join (first_trees p d.finished) (trees_after p d.finished),
      ap element_count (join_first_after p d.finished),
    )

-- closing the innermost node keeps the entries right
pub held-closed : (text : List ℕ) (e later : Entries) (d : Draft) (j : ℕ) (o : Pending) → Holds text e d →
    let first = get_or e.starts.items o.first_child (length e.elements.items) in
    length e.elements.items + 1 < limit → j + 1 ≡ length e.pending.items → o ≡ get_or e.pending.items j o →
    later.elements.items ≡ e.elements.items ++ packed o.kind 0 0 (length e.elements.items - first + 1) ∷ [] → later.pending.items ≡ take j e.pending.items →
    later.starts.items ≡ take o.first_child e.starts.items ++ first ∷ [] → Holds text later (closed_over d.finished d.open_nodes)
held-closed text e later d j o h room en is pushed ou sta =
    let f = d.finished in
    let es = map entry_of e.elements.items in
    let first = get_or e.starts.items o.first_child (length e.elements.items) in
    let below = length e.elements.items - first in
    let a = first_trees o.first_child f in
    let b = trees_after o.first_child f in
    let size : below + 1 ≡ suc below = omega arith in
    let entry : entry_of (packed o.kind 0 0 (below + 1)) ≡ Node o.kind below = ap (λ n. entry_of (packed o.kind 0 0 n)) size
    ∙ packed_node o.kind below (omega arith) in
    let mo : map entry_of later.elements.items ≡ es ++ Node o.kind below ∷ [] = entries_push e.elements.items later.elements.items _ _ pushed entry in
    let opened : d.open_nodes ≡ (o.kind, o.first_child) ∷ open_pairs later.pending.items =
    h.pending_is ∙ open_pairs-last e.pending.items j o (omega arith) en (sym is) ∙ ap (λ os. (o.kind, o.first_child) ∷ open_pairs os) (sym ou) in
    let i : IsNested (tree_count f) ((o.kind, o.first_child) ∷ open_pairs later.pending.items) = rw opened at h.nested in
    let whole : join a b ≡ f = join_first_after o.first_child f in
    let count : element_count a + element_count b ≡ element_count f = sym (element_count-join a b) ∙ ap element_count whole in
    let fi : first ≡ element_count a = first_entry text e d o.first_child h in
    let inside : below ≡ element_count b = omega (arith, entry_count text e d h) in
    rw opened
    record {
      entries =
          mo ∙ ap (λ n. es ++ Node o.kind n ∷ []) inside ∙ ap (λ x. x ++ Node o.kind (element_count b) ∷ [])
          (h.entries ∙ ap entries_of (sym whole) ∙ entries_of-join a b)
          ∙ append_assoc (entries_of a) (entries_of b) (Node o.kind (element_count b) ∷ []) ∙ sym (entries_of-join a (node o.kind b empty));
      text_is =
          h.text_is ∙ ap text_of (sym whole) ∙ text_of-join a b
          ∙ sym (text_of-join a (node o.kind b empty) ∙ ap (λ x. text_of a ++ x) (append-nil (text_of b)));
      characters =
          HasText-join a (node o.kind b empty) (HasText-first o.first_child f h.characters) (HasText-after o.first_child f h.characters, tt);
      starts_are =
          sta ∙ ap (λ x. take o.first_child x ++ first ∷ []) h.starts_are ∙ ap (λ x. x ++ first ∷ []) (take-starts_from 0 f o.first_child)
          ∙ ap (λ n. starts_from 0 a ++ n ∷ []) (fi ∙ (omega arith)) ∙ sym (starts_from-join 0 a (node o.kind b empty));
      counted =
          omega (
            arith,
            ap length sta,
            length_push (take o.first_child e.starts.items) first,
            length-take-le o.first_child e.starts.items (omega (arith, h.counted, i.0)),
            tree_count-wrapped o.kind o.first_child f i.0,
          );
      pending_is = refl;
      nested =
          IsNested-weaker o.first_child (tree_count (wrapped o.kind o.first_child f)) (open_pairs later.pending.items)
          (omega (arith, tree_count-wrapped o.kind o.first_child f i.0)) i.1;
      short = h.short;
      few = omega (arith, ap length pushed, length_push e.elements.items (packed o.kind 0 0 (below + 1)));
    }

-- if a builder is complete, no node is open and there is one finished node
pub complete-parts : (d : Draft) → is_complete_of d ≡ true → (is_nothing d.open_nodes ≡ true) × (is_one_node d.finished ≡ true)
complete-parts d h = and_parts (is_nothing d.open_nodes) (is_one_node d.finished) h
