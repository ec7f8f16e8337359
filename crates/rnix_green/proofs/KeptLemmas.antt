-- A tree can be rebuilt from its stored elements and its text.
use Rattle.std.proofs.Common.{◌≡◌, ℕ, zero, suc, ◌+◌, ◌-◌, ◌<◌, List, [], ◌∷◌, ◌++◌, length, take, drop, Option, Some, None, true, map, refl, ap, sym, subst}
use Rattle.std.proofs.{Common.{◌∙◌, arith, length-append, append_assoc}, lemmas.List.{take_at, drop_at, append-nil, drop-drop, map-append, length-map}}
use Rattle.{std.specs.Prelude.slice_get, rnix_green.specs.{declared.{packed.Packed.Packed, entries.{Entries.Entries, OpenNode.OpenNode as Pending}}, Forest.{Forest, empty, leaf}}}
use Rattle.rnix_green.specs.{Forest.{node, join, element_count, tree_count, text_of}, Packed.{limit, word_of, packed, len_or_start_in}, Kept.{parent_or_root, kept_of}}
use Rattle.rnix_green.specs.{Kept.{kept_from, first_elements, elements_after, tree_before, start_of_first, forest_from, as_tree, tree_from, IsKept}, Tree.Tree}
use Rattle.rnix_green.specs.{Tree.{items_from, items_of, forest_of}, Draft.{Draft, OpenNode, is_one_node, is_complete_of}, Postorder.{Entry, Node, entry_of, entries_of}}
use Rattle.rnix_green.specs.{Entries.{Holds, IsDraft, draft_in, made, is_node_last, is_node_entry}, ForestCode.join_empty}
use Rattle.rnix_green.proofs.{EntriesLemmas.{first_elements-join, elements_after-join, entry_count, complete-parts}, PackedLemmas.packed_again}
use Rattle.rnix_green.proofs.PieceLemmas.{length-items_from}

-- the first element of a forest starts where the forest does, or, if the forest is empty, what follows does
start_of_first-trees : (whole : List ℕ) (n s : ℕ) (p : Option ℕ) (f : Forest) (es : List Packed) → s + length (text_of f) ≡ start_of_first whole es →
    s < limit → start_of_first whole (kept_from n s p f ++ es) ≡ s
start_of_first-trees whole n s p empty es e l = omega arith
start_of_first-trees whole n s p (leaf k t f) es e l = packed_again s l
start_of_first-trees whole n s p (node k c f) es e l = packed_again s l

-- the forest is rebuilt from its elements, if its text is at its start, and the elements after it remain
pub forest_from-trees : (whole : List ℕ) (n s : ℕ) (p : Option ℕ) (f : Forest) (rest : List ℕ) (es : List Packed) → drop s whole ≡ text_of f ++ rest →
    s + length (text_of f) ≡ start_of_first whole es → s + length (text_of f) < limit → element_count f < limit →
    forest_from whole (kept_from n s p f ++ es) ≡ join f (forest_from whole es)
forest_from-trees whole n s p empty rest es e b l m = refl
forest_from-trees whole n s p (leaf k t f) rest es e b l m =
    let behind : s + length t + length (text_of f) ≡ start_of_first whole es = omega (arith, length-append t (text_of f)) in
    let low : s + length t + length (text_of f) < limit = omega (arith, length-append t (text_of f)) in
    let here : len_or_start_in (packed k s (parent_or_root p) 0) ≡ s = packed_again s (omega arith) in
    let next : start_of_first whole (kept_from (n + 1) (s + length t) p f ++ es) ≡ s + length t =
    start_of_first-trees whole (n + 1) (s + length t) p f es behind (omega arith) in
    let len : s + length t - s ≡ length t = omega arith in
    let at : drop s whole ≡ t ++ (text_of f ++ rest) = e ∙ append_assoc t (text_of f) rest in
    let text : take (s + length t - s) (drop s whole) ≡ t =
    ap (λ m. take m (drop s whole)) len ∙ ap (take (length t)) at ∙ take_at t (text_of f ++ rest) (length t) refl in
    let later : drop (s + length t) whole ≡ text_of f ++ rest =
    sym (drop-drop (length t) s whole) ∙ ap (drop (length t)) at ∙ drop_at t (text_of f ++ rest) (length t) refl in
    let trees = forest_from whole (kept_from (n + 1) (s + length t) p f ++ es) in
    ap (λ x. leaf k (take (x - word_of s) (drop (word_of s) whole)) trees) next
    ∙ ap (λ x. leaf k (take (s + length t - x) (drop x whole)) trees) here
    ∙ ap (λ x. leaf k x trees) text
    ∙ ap (leaf k t) (forest_from-trees whole (n + 1) (s + length t) p f rest es later behind low (omega arith))
forest_from-trees whole n s p (node k c f) rest es e b l m =
    let xs = kept_from (n + 1) s (Some n) c in
    let ys = kept_from (n + 1 + element_count c) (s + length (text_of c)) p f in
    let behind : s + length (text_of c) + length (text_of f) ≡ start_of_first whole es = omega (arith, length-append (text_of c) (text_of f)) in
    let low : s + length (text_of c) + length (text_of f) < limit = omega (arith, length-append (text_of c) (text_of f)) in
    let at : drop s whole ≡ text_of c ++ (text_of f ++ rest) = e ∙ append_assoc (text_of c) (text_of f) rest in
    let later : drop (s + length (text_of c)) whole ≡ text_of f ++ rest =
    sym (drop-drop (length (text_of c)) s whole) ∙ ap (drop (length (text_of c))) at ∙ drop_at (text_of c) (text_of f ++ rest) (length (text_of c)) refl in
    let next : s + length (text_of c) ≡ start_of_first whole (ys ++ es) =
    sym (start_of_first-trees whole (n + 1 + element_count c) (s + length (text_of c)) p f es behind (omega arith)) in
    let split : map kept_of (items_from (n + 1) s (Some n) c ++ items_from (n + 1 + element_count c) (s + length (text_of c)) p f) ≡ xs ++ ys =
    map-append kept_of (items_from (n + 1) s (Some n) c) (items_from (n + 1 + element_count c) (s + length (text_of c)) p f) in
    let all : forest_from whole (map kept_of (items_from (n + 1) s (Some n) c ++ items_from (n + 1 + element_count c) (s + length (text_of c)) p f) ++ es)
    ≡ join c (join f (forest_from whole es)) =
    ap (λ x. forest_from whole (x ++ es)) split ∙ ap (forest_from whole) (append_assoc xs ys es)
    ∙ forest_from-trees whole (n + 1) s (Some n) c (text_of f ++ rest) (ys ++ es) at next (omega arith) (omega arith)
    ∙ ap (join c) (forest_from-trees whole (n + 1 + element_count c) (s + length (text_of c)) p f rest es later behind low (omega arith)) in
    let kept_elements = map kept_of (items_from (n + 1) s (Some n) c ++ items_from (n + 1 + element_count c) (s + length (text_of c)) p f) ++ es in
    let len_or_start = word_of s in
    ap (λ x. tree_before x k (take (start_of_first whole kept_elements - len_or_start) (drop len_or_start whole)) (forest_from whole kept_elements))
    (packed_again (suc (element_count c)) (omega arith))
    ∙ ap (λ x. node k (first_elements (element_count c) x) (elements_after (element_count c) x)) all
    ∙ ap (λ x. node k x (elements_after (element_count c) (join c (join f (forest_from whole es))))) (first_elements-join c (join f (forest_from whole es)))
    ∙ ap (node k c) (elements_after-join c (join f (forest_from whole es)))

-- the tree that is rebuilt from its stored elements is the tree
pub tree_from_kept : (t : Tree) (es : List Packed) (text : List ℕ) → IsKept t es text → tree_from es text ≡ t
tree_from_kept t es text h =
    let whole : length text ≡ length (text_of (forest_of t)) = ap length h.text_is in
    let many : length es ≡ element_count (forest_of t) =
    ap length h.elements ∙ length-map (items_of t) kept_of ∙ length-items_from 0 0 None (forest_of t) in
    let same : forest_from text (kept_from 0 0 None (forest_of t)) ≡ forest_of t =
    ap (forest_from text) (sym (append-nil (kept_from 0 0 None (forest_of t))))
    ∙ forest_from-trees text 0 0 None (forest_of t) [] [] (h.text_is ∙ sym (append-nil (text_of (forest_of t)))) (omega arith)
    (omega (arith, h.short)) (omega (arith, h.few))
    ∙ join_empty (forest_of t) in
    ap (λ x. as_tree (forest_from text x)) h.elements ∙ ap as_tree same

-- the elements are the stored ones of the tree that is rebuilt from them
pub kept : (t : Tree) (es : List Packed) (text : List ℕ) → IsKept t es text → IsKept (tree_from es text) es text
kept t es text h = rw (tree_from_kept t es text h) h

-- a forest of one node is the forest of a tree
pub one_node : (f : Forest) → is_one_node f ≡ true → forest_of (as_tree f) ≡ f
one_node empty h = cc
one_node (leaf k t f) h = cc
one_node (node k c empty) h = refl
one_node (node k c (leaf j t f)) h = cc
one_node (node k c (node j d f)) h = cc

-- the stored elements of a finished tree, with the builder's text
finished_kept : (text : List ℕ) (e : Entries) (f : Forest) (os : List OpenNode) (elements : List Packed) →
    Holds text e record { finished = f; open_nodes = os } → is_one_node f ≡ true → elements ≡ kept_from 0 0 None f → IsKept (as_tree f) elements text
finished_kept text e empty os elements h o is = absurd (cc)
finished_kept text e (leaf k t f) os elements h o is = absurd (cc)
finished_kept text e (node k c empty) os elements h o is =
    let f = node k c empty in
    let many : length elements ≡ element_count f = ap length is ∙ length-map (items_from 0 0 None f) kept_of ∙ length-items_from 0 0 None f in
    record {
      elements = is;
      text_is = h.text_is;
      characters = h.characters;
      short = h.short;
      few = omega (arith, many, h.few, entry_count text e _ h);
    }
finished_kept text e (node k c (leaf j t f)) os elements h o is = absurd (cc)
finished_kept text e (node k c (node j d f)) os elements h o is = absurd (cc)

-- the same with a copy of the text
pub copied_kept : (text cut copy : List ℕ) (e : Entries) (elements : List Packed) → Holds text e (draft_in text e) →
    is_complete_of (draft_in text e) ≡ true → cut ≡ text → copy ≡ cut → elements ≡ kept_from 0 0 None (made cut e.elements.items)
    → IsKept (as_tree (made text e.elements.items)) elements copy
copied_kept text cut copy e elements h o c p is =
    subst (IsKept (as_tree (made text e.elements.items)) elements) (sym (p ∙ c))
    (finished_kept text e _ _ elements h (complete-parts (draft_in text e) o).1 (is ∙ ap (λ t. kept_from 0 0 None (made t e.elements.items)) c))

-- the tree that is rebuilt from the stored elements of a complete builder is the one that the builder made
pub finished_is : (text copy : List ℕ) (e : Entries) (elements : List Packed) (t : Tree) → is_complete_of (draft_in text e) ≡ true →
    IsKept (as_tree (made text e.elements.items)) elements copy → t ≡ tree_from elements copy → forest_of t ≡ made text e.elements.items
finished_is text copy e elements t o h is =
    ap forest_of (is ∙ tree_from_kept (as_tree (made text e.elements.items)) elements copy h) ∙ one_node _ (complete-parts (draft_in text e) o).1

last_get : (es : List Entry) (x : Entry) (n : ℕ) → n ≡ length es → slice_get (es ++ x ∷ []) n ≡ Some x
last_get [] x zero h = refl
last_get [] x (suc n) h = absurd (omega arith)
last_get (e ∷ es) x zero h = absurd (omega arith)
last_get (e ∷ es) x (suc n) h = last_get es x n (omega arith)

-- a forest of one tree is a node exactly if the last entry is
pub one_node_test : (f : Forest) → tree_count f ≡ 1 → is_one_node f ≡ is_node_last (entries_of f)
one_node_test empty h = absurd (omega arith)
one_node_test (leaf k t empty) h = refl
one_node_test (leaf k t (leaf j u f)) h = absurd (omega arith)
one_node_test (leaf k t (node j c f)) h = absurd (omega arith)
one_node_test (node k c empty) h = ap is_node_entry
    (sym (last_get (entries_of c) (Node k (element_count c)) _ (omega (arith, length-append (entries_of c) (Node k (element_count c) ∷ [])))))
one_node_test (node k c (leaf j u f)) h = absurd (omega arith)
one_node_test (node k c (node j d f)) h = absurd (omega arith)

-- if no node is open and there is one tree, a builder is complete exactly if the last entry is a node
pub complete_is : (text : List ℕ) (es : List Packed) (os : List Pending) (st : List ℕ) (d : Draft) → IsDraft text es os st d → length os ≡ 0 → length st ≡ 1 →
    is_node_last (map entry_of es) ≡ is_complete_of d
complete_is text es [] st d h o s =
    ap is_node_last h.entries ∙ sym (one_node_test d.finished (sym h.counted ∙ s))
    ∙ ap (λ (ps : List OpenNode). is_complete_of record { finished = d.finished; open_nodes = ps }) (sym h.pending_is)
complete_is text es (p ∷ os) st d h o s = absurd (omega arith)
