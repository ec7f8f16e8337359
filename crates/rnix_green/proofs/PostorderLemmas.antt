-- The steps of reading a list of entries from its end.
use Rattle.std.proofs.Common.{◌≡◌, ◌≢◌, ℕ, suc, ◌+◌, ◌-◌, ◌≤◌, ◌<◌, List, [], ◌∷◌, ◌++◌, length, get_or, take, drop, reverse, map, Option, Some, None, true}
use Rattle.std.proofs.{Common.{false, refl, ap, sym, ◌∙◌, subst, arith, length-append, append_assoc}, lemmas.List.{append-nil, same_from_push, length_push}}
use Rattle.std.proofs.lemmas.List.{take_all, take_more, length-take-le, length-map, length-reverse, reverse-append, map-append, take-set-le, drop-set}
use Rattle.{std.proofs.Math.ListN.{set, drop_of_length-le}, rnix_kinds.specs.declared.kinds.SyntaxKind.SyntaxKind}
use Rattle.rnix_green.specs.{declared.{packed.Packed.Packed, postorder.Frame.Frame}, Kept.{parent_or_root, kept_of, kept_from}, Forest.{Forest, empty, leaf}}
use Rattle.rnix_green.specs.{Forest.{node, join, text_of, element_count}, Packed.{limit, packed, len_or_start_in, size_in}, Tree.items_from, Postorder.{Entry, Leaf}}
use Rattle.rnix_green.specs.Postorder.{Node, entry_by, entry_of, entries_of, child_number, parent_number, rest_entries, rest_text, frame_kept, around}
use Rattle.rnix_green.{specs.Postorder.{IsAligned, HasMore, IsReached, IsWork}, proofs.{PackedLemmas.packed_again, ForestLemmas.text_of-join}}

-- there are as many entries as elements
pub length-post_of : (f : Forest) → length (entries_of f) ≡ element_count f
length-post_of empty = refl
length-post_of (leaf k t f) = ap suc (length-post_of f)
length-post_of (node k c f) =
    omega (arith, length-post_of c, length-post_of f, length-append (entries_of c) (Node k (element_count c) ∷ entries_of f))

-- the entries of two joined forests are those of both
pub entries_of-join : (f g : Forest) → entries_of (join f g) ≡ entries_of f ++ entries_of g
entries_of-join empty g = refl
entries_of-join (leaf k t f) g = ap (λ x. Leaf k (length t) ∷ x) (entries_of-join f g)
entries_of-join (node k c f) g =
    ap (λ x. entries_of c ++ (Node k (element_count c) ∷ x)) (entries_of-join f g)
    ∙ sym (append_assoc (entries_of c) (Node k (element_count c) ∷ entries_of f) (entries_of g))

-- the items of two joined forests are those of both, the second numbered after the first
pub items_from-join : (n s : ℕ) (p : Option ℕ) (f g : Forest) →
    items_from n s p (join f g) ≡ items_from n s p f ++ items_from (n + element_count f) (s + length (text_of f)) p g
items_from-join n s p empty g =
    let a : n ≡ n + 0 = omega arith in
    let b : s ≡ s + 0 = omega arith in
    ap (λ m. items_from m s p g) a ∙ ap (λ m. items_from (n + 0) m p g) b
items_from-join n s p (leaf k t f) g =
    let a : n + 1 + element_count f ≡ n + suc (element_count f) = omega arith in
    let b : s + length t + length (text_of f) ≡ s + length (t ++ text_of f) = omega (arith, length-append t (text_of f)) in
    ap (λ x. record { kind = k; is_node = false; start = s; end = s + length t; parent = p; below = 0 } ∷ x)
    (items_from-join (n + 1) (s + length t) p f g
    ∙ ap (λ m. items_from (n + 1) (s + length t) p f ++ items_from m (s + length t + length (text_of f)) p g) a
    ∙ ap (λ m. items_from (n + 1) (s + length t) p f ++ items_from (n + suc (element_count f)) m p g) b)
items_from-join n s p (node k c f) g =
    let xs = items_from (n + 1) s (Some n) c in
    let ys = items_from (n + 1 + element_count c) (s + length (text_of c)) p f in
    let a : n + 1 + element_count c + element_count f ≡ n + suc (element_count c + element_count f) = omega arith in
    let b : s + length (text_of c) + length (text_of f) ≡ s + length (text_of c ++ text_of f) = omega (arith, length-append (text_of c) (text_of f)) in
    ap (λ x. record { kind = k; is_node = true; start = s; end = s + length (text_of c); parent = p; below = element_count c } ∷ x)
    (ap (λ x. xs ++ x)
    (items_from-join (n + 1 + element_count c) (s + length (text_of c)) p f g
    ∙ ap (λ m. ys ++ items_from m (s + length (text_of c) + length (text_of f)) p g) a
    ∙ ap (λ m. ys ++ items_from (n + suc (element_count c + element_count f)) m p g) b)
    ∙ sym (append_assoc xs ys _))

-- the stored elements of two joined forests are those of both
kept_from-join : (n s : ℕ) (p : Option ℕ) (f g : Forest) →
    kept_from n s p (join f g) ≡ kept_from n s p f ++ kept_from (n + element_count f) (s + length (text_of f)) p g
kept_from-join n s p f g =
    ap (map kept_of) (items_from-join n s p f g) ∙ map-append kept_of (items_from n s p f) (items_from (n + element_count f) (s + length (text_of f)) p g)

-- a forest that is empty or has a last tree
pub data Last : Forest → Type 0 where
  no_last : Last empty
  last_leaf : (g : Forest) (k : SyntaxKind) (t : List ℕ) → Last (join g (leaf k t empty))
  last_node : (g : Forest) (k : SyntaxKind) (c : Forest) → Last (join g (node k c empty))

after_leaf : (k : SyntaxKind) (t : List ℕ) (f : Forest) → Last f → Last (leaf k t f)
after_leaf k t _ no_last = last_leaf empty k t
after_leaf k t _ (last_leaf g j u) = last_leaf (leaf k t g) j u
after_leaf k t _ (last_node g j c) = last_node (leaf k t g) j c

after_node : (k : SyntaxKind) (d f : Forest) → Last f → Last (node k d f)
after_node k d _ no_last = last_node empty k d
after_node k d _ (last_leaf g j u) = last_leaf (node k d g) j u
after_node k d _ (last_node g j c) = last_node (node k d g) j c

-- each forest is empty or has a last tree
pub last_of : (f : Forest) → Last f
last_of empty = no_last
last_of (leaf k t f) = after_leaf k t f (last_of f)
last_of (node k c f) = after_node k c f (last_of f)

empty_from_count : (f : Forest) → element_count f ≡ 0 → f ≡ empty
empty_from_count empty e = refl
empty_from_count (leaf k t f) e = absurd (omega arith)
empty_from_count (node k c f) e = absurd (omega arith)

-- the innermost node is closed when no entry inside it is left
pub close_step : (forest : Forest) (prefix : List Entry) (offset : ℕ) (fr : Frame) (frs : List Frame) (done : List Packed) →
    IsWork forest prefix offset (fr ∷ frs) done → fr.first ≡ length prefix →
    IsWork forest prefix offset frs (frame_kept fr offset (parent_number frs) ∷ done)
close_step forest prefix offset fr frs done w e = go w.current w.outer w.entries w.text w.aligned w.elements
  where
    go : (cur : Forest) (outer : List Forest) → prefix ≡ rest_entries (cur ∷ outer) → offset ≡ rest_text (cur ∷ outer) → IsAligned (fr ∷ frs) outer →
        around (fr ∷ frs) outer (kept_from (child_number (fr ∷ frs)) (rest_text outer) (parent_number (fr ∷ frs)) cur ++ done) ≡ kept_from 0 0 None forest →
        IsWork forest prefix offset frs (frame_kept fr offset (parent_number frs) ∷ done)
    go cur [] en te al it = absurd al
    go cur (g ∷ gs) en te al it =
        let none : cur ≡ empty =
        empty_from_count cur (omega (arith, al.0, ap length en, length-append (rest_entries (g ∷ gs)) (entries_of cur), length-post_of cur)) in
        let en' : prefix ≡ rest_entries (g ∷ gs) ++ [] = rw none at en in
        let te' : offset ≡ rest_text (g ∷ gs) + 0 = rw none at te in
        let same : rest_text (g ∷ gs) ≡ offset = omega arith in
        record {
          current = g;
          outer = gs;
          entries = en' ∙ append-nil (rest_entries (g ∷ gs));
          text = sym same;
          aligned = al.2;
          elements =
              ap (λ o. around frs gs (kept_from (child_number frs) (rest_text gs) (parent_number frs) g ++ (frame_kept fr o (parent_number frs) ∷ done)))
              (sym same)
              ∙ (rw none at it);
        }

nothing_remaining : (frs : List Frame) (outer : List Forest) (n : ℕ) → IsAligned frs outer → length (rest_entries outer) ≡ n → HasMore frs n → 0 < n → ⊥
nothing_remaining [] [] n al e o h = omega arith
nothing_remaining [] (g ∷ gs) n al e o h = al
nothing_remaining (fr ∷ frs) [] n al e o h = al
nothing_remaining (fr ∷ frs) (g ∷ gs) n al e o h = o (al.0 ∙ e)

-- what follows when the last entry, a leaf, is read: the rest of the work, and that the lengths can be subtracted
pub record IsLeafRead (forest : Forest) (before : List Entry) (offset : ℕ) (frs : List Frame) (done : List Packed) (k : SyntaxKind) (n : ℕ) : Type 0 where
  pub fits : n ≤ offset
  pub work : IsWork forest before (offset - n) frs
      (packed k (offset - n) (parent_or_root (parent_number frs)) 0 ∷ done)

-- this holds when a leaf is read
pub leaf_step : (forest : Forest) (before : List Entry) (offset : ℕ) (frs : List Frame) (done : List Packed) (k : SyntaxKind) (n : ℕ) →
    IsWork forest (before ++ Leaf k n ∷ []) offset frs done → HasMore frs (length before + 1) → IsLeafRead forest before offset frs done k n
leaf_step forest before offset frs done k n w o = go w.current w.outer (last_of w.current) w.entries w.text w.aligned w.elements
  where
    go : (cur : Forest) (outer : List Forest) → Last cur → before ++ Leaf k n ∷ [] ≡ rest_entries (cur ∷ outer) → offset ≡ rest_text (cur ∷ outer) →
        IsAligned frs outer → around frs outer (kept_from (child_number frs) (rest_text outer) (parent_number frs) cur ++ done) ≡ kept_from 0 0 None forest →
        IsLeafRead forest before offset frs done k n
    go _ outer no_last en te al it =
        absurd (nothing_remaining frs outer (length before + 1) al
        (sym (ap length (en ∙ append-nil (rest_entries outer))) ∙ length_push before (Leaf k n)) o (omega arith))
    go _ outer (last_node g j c) en te al it =
        let e : before ++ Leaf k n ∷ [] ≡ (rest_entries outer ++ (entries_of g ++ entries_of c)) ++ Node j (element_count c) ∷ [] =
        en ∙ ap (λ x. rest_entries outer ++ x) (entries_of-join g (node j c empty)
        ∙ sym (append_assoc (entries_of g) (entries_of c) (Node j (element_count c) ∷ [])))
        ∙ sym (append_assoc (rest_entries outer) (entries_of g ++ entries_of c) (Node j (element_count c) ∷ [])) in
        let two : Leaf k n ≡ Node j (element_count c) = (same_from_push _ _ _ _ e).1 in
        cc
    go _ outer (last_leaf g j t) en te al it =
        let e : before ++ Leaf k n ∷ [] ≡ (rest_entries outer ++ entries_of g) ++ Leaf j (length t) ∷ [] =
        en ∙ ap (λ x. rest_entries outer ++ x) (entries_of-join g (leaf j t empty))
        ∙ sym (append_assoc (rest_entries outer) (entries_of g) (Leaf j (length t) ∷ [])) in
        let same = same_from_push _ _ _ _ e in
        let last : Leaf k n ≡ Leaf j (length t) = same.1 in
        let kinds : j ≡ k = cc in
        let lengths : n ≡ length t = cc in
        let whole : offset ≡ rest_text outer + length (text_of g ++ (t ++ [])) = te ∙ ap (λ x. rest_text outer + length x) (text_of-join g (leaf j t empty)) in
        let all : offset ≡ rest_text outer + length (text_of g) + n =
        omega (arith, length-append (text_of g) (t ++ []), length-append t []) in
        let rest : offset - n ≡ rest_text outer + length (text_of g) = omega arith in
        let P : List Packed → Type 0 = λ es. around frs outer es ≡ kept_from 0 0 None forest in
        let xs = kept_from (child_number frs) (rest_text outer) (parent_number frs) g in
        let par = parent_or_root (parent_number frs) in
        let split : kept_from (child_number frs) (rest_text outer) (parent_number frs) (join g (leaf j t empty)) ++ done ≡ xs
        ++ (packed k (offset - n) par 0 ∷ done) =
        ap (λ ys. ys ++ done) (kept_from-join (child_number frs) (rest_text outer) (parent_number frs) g (leaf j t empty))
        ∙ append_assoc xs _ done
        ∙ ap (λ e. xs ++ (e ∷ done))
        (ap (λ a. packed a (rest_text outer + length (text_of g)) par 0) kinds ∙ ap (λ a. packed k a par 0) (sym rest)) in
        record {
          fits = omega arith;
          work = record { current = g; outer = outer; entries = same.0; text = rest; aligned = al; elements = subst P split it };
        }

-- the number of the next child is the number of entries that are left, and of open nodes
first_child : (frs : List Frame) (outer : List Forest) → IsAligned frs outer → child_number frs ≡ length (rest_entries outer) + length frs
first_child [] [] al = refl
first_child [] (g ∷ gs) al = absurd al
first_child (fr ∷ frs) [] al = absurd al
first_child (fr ∷ frs) (g ∷ gs) al = omega (arith, al.1)

-- what follows when the last entry, a node, is read: its frame is open, and what is inside it is left
pub record IsNodeRead (forest : Forest) (before : List Entry) (offset : ℕ) (frs : List Frame) (done : List Packed) (fr : Frame) (b : ℕ) : Type 0 where
  pub fits : b ≤ length before
  pub work : fr.first ≡ length before - b → fr.number ≡ fr.first + length frs → IsWork forest before offset (fr ∷ frs) done

-- this holds when a node is read
pub node_step : (forest : Forest) (before : List Entry) (offset : ℕ) (frs : List Frame) (done : List Packed) (fr : Frame) (b : ℕ) → fr.size ≡ suc b →
    IsWork forest (before ++ Node fr.kind b ∷ []) offset frs done → HasMore frs (length before + 1) → IsNodeRead forest before offset frs done fr b
node_step forest before offset frs done fr b size w o = go w.current w.outer (last_of w.current) w.entries w.text w.aligned w.elements
  where
    go : (cur : Forest) (outer : List Forest) → Last cur → before ++ Node fr.kind b ∷ [] ≡ rest_entries (cur ∷ outer) → offset ≡ rest_text (cur ∷ outer) →
        IsAligned frs outer → around frs outer (kept_from (child_number frs) (rest_text outer) (parent_number frs) cur ++ done) ≡ kept_from 0 0 None forest →
        IsNodeRead forest before offset frs done fr b
    go _ outer no_last en te al it =
        absurd (nothing_remaining frs outer (length before + 1) al
        (sym (ap length (en ∙ append-nil (rest_entries outer))) ∙ length_push before (Node fr.kind b)) o (omega arith))
    go _ outer (last_leaf g j t) en te al it =
        let e : before ++ Node fr.kind b ∷ [] ≡ (rest_entries outer ++ entries_of g) ++ Leaf j (length t) ∷ [] =
        en ∙ ap (λ x. rest_entries outer ++ x) (entries_of-join g (leaf j t empty))
        ∙ sym (append_assoc (rest_entries outer) (entries_of g) (Leaf j (length t) ∷ [])) in
        let two : Node fr.kind b ≡ Leaf j (length t) = (same_from_push _ _ _ _ e).1 in
        cc
    go _ outer (last_node g j c) en te al it =
        let e : before ++ Node fr.kind b ∷ [] ≡ ((rest_entries outer ++ entries_of g) ++ entries_of c) ++ Node j (element_count c) ∷ [] =
        en ∙ ap (λ x. rest_entries outer ++ x) (entries_of-join g (node j c empty))
        ∙ sym (append_assoc (rest_entries outer) (entries_of g) (entries_of c ++ (Node j (element_count c) ∷ [])))
        ∙ sym (append_assoc (rest_entries outer ++ entries_of g) (entries_of c) (Node j (element_count c) ∷ [])) in
        let same = same_from_push _ _ _ _ e in
        let last : Node fr.kind b ≡ Node j (element_count c) = same.1 in
        let kinds : j ≡ fr.kind = cc in
        let belows : element_count c ≡ b = cc in
        let counts : length before ≡ length (rest_entries outer ++ entries_of g) + element_count c =
        omega (arith, ap length same.0, length-append (rest_entries outer ++ entries_of g) (entries_of c), length-post_of c) in
        let whole : offset ≡ rest_text outer + length (text_of g ++ (text_of c ++ [])) =
        te ∙ ap (λ x. rest_text outer + length x) (text_of-join g (node j c empty)) in
        let all : rest_text outer + length (text_of g) + length (text_of c) ≡ offset =
        omega (arith, length-append (text_of g) (text_of c ++ []), length-append (text_of c) []) in
        let P : List Packed → Type 0 = λ es. around frs outer es ≡ kept_from 0 0 None forest in
        let xs = kept_from (child_number frs) (rest_text outer) (parent_number frs) g in
        let s = rest_text outer + length (text_of g) in
        record {
          fits = omega arith;
          work = λ first number.
              let inner : child_number frs + element_count g ≡ fr.number =
              omega (arith, first_child frs outer al, length-append (rest_entries outer) (entries_of g), length-post_of g) in
              let sizes : suc (element_count c) ≡ fr.size = ap suc belows ∙ sym size in
              let is = items_from (fr.number + 1) s (Some fr.number) c in
              let ys = kept_from (fr.number + 1) s (Some fr.number) c in
              let par = parent_or_root (parent_number frs) in
              let split :
              kept_from (child_number frs) (rest_text outer) (parent_number frs) (join g (node j c empty)) ++ done
              ≡ xs ++ (frame_kept fr s (parent_number frs) ∷ (ys ++ done)) =
              ap (λ zs. zs ++ done) (kept_from-join (child_number frs) (rest_text outer) (parent_number frs) g (node j c empty))
              ∙ append_assoc xs _ done
              ∙ ap (λ m. xs ++ (kept_from m s (parent_number frs) (node j c empty) ++ done)) inner
              ∙ ap (λ zs. xs ++ (packed j s par (suc (element_count c)) ∷ (map kept_of zs ++ done))) (append-nil is)
              ∙ ap (λ e. xs ++ (e ∷ (ys ++ done)))
              (ap (λ a. packed a s par (suc (element_count c))) kinds ∙ ap (λ a. packed fr.kind s par a) sizes) in
              record {
                current = c;
                outer = g ∷ outer;
                entries = same.0;
                text = omega arith;
                aligned = (omega arith, omega arith, al);
                elements = subst P split it;
              };
        }

-- if no entry is left, no node is open
no_frame : (frs : List Frame) (outer : List Forest) → IsAligned frs outer → length (rest_entries outer) ≡ 0 → HasMore frs 0 → frs ≡ []
no_frame [] outer al e o = refl
no_frame (fr ∷ frs) [] al e o = absurd al
no_frame (fr ∷ frs) (g ∷ gs) al e o = absurd (o (al.0 ∙ e))

-- at the beginning all entries are left
pub start_work : (forest : Forest) (offset : ℕ) → offset ≡ length (text_of forest) → IsWork forest (entries_of forest) offset [] []
start_work forest offset e = record {
  current = forest;
  outer = [];
  entries = refl;
  text = omega arith;
  aligned = tt;
  elements = append-nil _;
}

-- if no entry is left, all items are placed
pub end_work : (forest : Forest) (offset : ℕ) (frs : List Frame) (done : List Packed) → IsWork forest [] offset frs done → HasMore frs 0
    → done ≡ kept_from 0 0 None forest
end_work forest offset frs done w o =
    let none : length (rest_entries w.outer ++ entries_of w.current) ≡ 0 = sym (ap length w.entries) in
    let shut : frs ≡ [] = no_frame frs w.outer w.aligned (omega (arith, length-append (rest_entries w.outer) (entries_of w.current))) o in
    go w.current w.outer w.entries (rw shut at w.aligned) (rw shut at w.elements)
  where
    go : (cur : Forest) (outer : List Forest) → [] ≡ rest_entries (cur ∷ outer) → IsAligned [] outer →
        around [] outer (kept_from 0 (rest_text outer) None cur ++ done) ≡ kept_from 0 0 None forest → done ≡ kept_from 0 0 None forest
    go cur [] en al it =
        let none : cur ≡ empty = empty_from_count cur (sym (length-post_of cur) ∙ sym (ap length en)) in
        rw none at it
    go cur (g ∷ gs) en al it = absurd al

-- a stored leaf is a leaf again
pub packed_leaf : (k : SyntaxKind) (n : ℕ) → n < limit → entry_of (packed k n 0 0) ≡ Leaf k n
packed_leaf k n l = ap (Leaf k) (packed_again n l)

-- a stored node is a node again
pub packed_node : (k : SyntaxKind) (b : ℕ) → suc b < limit → entry_of (packed k 0 0 (suc b)) ≡ Node k b
packed_node k b l = ap (λ m. entry_by m k 0) (packed_again (suc b) l)

-- an element without a size is a leaf
leaf_entry : (x : Packed) → size_in x ≡ 0 → entry_of x ≡ Leaf x.kind (len_or_start_in x)
leaf_entry x e = ap (λ m. entry_by m x.kind (len_or_start_in x)) e

-- an element with a size is a node
node_entry : (x : Packed) (b : ℕ) → size_in x ≡ suc b → entry_of x ≡ Node x.kind b
node_entry x b e = ap (λ m. entry_by m x.kind (len_or_start_in x)) e

-- the first elements, as entries
abbrev pub entries_before : ℕ → List Packed → List Entry
entries_before n es = map entry_of (take n es)

pub length-entries_before : (n : ℕ) (es : List Packed) → n ≤ length es → length (entries_before n es) ≡ n
length-entries_before n es l = length-map (take n es) entry_of ∙ length-take-le n es l

-- all entries but the last one that is left
last_entry : (es : List Packed) (todo : ℕ) (x : Packed) → todo ≤ length es → todo ≢ 0 → x ≡ get_or es (todo - 1) x
    → entries_before todo es ≡ entries_before (todo - 1) es ++ entry_of x ∷ []
last_entry es todo x l z e =
    let more : todo ≡ todo - 1 + 1 = omega arith in
    ap (λ n. entries_before n es) more ∙ ap (map entry_of) (take_more es (todo - 1) x (omega arith) ∙ ap (λ y. take (todo - 1) es ++ y ∷ []) (sym e))
    ∙ map-append entry_of (take (todo - 1) es) (x ∷ [])

-- reading a leaf from the list
pub leaf_at : (forest : Forest) (es : List Packed) (todo offset : ℕ) (frs : List Frame) (done : List Packed) (x : Packed) →
    todo ≤ length es → todo ≢ 0 → x ≡ get_or es (todo - 1) x → size_in x ≡ 0 → HasMore frs todo → IsWork forest (entries_before todo es) offset frs done →
    IsLeafRead forest (entries_before (todo - 1) es) offset frs done x.kind (len_or_start_in x)
leaf_at forest es todo offset frs done x l z e size o w =
    let same : todo ≡ length (entries_before (todo - 1) es) + 1 = omega (arith, length-entries_before (todo - 1) es (omega arith)) in
    leaf_step forest (entries_before (todo - 1) es) offset frs done x.kind (len_or_start_in x)
    (rw (last_entry es todo x l z e, leaf_entry x size) at w) (subst (HasMore frs) same o)

-- reading a node from the list
pub node_at : (forest : Forest) (es : List Packed) (todo offset : ℕ) (frs : List Frame) (done : List Packed) (x : Packed) (fr : Frame) (b : ℕ) →
    todo ≤ length es → todo ≢ 0 → x ≡ get_or es (todo - 1) x → size_in x ≡ suc b → fr.kind ≡ x.kind → fr.size ≡ size_in x → HasMore frs todo →
    IsWork forest (entries_before todo es) offset frs done → IsNodeRead forest (entries_before (todo - 1) es) offset frs done fr b
node_at forest es todo offset frs done x fr b l z e size kind same_size o w =
    let same : todo ≡ length (entries_before (todo - 1) es) + 1 = omega (arith, length-entries_before (todo - 1) es (omega arith)) in
    let entry : entry_of x ≡ Node fr.kind b = node_entry x b size ∙ ap (λ k. Node k b) (sym kind) in
    node_step forest (entries_before (todo - 1) es) offset frs done fr b (same_size ∙ size) (rw (last_entry es todo x l z e, entry) at w)
    (subst (HasMore frs) same o)

-- closing the innermost frame
pub close_at : (forest : Forest) (es : List Packed) (todo offset : ℕ) (frames : List Frame) (done : List Packed) (fr : Frame) →
    todo ≤ length es → IsReached frames todo fr → IsWork forest (entries_before todo es) offset (reverse frames) done →
    IsWork forest (entries_before todo es) offset (reverse (take (length frames - 1) frames))
    (frame_kept fr offset (parent_number (reverse (take (length frames - 1) frames))) ∷ done)
close_at forest es todo offset frames done fr l h w =
    close_step forest (entries_before todo es) offset fr _ done (rw h.innermost at w) (h.reached ∙ sym (length-entries_before todo es l))

-- an element is placed before those that are placed
placed : (forest : Forest) (es : List Packed) (todo offset i : ℕ) (frs : List Frame) (x : Packed) → todo ≤ i → i < length es →
    IsWork forest (entries_before todo es) offset frs (x ∷ drop (i + 1) es) → IsWork forest (entries_before todo (set es i x)) offset frs (drop i (set es i x))
placed forest es todo offset i frs x l h w = rw (take-set-le todo es i x l, drop-set es i x h) w

-- placing the node of the innermost frame
pub node_placed : (forest : Forest) (es : List Packed) (todo offset i : ℕ) (frames rest : List Frame) (x : Packed) (fr : Frame) →
    todo + length frames ≤ length es → IsReached frames todo fr → rest ≡ take (length frames - 1) frames → i ≡ todo + length rest →
    x ≡ frame_kept fr offset (parent_number (reverse rest)) →
    IsWork forest (entries_before todo es) offset (reverse frames) (drop (todo + length frames) es) →
    IsWork forest (entries_before todo (set es i x)) offset (reverse rest) (drop (todo + length rest) (set es i x))
node_placed forest es todo offset i frames rest x fr l h r e is w =
    let some : 0 < length frames = omega (arith, ap length h.innermost, length-reverse frames) in
    let one : i + 1 ≡ todo + length frames = omega (arith, e, ap length r, length-take-le (length frames - 1) frames (omega arith)) in
    let closed : IsWork forest (entries_before todo es) offset (reverse rest)
    (frame_kept fr offset (parent_number (reverse rest)) ∷ drop (todo + length frames) es) =
    rw r (close_at forest es todo offset frames (drop (todo + length frames) es) fr (omega arith) h w) in
    subst (λ n. IsWork forest (entries_before todo (set es i x)) offset (reverse rest) (drop n (set es i x))) e
    (placed forest es todo offset i (reverse rest) x (omega arith) (omega arith) (rw (one, is) closed))

-- placing a leaf
pub leaf_placed : (forest : Forest) (es : List Packed) (todo offset i : ℕ) (frames : List Frame) (k : SyntaxKind) (n : ℕ) (x : Packed) →
    todo + length frames ≤ length es → todo ≢ 0 → i ≡ todo - 1 + length frames → x ≡ packed k (offset - n) (parent_or_root (parent_number (reverse frames))) 0 →
    IsLeafRead forest (entries_before (todo - 1) es) offset (reverse frames) (drop (todo + length frames) es) k n →
    IsWork forest (entries_before (todo - 1) (set es i x)) (offset - n) (reverse frames) (drop (todo - 1 + length frames) (set es i x))
leaf_placed forest es todo offset i frames k n x l z e is r =
    let one : i + 1 ≡ todo + length frames = omega arith in
    subst (λ m. IsWork forest (entries_before (todo - 1) (set es i x)) (offset - n) (reverse frames) (drop m (set es i x))) e
    (placed forest es (todo - 1) (offset - n) i (reverse frames) x (omega arith) (omega arith) (rw (one, is) r.work))

-- opening the frame of a node
pub node_framed : (forest : Forest) (es : List Packed) (todo offset : ℕ) (frames more : List Frame) (fr : Frame) → todo ≢ 0 → more ≡ frames ++ fr ∷ [] →
    IsWork forest (entries_before (todo - 1) es) offset (fr ∷ reverse frames) (drop (todo + length frames) es) →
    IsWork forest (entries_before (todo - 1) es) offset (reverse more) (drop (todo - 1 + length more) es)
node_framed forest es todo offset frames more fr z e w =
    let same : todo - 1 + length more ≡ todo + length frames = omega (arith, ap length e, length_push frames fr) in
    let turned : reverse more ≡ fr ∷ reverse frames = ap reverse e ∙ reverse-append frames (fr ∷ []) in
    rw (same, turned) w

end_frames : (forest : Forest) (offset : ℕ) (frs : List Frame) (done : List Packed) → IsWork forest [] offset frs done → HasMore frs 0 → frs ≡ []
end_frames forest offset frs done w o =
    let none : length (rest_entries w.outer ++ entries_of w.current) ≡ 0 = sym (ap length w.entries) in
    no_frame frs w.outer w.aligned (omega (arith, length-append (rest_entries w.outer) (entries_of w.current))) o

-- if no entry is left, all elements are placed
pub placed_all : (forest : Forest) (es : List Packed) (todo offset depth : ℕ) (frs : List Frame) → todo ≡ 0 → depth ≡ length frs → HasMore frs todo →
    IsWork forest (entries_before todo es) offset frs (drop (todo + depth) es) → es ≡ kept_from 0 0 None forest
placed_all forest es todo offset depth frs z d o w =
    let from : todo + depth ≡ depth = omega arith in
    let last : IsWork forest [] offset frs (drop depth es) =
    subst (λ n. IsWork forest (entries_before n es) offset frs (drop depth es)) z
    (subst (λ n. IsWork forest (entries_before todo es) offset frs (drop n es)) from w) in
    let more : HasMore frs 0 = subst (HasMore frs) z o in
    let none : depth ≡ 0 = d ∙ ap length (end_frames forest offset frs (drop depth es) last more) in
    ap (λ n. drop n es) (sym none) ∙ end_work forest offset frs (drop depth es) last more

-- at the beginning all of the builder's entries are left
pub init_work : (forest : Forest) (es : List Packed) (offset todo : ℕ) (text : List ℕ) (frames : List Frame) → map entry_of es ≡ entries_of forest →
    offset ≡ length text → todo ≡ length es → text ≡ text_of forest → frames ≡ [] →
    IsWork forest (entries_before todo es) offset (reverse frames) (drop (todo + length frames) es)
init_work forest es offset todo text frames e o l t f =
    let none : drop (todo + length frames) es ≡ [] = drop_of_length-le es (omega (arith, ap length f)) in
    let all : entries_before todo es ≡ entries_of forest =
    ap (λ n. entries_before n es) l ∙ ap (map entry_of) (take_all (length es) es (omega arith)) ∙ e in
    rw (none, all, f) (start_work forest offset (o ∙ ap length t))
