-- Siblings of a tree as a forest.
use Rattle.std.proofs.Common.{◌≡◌, ℕ, zero, suc, ◌+◌, ◌-◌, ◌≤◌, ◌<◌, List, [], ◌++◌, length, get_or, true, false, Option, Some, None, refl, ap, sym}
use Rattle.std.proofs.{Common.{◌∙◌, subst, arith, inl, inr, append_assoc, length-append}, lemmas.{Bool.cases_lt, Option.same_Some, List.{append-nil, get_or_append_left}}}
use Rattle.std.proofs.lemmas.List.{get_or-append_right}
use Rattle.{std.specs.Prelude.{if◌then◌else◌, nat_lt}, rnix_kinds.specs.declared.kinds.SyntaxKind.SyntaxKind}
use Rattle.rnix_green.specs.Forest.{Forest, empty, leaf, node, join, text_of, element_count}
use Rattle.rnix_green.specs.Tree.{Tree, Item, items_from, items_of, item, no_item, forest_of, part_of, part_at}
use Rattle.rnix_green.proofs.{ForestLemmas.{text_of-join, element_count-join}, PostorderLemmas.items_from-join, PieceLemmas.length-items_from}
use Rattle.rnix_green.proofs.{NestLemmas.{at, Parented, of_row, of_node, parented}, NumberTests.{is_same, is_above, is_below, is_not_below}}
use Rattle.rnix_green.proofs.{InsideLemmas.elements_in_all, SiblingLemmas.next_inside, PartLemmas.{IsPart, IsOne, one_leaf, one_node, part_there, one_there, item_of_part, below_of_part}}

-- the trees of a forest are in a tree from number `n` and offset `s` on
pub record IsForest (t : Tree) (n s : ℕ) (p : Option ℕ) (f : Forest) : Type 0 where
  pub items : (i : ℕ) → i < element_count f → item t (n + i) ≡ at n s p f i
  pub there : n + element_count f ≤ length (items_of t)
  pub before : List ℕ
  pub after : List ℕ
  pub text : text_of (forest_of t) ≡ before ++ (text_of f ++ after)
  pub starts : length before ≡ s

-- an index inside the first tree of a forest
pub at_inside : (n s : ℕ) (p : Option ℕ) (k : SyntaxKind) (c f : Forest) (i : ℕ) → i < element_count c
    → at n s p (node k c f) (suc i) ≡ at (n + 1) s (Some n) c i
at_inside n s p k c f i l =
    get_or_append_left (items_from (n + 1) s (Some n) c) (items_from (n + 1 + element_count c) (s + length (text_of c)) p f) no_item i
    (omega (arith, l, length-items_from (n + 1) s (Some n) c))

-- an index after it
pub at_beyond : (n s : ℕ) (p : Option ℕ) (k : SyntaxKind) (c f : Forest) (i : ℕ) → at n s p (node k c f) (suc (element_count c + i))
    ≡ at (n + 1 + element_count c) (s + length (text_of c)) p f i
at_beyond n s p k c f i =
    let back : element_count c + i - element_count c ≡ i = omega arith in
    get_or-append_right (items_from (n + 1) s (Some n) c) (items_from (n + 1 + element_count c) (s + length (text_of c)) p f) (element_count c)
    (element_count c + i) no_item (length-items_from (n + 1) s (Some n) c) (omega arith)
    ∙ ap (at (n + 1 + element_count c) (s + length (text_of c)) p f) back

module _ (t : Tree) (n s : ℕ) (p : Option ℕ) where
  -- the trees after a leaf are in the tree after it
  pub after_leaf : (k : SyntaxKind) (u : List ℕ) (f : Forest) → IsForest t n s p (leaf k u f) → IsForest t (n + 1) (s + length u) p f
  after_leaf k u f h = record {
    items = λ i l. (let e : n + 1 + i ≡ n + suc i = omega arith in ap (item t) e ∙ h.items (suc i) (omega (arith, l)));
    there = omega (arith, h.there);
    before = h.before ++ u;
    after = h.after;
    text = h.text ∙ ap (λ x. h.before ++ x) (append_assoc u (text_of f) h.after) ∙ sym (append_assoc h.before u (text_of f ++ h.after));
    starts = omega (arith, h.starts, length-append h.before u);
  }

  -- the trees after a node are in the tree after it
  pub after_node : (k : SyntaxKind) (c f : Forest) → IsForest t n s p (node k c f) → IsForest t (n + 1 + element_count c) (s + length (text_of c)) p f
  after_node k c f h = record {
    items = λ i l.
        (let e : n + 1 + element_count c + i ≡ n + suc (element_count c + i) = omega arith in
        ap (item t) e ∙ h.items (suc (element_count c + i)) (omega (arith, l)) ∙ at_beyond n s p k c f i);
    there = omega (arith, h.there);
    before = h.before ++ text_of c;
    after = h.after;
    text =
        h.text ∙ ap (λ x. h.before ++ x) (append_assoc (text_of c) (text_of f) h.after)
        ∙ sym (append_assoc h.before (text_of c) (text_of f ++ h.after));
    starts = omega (arith, h.starts, length-append h.before (text_of c));
  }

  -- the trees inside a node are in the tree after the node's own element
  pub inside_node : (k : SyntaxKind) (c f : Forest) → IsForest t n s p (node k c f) → IsForest t (n + 1) s (Some n) c
  inside_node k c f h = record {
    items = λ i l.
        (let e : n + 1 + i ≡ n + suc i = omega arith in ap (item t) e ∙ h.items (suc i) (omega (arith, l)) ∙ at_inside n s p k c f i l);
    there = omega (arith, h.there);
    before = h.before;
    after = text_of f ++ h.after;
    text = h.text ∙ ap (λ x. h.before ++ x) (append_assoc (text_of c) (text_of f) h.after);
    starts = h.starts;
  }

  -- the first tree has the item with number `n`
  pub first_leaf : (k : SyntaxKind) (u : List ℕ) (f : Forest) → IsForest t n s p (leaf k u f)
      → item t n ≡ record { kind = k; is_node = false; start = s; end = s + length u; parent = p; below = 0 }
  first_leaf k u f h = (let e : n ≡ n + 0 = omega arith in ap (item t) e ∙ h.items 0 (omega arith))

  pub first_node : (k : SyntaxKind) (c f : Forest) → IsForest t n s p (node k c f)
      → item t n ≡ record { kind = k; is_node = true; start = s; end = s + length (text_of c); parent = p; below = element_count c }
  first_node k c f h = (let e : n ≡ n + 0 = omega arith in ap (item t) e ∙ h.items 0 (omega arith))

  -- the first trees of such a forest are in the tree
  pub first_trees : (f g : Forest) → IsForest t n s p (join f g) → IsForest t n s p f
  first_trees f g h =
      let xs = items_from n s p f in
      let count : length xs ≡ element_count f = length-items_from n s p f in
      let all = element_count-join f g in
      record {
        items = λ i l.
            h.items i (omega (arith, l, all)) ∙ ap (λ is. get_or is i no_item) (items_from-join n s p f g)
            ∙ get_or_append_left xs (items_from (n + element_count f) (s + length (text_of f)) p g) no_item i (omega (arith, l, count));
        there = omega (arith, h.there, all);
        before = h.before;
        after = text_of g ++ h.after;
        text = h.text ∙ ap (λ x. h.before ++ (x ++ h.after)) (text_of-join f g) ∙ ap (λ x. h.before ++ x) (append_assoc (text_of f) (text_of g) h.after);
        starts = h.starts;
      }

-- the trees after some of them are in the tree
pub later_trees : (t : Tree) (n s m v : ℕ) (p : Option ℕ) (f g : Forest) → IsForest t n s p (join f g) → n + element_count f ≡ m → s + length (text_of f) ≡ v
    → IsForest t m v p g
later_trees t n s m v p empty g h a b =
    let e : n ≡ m = omega (arith, a) in
    let d : s ≡ v = omega (arith, b) in
    subst (λ x. IsForest t x v p g) e (subst (λ x. IsForest t n x p g) d h)
later_trees t n s m v p (leaf k u f) g h a b =
    later_trees t (n + 1) (s + length u) m v p f g (after_leaf t n s p k u (join f g) h) (omega (arith, a)) (omega (arith, b, length-append u (text_of f)))
later_trees t n s m v p (node k c f) g h a b =
    later_trees t (n + 1 + element_count c) (s + length (text_of c)) m v p f g (after_node t n s p k c (join f g) h) (omega (arith, a))
    (omega (arith, b, length-append (text_of c) (text_of f)))

-- the text of a part in the text of a forest
record HasPart (n s : ℕ) (p : Option ℕ) (f : Forest) (i : ℕ) (part : Forest) : Type 0 where
  pub before : List ℕ
  pub after : List ℕ
  pub text : text_of f ≡ before ++ (text_of part ++ after)
  pub starts : (at n s p f i).start ≡ s + length before

-- the same with more text before and after
more_text : (n s m v : ℕ) (p q : Option ℕ) (f g : Forest) (i j : ℕ) (part : Forest) (b a : List ℕ) → HasPart n s p f i part → at m v q g j ≡ at n s p f i
    → v + length b ≡ s → text_of g ≡ b ++ (text_of f ++ a) → HasPart m v q g j part
more_text n s m v p q f g i j part b a h same start e = record {
  before = b ++ h.before;
  after = h.after ++ a;
  text =
      e ∙ ap (λ x. b ++ (x ++ a)) h.text ∙ ap (λ x. b ++ x) (append_assoc h.before (text_of part ++ h.after) a)
      ∙ sym (append_assoc b h.before ((text_of part ++ h.after) ++ a)) ∙ ap (λ x. (b ++ h.before) ++ x) (append_assoc (text_of part) h.after a);
  starts = omega (arith, ap (λ (x : Item). x.start) same, h.starts, start, length-append b h.before);
}

-- the text of an element's part is at its range
text_of_part : (n s : ℕ) (p : Option ℕ) (f : Forest) (i m : ℕ) → n + i ≡ m → i < element_count f → HasPart n s p f i (part_of m n f)
text_of_part n s p empty i m e l = absurd (omega arith)
text_of_part n s p (leaf k u f) zero m e l =
    let same : m ≡ n = omega (arith, e) in
    subst (HasPart n s p (leaf k u f) zero) (sym (ap (λ b. if b then leaf k u empty else part_of m (n + 1) f) (is_same m n same)))
    (record { before = []; after = text_of f; text = ap (λ x. x ++ text_of f) (sym (append-nil u)); starts = omega arith })
text_of_part n s p (leaf k u f) (suc i) m e l =
    let low : n < m = omega (arith, e) in
    subst (HasPart n s p (leaf k u f) (suc i)) (sym (ap (λ b. if b then leaf k u empty else part_of m (n + 1) f) (is_above m n low)))
    (more_text (n + 1) (s + length u) n s p p f (leaf k u f) i (suc i) (part_of m (n + 1) f) u []
    (text_of_part (n + 1) (s + length u) p f i m (omega (arith, e)) (omega (arith, l))) refl refl (ap (λ x. u ++ x) (sym (append-nil (text_of f)))))
text_of_part n s p (node k c f) zero m e l =
    let same : m ≡ n = omega (arith, e) in
    let other = if nat_lt m (n + 1 + element_count c) then part_of m (n + 1) c else part_of m (n + 1 + element_count c) f in
    subst (HasPart n s p (node k c f) zero) (sym (ap (λ b. if b then node k c empty else other) (is_same m n same)))
    (record { before = []; after = text_of f; text = ap (λ x. x ++ text_of f) (sym (append-nil (text_of c))); starts = omega arith })
text_of_part n s p (node k c f) (suc i) m e l =
    let low : n < m = omega (arith, e) in
    let inner = part_of m (n + 1) c in
    let outer = part_of m (n + 1 + element_count c) f in
    let other = if nat_lt m (n + 1 + element_count c) then inner else outer in
    let first : part_of m n (node k c f) ≡ other = ap (λ b. if b then node k c empty else other) (is_above m n low) in
    elim (cases_lt i (element_count c)) [
      | inl less ↦
          let into : part_of m n (node k c f) ≡ inner =
          first ∙ ap (λ b. if b then inner else outer) (is_below m (n + 1 + element_count c) (omega (arith, e, less))) in
          subst (HasPart n s p (node k c f) (suc i)) (sym into)
          (more_text (n + 1) s n s (Some n) p c (node k c f) i (suc i) inner [] (text_of f)
          (text_of_part (n + 1) s (Some n) c i m (omega (arith, e)) less) (at_inside n s p k c f i less) (omega arith) refl)
      | inr more ↦
          let j = i - element_count c in
          let back : suc i ≡ suc (element_count c + j) = omega (arith, more) in
          let into : part_of m n (node k c f) ≡ outer =
          first ∙ ap (λ b. if b then inner else outer) (is_not_below m (n + 1 + element_count c) (omega (arith, e, more))) in
          subst (HasPart n s p (node k c f) (suc i)) (sym into)
          (more_text (n + 1 + element_count c) (s + length (text_of c)) n s p p f (node k c f) j (suc i) outer (text_of c) []
          (text_of_part (n + 1 + element_count c) (s + length (text_of c)) p f j m (omega (arith, e, more)) (omega (arith, l, more)))
          (ap (at n s p (node k c f)) back ∙ at_beyond n s p k c f j) refl (ap (λ x. text_of c ++ x) (sym (append-nil (text_of f)))))
    ]

-- an element, with everything inside it, is a forest of one tree
pub record IsPartOf (t : Tree) (m : ℕ) (part : Forest) : Type 0 where
  pub start : ℕ
  pub parent : Option ℕ
  pub is : IsForest t m start parent part

some_in_one : (part : Forest) → IsOne part → 0 < element_count part
some_in_one _ (one_leaf k u) = omega arith
some_in_one _ (one_node k c) = omega arith

first_start : (n s : ℕ) (p : Option ℕ) (f : Forest) → 0 < element_count f → (at n s p f 0).start ≡ s
first_start n s p empty l = absurd (omega arith)
first_start n s p (leaf k u f) l = refl
first_start n s p (node k c f) l = refl

pub part_forest : (t : Tree) (m : ℕ) → m < length (items_of t) → IsPartOf t m (part_at record { tree = t; number = m })
part_forest t m l =
    let part = part_at record { tree = t; number = m } in
    let h : IsPart 0 m part (items_of t) = part_there t m l in
    let some = some_in_one part (one_there t m l) in
    let all = next_inside t m l in
    let count = below_of_part t m part h (one_there t m l) in
    let x = text_of_part 0 0 None (forest_of t) m m (omega arith) (omega (arith, l, elements_in_all t)) in
    let d : m - m ≡ 0 = omega arith in
    let own : item t m ≡ at m h.start h.parent part 0 =
    item_of_part t m m part h (omega arith) (omega (arith, some)) ∙ ap (at m h.start h.parent part) d in
    record {
      start = h.start;
      parent = h.parent;
      is = record {
        items = λ i less.
            (let e : m + i - m ≡ i = omega arith in
            item_of_part t m (m + i) part h (omega arith) (omega (arith, less)) ∙ ap (at m h.start h.parent part) e);
        there = omega (arith, all, count);
        before = x.before;
        after = x.after;
        text = x.text;
        starts = omega (arith, x.starts, ap (λ (i : Item). i.start) own, first_start m h.start h.parent part some);
      };
    }

-- a forest splits into its first trees and the others, of which the first is element `m`
pub record HasRest (n : ℕ) (f : Forest) (m : ℕ) : Type 0 where
  pub first : Forest
  pub rest : Forest
  pub both : f ≡ join first rest
  pub counted : n + element_count first ≡ m
  pub some : 0 < element_count rest

-- an element inside a tree of the forest is no child of the node around the forest
not_child : (n q : ℕ) (parent : Option ℕ) → q < n → parent ≡ Some q → Parented (n + 1) (Some n) parent → ⊥
not_child n q parent low is (of_row e) = (let same : q ≡ n = same_Some q n (sym is ∙ e) in absurd (omega (arith, same, low)))
not_child n q parent low is (of_node r e high) = (let same : q ≡ r = same_Some q r (sym is ∙ e) in absurd (omega (arith, same, low, high)))

-- each child of the node around a forest is one of its trees
pub rest_from : (n s q : ℕ) (f : Forest) (i m : ℕ) → q < n → n + i ≡ m → i < element_count f → (at n s (Some q) f i).parent ≡ Some q → HasRest n f m
rest_from n s q empty i m low e l is = absurd (omega arith)
rest_from n s q (leaf k u f) zero m low e l is = record { first = empty; rest = leaf k u f; both = refl; counted = omega (arith, e); some = omega arith }
rest_from n s q (leaf k u f) (suc i) m low e l is =
    let r = rest_from (n + 1) (s + length u) q f i m (omega (arith, low)) (omega (arith, e)) (omega (arith, l)) is in
    record { first = leaf k u r.first; rest = r.rest; both = ap (leaf k u) r.both; counted = omega (arith, r.counted); some = r.some }
rest_from n s q (node k c f) zero m low e l is = record { first = empty; rest = node k c f; both = refl; counted = omega (arith, e); some = omega arith }
rest_from n s q (node k c f) (suc i) m low e l is =
    elim (cases_lt i (element_count c)) [
      | inl less ↦
          absurd (not_child n q _ low (sym (ap (λ (x : Item). x.parent) (at_inside n s (Some q) k c f i less)) ∙ is)
          (parented (n + 1) s (Some n) c i less))
      | inr more ↦
          let j = i - element_count c in
          let back : suc i ≡ suc (element_count c + j) = omega (arith, more) in
          let same = ap (at n s (Some q) (node k c f)) back ∙ at_beyond n s (Some q) k c f j in
          let r = rest_from (n + 1 + element_count c) (s + length (text_of c)) q f j m (omega (arith, low)) (omega (arith, e, more)) (omega (arith, l, more))
          (sym (ap (λ (x : Item). x.parent) same) ∙ is) in
          record { first = node k c r.first; rest = r.rest; both = ap (node k c) r.both; counted = omega (arith, r.counted); some = r.some }
    ]
