-- Forests in a tree: the numbers of their elements, and the place of their text.
use Rattle.std.proofs.Common.{◌≡◌, ℕ, suc, ◌+◌, ◌-◌, ◌<◌, ◌≤◌, List, [], ◌++◌, length, take, drop, Option, Some, None, refl, ap, sym, ◌∙◌, arith, length-append}
use Rattle.std.proofs.{Common.{append_assoc, append-nil}, lemmas.List.{take_at, drop_at}}
use Rattle.{rnix_kinds.specs.declared.kinds.SyntaxKind.SyntaxKind, rnix_green.specs.{Forest.{Forest, leaf, node, text_of, element_count}, Tree.{Tree, Item}}}
use Rattle.rnix_green.{specs.Tree.{items_of, forest_of, item, text_at}, proofs.{NestLemmas.{at, inside, beyond, behind}, PieceLemmas.length-items_from}}

-- the elements from number `n` on are those of a forest, and the text from offset `s` on is its text
pub record IsRowIn (t : Tree) (n s : ℕ) (p : Option ℕ) (f : Forest) : Type 0 where
  pub there : n + element_count f ≤ length (items_of t)
  pub items : (i : ℕ) → i < element_count f → item t (n + i) ≡ at n s p f i
  pub before : List ℕ
  pub after : List ℕ
  pub text : text_of (forest_of t) ≡ before ++ (text_of f ++ after)
  pub offset : length before ≡ s

-- a tree's trees are a forest in it
pub row_of_tree : (t : Tree) → IsRowIn t 0 0 None (forest_of t)
row_of_tree t = record {
  there = omega (arith, length-items_from 0 0 None (forest_of t));
  items = λ i l. (let e : 0 + i ≡ i = omega arith in ap (item t) e);
  before = [];
  after = [];
  text = sym (append-nil (text_of (forest_of t)));
  offset = refl;
}

-- the first element of a forest has the forest's first number
pub row_first : (t : Tree) (n s : ℕ) (p : Option ℕ) (f : Forest) → IsRowIn t n s p f → 0 < element_count f → item t n ≡ at n s p f 0
row_first t n s p f h l = (let e : n + 0 ≡ n = omega arith in sym (ap (item t) e) ∙ h.items 0 l)

-- the trees after a leaf are in the tree after it
pub row_behind_leaf : (t : Tree) (n s : ℕ) (p : Option ℕ) (k : SyntaxKind) (x : List ℕ) (f : Forest) → IsRowIn t n s p (leaf k x f)
    → IsRowIn t (n + 1) (s + length x) p f
row_behind_leaf t n s p k x f h = record {
  there = omega (arith, h.there);
  items = λ i l. (let e : n + 1 + i ≡ n + suc i = omega arith in ap (item t) e ∙ h.items (suc i) (omega arith));
  before = h.before ++ x;
  after = h.after;
  text = h.text ∙ ap (λ z. h.before ++ z) (append_assoc x (text_of f) h.after) ∙ sym (append_assoc h.before x (text_of f ++ h.after));
  offset = omega (arith, h.offset, length-append h.before x);
}

-- the children of a node are in the tree after it
pub row_inside : (t : Tree) (n s : ℕ) (p : Option ℕ) (k : SyntaxKind) (c f : Forest) → IsRowIn t n s p (node k c f) → IsRowIn t (n + 1) s (Some n) c
row_inside t n s p k c f h = record {
  there = omega (arith, h.there);
  items = λ i l.
      (let e : n + 1 + i ≡ n + suc i = omega arith in
      ap (item t) e ∙ h.items (suc i) (omega arith) ∙ elim (behind n s p k c f i) as (λ b. at n s p (node k c f) (suc i) ≡ at (n + 1) s (Some n) c i) [
        | inside min_bp g ↦ g
        | beyond max_bp g ↦ absurd (omega arith)
      ]);
  before = h.before;
  after = text_of f ++ h.after;
  text = h.text ∙ ap (λ z. h.before ++ z) (append_assoc (text_of c) (text_of f) h.after);
  offset = h.offset;
}

-- the trees after a node are in the tree after its children
pub row_behind_node : (t : Tree) (n s : ℕ) (p : Option ℕ) (k : SyntaxKind) (c f : Forest) → IsRowIn t n s p (node k c f)
    → IsRowIn t (n + 1 + element_count c) (s + length (text_of c)) p f
row_behind_node t n s p k c f h = record {
  there = omega (arith, h.there);
  items = λ i l.
      (let e : n + 1 + element_count c + i ≡ n + suc (element_count c + i) = omega arith in
      let back : element_count c + i - element_count c ≡ i = omega arith in
      ap (item t) e ∙ h.items (suc (element_count c + i)) (omega arith)
      ∙ elim (behind n s p k c f (element_count c + i)) as
      (λ b. at n s p (node k c f) (suc (element_count c + i)) ≡ at (n + 1 + element_count c) (s + length (text_of c)) p f i) [
        | inside min_bp g ↦ absurd (omega arith)
        | beyond max_bp g ↦ g ∙ ap (at (n + 1 + element_count c) (s + length (text_of c)) p f) back
      ]);
  before = h.before ++ text_of c;
  after = h.after;
  text = h.text ∙ ap (λ z. h.before ++ z) (append_assoc (text_of c) (text_of f) h.after) ∙ sym (append_assoc h.before (text_of c) (text_of f ++ h.after));
  offset = omega (arith, h.offset, length-append h.before (text_of c));
}

-- the text of a node is that of its children
pub row_text : (t : Tree) (n s : ℕ) (p : Option ℕ) (k : SyntaxKind) (c f : Forest) → IsRowIn t n s p (node k c f)
    → text_at record { tree = t; number = n } ≡ text_of c
row_text t n s p k c f h =
    let first : item t n ≡ at n s p (node k c f) 0 = row_first t n s p (node k c f) h (omega arith) in
    let start : (item t n).start ≡ s = ap (λ (i : Item). i.start) first in
    let end : (item t n).end ≡ s + length (text_of c) = ap (λ (i : Item). i.end) first in
    let size : (item t n).end - (item t n).start ≡ length (text_of c) = omega (arith, start, end) in
    let rest : drop (item t n).start (text_of (forest_of t)) ≡ text_of c ++ (text_of f ++ h.after) =
    ap (drop (item t n).start) h.text ∙ drop_at h.before (text_of (node k c f) ++ h.after) (item t n).start (h.offset ∙ sym start)
    ∙ append_assoc (text_of c) (text_of f) h.after in
    ap (λ z. take z (drop (item t n).start (text_of (forest_of t)))) size ∙ ap (take (length (text_of c))) rest
    ∙ take_at (text_of c) (text_of f ++ h.after) (length (text_of c)) refl
