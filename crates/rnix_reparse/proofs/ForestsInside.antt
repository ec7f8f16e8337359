-- Forests of trees inside a tree.
use Rattle.std.proofs.Common.{◌≡◌, ℕ, suc, ◌+◌, ◌-◌, ◌<◌, List, [], ◌∷◌, ◌++◌, length, get_or, take, drop, Option, Some, None, true, false}
use Rattle.std.proofs.Common.{refl, ap, sym, ◌∙◌, subst, arith, append_assoc, append-nil, length-append}
use Rattle.std.proofs.lemmas.List.{get_or-append_right, get_or_append_left, drop_at, take_at}
use Rattle.rnix_kinds.specs.declared.kinds.SyntaxKind.{SyntaxKind}
use Rattle.rnix_green.specs.Forest.{Forest, leaf, node, text_of, element_count}
use Rattle.rnix_green.specs.Tree.{Tree, Item, items_from, items_of, forest_of, no_item, item, text_at}
use Rattle.rnix_green.proofs.PieceLemmas.{length-items_from}
use Rattle.rnix_green.specs.Context.{Context, here, behind_leaf, behind_node, inside, filled, text_before, elements_before}

-- a forest is in a tree, from number `n` and offset `s` on, with parent `p`
pub record HasForest (t : Tree) (n s : ℕ) (p : Option ℕ) (f : Forest) : Type 0 where
  pub before : List Item
  pub after : List Item
  pub split : items_of t ≡ before ++ (items_from n s p f ++ after)
  pub counted : length before ≡ n
  pub text_before : List ℕ
  pub text_after : List ℕ
  pub text : text_of (forest_of t) ≡ text_before ++ (text_of f ++ text_after)
  pub start : length text_before ≡ s

-- the whole tree is a forest in itself
pub whole_forest : (t : Tree) → HasForest t 0 0 None (forest_of t)
whole_forest t = record {
  before = [];
  after = [];
  split = sym (append-nil (items_of t));
  counted = refl;
  text_before = [];
  text_after = [];
  text = sym (append-nil (text_of (forest_of t)));
  start = refl;
}

-- the item of an element of the forest
pub forest_item : (t : Tree) (n s : ℕ) (p : Option ℕ) (f : Forest) (i : ℕ) → HasForest t n s p f → i < element_count f
    → item t (n + i) ≡ get_or (items_from n s p f) i no_item
forest_item t n s p f i h l =
    let count : length (items_from n s p f) ≡ element_count f = length-items_from n s p f in
    let place : n + i - n ≡ i = omega arith in
    ap (λ xs. get_or xs (n + i) no_item) h.split
    ∙ get_or-append_right h.before (items_from n s p f ++ h.after) n (n + i) no_item h.counted (omega arith)
    ∙ ap (λ j. get_or (items_from n s p f ++ h.after) j no_item) place
    ∙ get_or_append_left (items_from n s p f) h.after no_item i (omega arith)

-- the item of the first tree, a leaf
pub first_leaf : (t : Tree) (n s : ℕ) (p : Option ℕ) (k : SyntaxKind) (u : List ℕ) (f : Forest) → HasForest t n s p (leaf k u f)
    → item t n ≡ record { kind = k; is_node = false; start = s; end = s + length u; parent = p; below = 0 }
first_leaf t n s p k u f h =
    let same : n + 0 ≡ n = omega arith in
    ap (item t) (sym same) ∙ forest_item t n s p (leaf k u f) 0 h (omega arith)

pub first_node : (t : Tree) (n s : ℕ) (p : Option ℕ) (k : SyntaxKind) (c f : Forest) → HasForest t n s p (node k c f)
    → item t n ≡ record { kind = k; is_node = true; start = s; end = s + length (text_of c); parent = p; below = element_count c }
first_node t n s p k c f h =
    let same : n + 0 ≡ n = omega arith in
    ap (item t) (sym same) ∙ forest_item t n s p (node k c f) 0 h (omega arith)

-- the trees after a leaf are in the tree
pub behind_first : (t : Tree) (n s : ℕ) (p : Option ℕ) (k : SyntaxKind) (u : List ℕ) (f : Forest) → HasForest t n s p (leaf k u f)
    → HasForest t (n + 1) (s + length u) p f
behind_first t n s p k u f h =
    let i : Item = record { kind = k; is_node = false; start = s; end = s + length u; parent = p; below = 0 } in
    record {
      before = h.before ++ (i ∷ []);
      after = h.after;
      split = h.split ∙ sym (append_assoc h.before (i ∷ []) (items_from (n + 1) (s + length u) p f ++ h.after));
      counted = omega (arith, h.counted, length-append h.before (i ∷ []));
      text_before = h.text_before ++ u;
      text_after = h.text_after;
      text = h.text ∙ ap (λ x. h.text_before ++ x) (append_assoc u (text_of f) h.text_after)
          ∙ sym (append_assoc h.text_before u (text_of f ++ h.text_after));
      start = omega (arith, h.start, length-append h.text_before u);
    }

-- the children of a node are in the tree
pub inside_first : (t : Tree) (n s : ℕ) (p : Option ℕ) (k : SyntaxKind) (c f : Forest) → HasForest t n s p (node k c f) → HasForest t (n + 1) s (Some n) c
inside_first t n s p k c f h =
    let i : Item = record { kind = k; is_node = true; start = s; end = s + length (text_of c); parent = p; below = element_count c } in
    let xs = items_from (n + 1) s (Some n) c in
    let ys = items_from (n + 1 + element_count c) (s + length (text_of c)) p f in
    record {
      before = h.before ++ (i ∷ []);
      after = ys ++ h.after;
      split = h.split ∙ ap (λ x. h.before ++ (i ∷ x)) (append_assoc xs ys h.after) ∙ sym (append_assoc h.before (i ∷ []) (xs ++ (ys ++ h.after)));
      counted = omega (arith, h.counted, length-append h.before (i ∷ []));
      text_before = h.text_before;
      text_after = text_of f ++ h.text_after;
      text = h.text ∙ ap (λ x. h.text_before ++ x) (append_assoc (text_of c) (text_of f) h.text_after);
      start = h.start;
    }

-- the trees after a node are in the tree
pub behind_node_first : (t : Tree) (n s : ℕ) (p : Option ℕ) (k : SyntaxKind) (c f : Forest) → HasForest t n s p (node k c f)
    → HasForest t (n + 1 + element_count c) (s + length (text_of c)) p f
behind_node_first t n s p k c f h =
    let i : Item = record { kind = k; is_node = true; start = s; end = s + length (text_of c); parent = p; below = element_count c } in
    let xs = items_from (n + 1) s (Some n) c in
    let ys = items_from (n + 1 + element_count c) (s + length (text_of c)) p f in
    let count : length xs ≡ element_count c = length-items_from (n + 1) s (Some n) c in
    record {
      before = h.before ++ (i ∷ xs);
      after = h.after;
      split = h.split ∙ ap (λ x. h.before ++ (i ∷ x)) (append_assoc xs ys h.after) ∙ sym (append_assoc h.before (i ∷ xs) (ys ++ h.after));
      counted = omega (arith, h.counted, count, length-append h.before (i ∷ xs));
      text_before = h.text_before ++ text_of c;
      text_after = h.text_after;
      text = h.text ∙ ap (λ x. h.text_before ++ x) (append_assoc (text_of c) (text_of f) h.text_after)
          ∙ sym (append_assoc h.text_before (text_of c) (text_of f ++ h.text_after));
      start = omega (arith, h.start, length-append h.text_before (text_of c));
    }

-- the text between two others is a slice of the whole text
text_between : (whole before part after : List ℕ) (s e : ℕ) → whole ≡ before ++ (part ++ after) → length before ≡ s → e ≡ s + length part
    → take (e - s) (drop s whole) ≡ part
text_between whole before part after s e split start end =
    let size : e - s ≡ length part = omega arith in
    ap (λ w. take (e - s) (drop s w)) split ∙ ap (take (e - s)) (drop_at before (part ++ after) s start) ∙ take_at part after (e - s) (sym size)

-- the text of the first tree, a leaf
pub first_text : (t : Tree) (n s : ℕ) (p : Option ℕ) (k : SyntaxKind) (u : List ℕ) (f : Forest) → HasForest t n s p (leaf k u f)
    → text_at record { tree = t; number = n } ≡ u
first_text t n s p k u f h =
    ap (λ (i : Item). take (i.end - i.start) (drop i.start (text_of (forest_of t)))) (first_leaf t n s p k u f h)
    ∙ text_between (text_of (forest_of t)) h.text_before u (text_of f ++ h.text_after) s (s + length u)
    (h.text ∙ ap (λ x. h.text_before ++ x) (append_assoc u (text_of f) h.text_after)) h.start refl

-- the trees after the node of a context, with the same parent
abbrev pub trees_behind : Context → Forest
trees_behind (here f) = f
trees_behind (behind_leaf j t x) = trees_behind x
trees_behind (behind_node j d x) = trees_behind x
trees_behind (inside j x f) = trees_behind x

-- the node's parent, in a forest whose first element has the number and the parent that are given
abbrev pub parent_in : ℕ → Option ℕ → Context → Option ℕ
parent_in n p (here f) = p
parent_in n p (behind_leaf j t x) = parent_in (n + 1) p x
parent_in n p (behind_node j d x) = parent_in (n + 1 + element_count d) p x
parent_in n p (inside j x f) = parent_in (n + 1) (Some n) x

-- the same forest with equal numbers
moved_forest : (t : Tree) (n m s r : ℕ) (p : Option ℕ) (f : Forest) → n ≡ m → s ≡ r → HasForest t n s p f → HasForest t m r p f
moved_forest t n m s r p f e d h = subst (λ i. HasForest t i r p f) e (subst (λ i. HasForest t n i p f) d h)

-- the node of a context, and the trees after it, are in the tree
pub filled_forest : (t : Tree) (n s : ℕ) (p : Option ℕ) (x : Context) (k : SyntaxKind) (c : Forest) → HasForest t n s p (filled x k c)
    → HasForest t (n + elements_before x) (s + length (text_before x)) (parent_in n p x) (node k c (trees_behind x))
filled_forest t n s p (here f) k c h = moved_forest t n (n + 0) s (s + 0) p (node k c f) (omega arith) (omega arith) h
filled_forest t n s p (behind_leaf j u x) k c h =
    moved_forest t (n + 1 + elements_before x) (n + suc (elements_before x)) (s + length u + length (text_before x)) (s + length (u ++ text_before x))
    (parent_in (n + 1) p x) (node k c (trees_behind x)) (omega arith) (omega (arith, length-append u (text_before x)))
    (filled_forest t (n + 1) (s + length u) p x k c (behind_first t n s p j u (filled x k c) h))
filled_forest t n s p (behind_node j d x) k c h =
    moved_forest t (n + 1 + element_count d + elements_before x) (n + suc (element_count d + elements_before x))
    (s + length (text_of d) + length (text_before x))
    (s + length (text_of d ++ text_before x))
    (parent_in (n + 1 + element_count d) p x) (node k c (trees_behind x)) (omega arith) (omega (arith, length-append (text_of d) (text_before x)))
    (filled_forest t (n + 1 + element_count d) (s + length (text_of d)) p x k c (behind_node_first t n s p j d (filled x k c) h))
filled_forest t n s p (inside j x f) k c h =
    moved_forest t (n + 1 + elements_before x) (n + suc (elements_before x)) (s + length (text_before x)) (s + length (text_before x))
    (parent_in (n + 1) (Some n) x) (node k c (trees_behind x)) (omega arith) refl
    (filled_forest t (n + 1) s (Some n) x k c (inside_first t n s p j (filled x k c) f h))
