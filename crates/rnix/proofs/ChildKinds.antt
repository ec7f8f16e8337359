-- The kinds of a node's children, as calls on the tree find them.
use Rattle.std.proofs.Common.{◌≡◌, ℕ, zero, suc, ◌+◌, ◌-◌, Bool, true, false, cond, List, [], ◌∷◌, ◌++◌, length, map, Option, Some, refl, ap, sym, ◌∙◌, arith}
use Rattle.std.{proofs.lemmas.Bool.and_parts, specs.Prelude.{if◌then◌else◌, is_some, slice_get, filter, find}}
use Rattle.{rnix_kinds.specs.{declared.kinds.SyntaxKind.SyntaxKind, SyntaxKind.{is_token, is_trivia}}, rnix_green.specs.Equality.{same_kind, same_kind-decides}}
use Rattle.rnix_green.specs.{Forest.{Forest, empty, leaf, node, text_of, element_count}, Tree.{Tree, Item, Located, IsNodeAt, items_from, items_of, item}}
use Rattle.rnix_green.specs.{Tree.{item_of, forest_of, part_at, children_in}, Walk.{Spot, spot_at, nodes_in, children_of}, PreorderNumbers.tree_numbers}
use Rattle.rnix_green.proofs.{PartLemmas.{IsPart, IsOne, one_leaf, one_node, part_there, one_there}, PieceLemmas.length-items_from}
use Rattle.{rnix_tree.proofs.ItemsAt.{HasItemsAt, first_item, front_items, back_items}, rnix_base.specs.Select.{has_kind, tokens_in, child_of, token_of}}
use Rattle.{rnix_grammar.specs.{CompleteRows.is_row, Shape.item_kinds, Derivation.has_tokens_alone}, rnix_proof_lemmas.proofs.Basics.true_is_not_false}
use Rattle.rnix_proof_rows.proofs.PartRows.{HasRows, HasTokens, rows_part, tokens_part, row_of_node}

-- whether an element is a node, and its kind
abbrev pub Sight : Type 0
Sight = Bool × SyntaxKind

abbrev pub sight_of : Spot → Sight
sight_of spot = (spot.0, (item_of spot.1).kind)

abbrev pub tops : Forest → List Sight
tops empty = []
tops (leaf k t f) = (false, k) ∷ tops f
tops (node k c f) = (true, k) ∷ tops f

-- the roots of a forest's trees, as the tree has them, are nodes and tokens of their kinds
row_sights : (t : Tree) (n s : ℕ) (p : Option ℕ) (f : Forest) → HasItemsAt t n (items_from n s p f) → map sight_of (map (spot_at t) (tree_numbers n f)) ≡ tops f
row_sights t n s p empty h = refl
row_sights t n s p (leaf k u f) h =
    let i : Item = record { kind = k; is_node = false; start = s; end = s + length u; parent = p; below = 0 } in
    let rest = items_from (n + 1) (s + length u) p f in
    let own : item t n ≡ i = first_item t n i rest h in
    ap (λ (x : Item). (x.is_node, x.kind) ∷ map sight_of (map (spot_at t) (tree_numbers (n + 1) f))) own
    ∙ ap (λ x. (false, k) ∷ x) (row_sights t (n + 1) (s + length u) p f (back_items t n (n + 1) (i ∷ []) rest refl h))
row_sights t n s p (node k c f) h =
    let i : Item = record { kind = k; is_node = true; start = s; end = s + length (text_of c); parent = p; below = element_count c } in
    let xs = items_from (n + 1) s (Some n) c in
    let ys = items_from (n + 1 + element_count c) (s + length (text_of c)) p f in
    let own : item t n ≡ i = first_item t n i (xs ++ ys) h in
    let below : HasItemsAt t (n + 1) (xs ++ ys) = back_items t n (n + 1) (i ∷ []) (xs ++ ys) refl h in
    let there : HasItemsAt t (n + 1 + element_count c) ys =
    back_items t (n + 1) (n + 1 + element_count c) xs ys (ap (λ x. n + 1 + x) (length-items_from (n + 1) s (Some n) c)) below in
    ap (λ (x : Item). (x.is_node, x.kind) ∷ map sight_of (map (spot_at t) (tree_numbers (n + 1 + element_count c) f))) own
    ∙ ap (λ x. (true, k) ∷ x) (row_sights t (n + 1 + element_count c) (s + length (text_of c)) p f there)

-- a node with its row, from the tree's part at the node
pub record NodeIn (n : Located) (part : Forest) : Type 0 where
  pub kind : SyntaxKind
  pub children : Forest
  pub is : (item_of n).kind ≡ kind
  pub sights : map sight_of (map (spot_at n.tree) (tree_numbers (n.number + 1) (children_in part))) ≡ tops children
  pub row : is_row kind (item_kinds children) ≡ true
  pub rows : HasRows children
  pub tokens : HasTokens children

pub node_in : (n : Located) → HasRows (forest_of n.tree) → HasTokens (forest_of n.tree) → IsNodeAt n → NodeIn n (part_at n)
node_in n r w there =
    go (part_at n) (part_there n.tree n.number there.is_there) (one_there n.tree n.number there.is_there) (rows_part n.number 0 (forest_of n.tree) r)
    (tokens_part n.number 0 (forest_of n.tree) w)
  where
    part_items : (part : Forest) (h : IsPart 0 n.number part (items_of n.tree)) → HasItemsAt n.tree n.number (items_from n.number h.start h.parent part)
    part_items part h = record { before = h.before; after = h.after; split = h.split; counted = omega (arith, h.counted) }

    go : (part : Forest) → IsPart 0 n.number part (items_of n.tree) → IsOne part → HasRows part → HasTokens part → NodeIn n part
    go _ h (one_leaf k u) r w =
        let i : Item = record { kind = k; is_node = false; start = h.start; end = h.start + length u; parent = h.parent; below = 0 } in
        let own : item n.tree n.number ≡ i = first_item n.tree n.number i [] (part_items (leaf k u empty) h) in
        absurd (true_is_not_false (sym there.is_node ∙ ap (λ (x : Item). x.is_node) own))
    go _ h (one_node k c) r w =
        let m = n.number in
        let i : Item = record { kind = k; is_node = true; start = h.start; end = h.start + length (text_of c); parent = h.parent; below = element_count c } in
        let xs = items_from (m + 1) h.start (Some m) c in
        let own : item n.tree m ≡ i = first_item n.tree m i (xs ++ []) (part_items (node k c empty) h) in
        record {
          kind = k;
          children = c;
          is = ap (λ (x : Item). x.kind) own;
          sights = row_sights n.tree (m + 1) h.start (Some m) c
              (front_items n.tree (m + 1) xs [] (back_items n.tree m (m + 1) (i ∷ []) (xs ++ []) refl (part_items (node k c empty) h)));
          row = r.0;
          rows = r.1;
          tokens = (and_parts (has_tokens_alone c) true w).0;
        }

-- the kinds of the tokens among these; then those of the nodes
abbrev leaves : List Sight → List SyntaxKind
leaves [] = []
leaves (s ∷ ss) = if s.0 then leaves ss else s.1 ∷ leaves ss

abbrev branches : List Sight → List SyntaxKind
branches [] = []
branches (s ∷ ss) = if s.0 then s.1 ∷ branches ss else branches ss

-- what is found in two lists stays alike with one more element that is found in both, or in neither
same_first : {A B : Type 0} (w : Bool) (a : A) (b : B) (x : Option A) (y : Option B) → is_some x ≡ is_some y →
    is_some (cond w (Some a) x) ≡ is_some (cond w (Some b) y)
same_first true a b x y e = refl
same_first false a b x y e = e

same_length : {A B : Type 0} (w : Bool) (a : A) (b : B) (xs : List A) (ys : List B) → length xs ≡ length ys →
    length (cond w (a ∷ xs) xs) ≡ length (cond w (b ∷ ys) ys)
same_length true a b xs ys e = ap suc e
same_length false a b xs ys e = e

-- tokens and nodes are found by their kinds
token_sights : (test : SyntaxKind → Bool) (spots : List Spot) →
    is_some (find (has_kind test) (tokens_in spots)) ≡ is_some (find test (leaves (map sight_of spots)))
token_sights test [] = refl
token_sights test ((true, e) ∷ spots) = token_sights test spots
token_sights test ((false, e) ∷ spots) =
    same_first (test (item_of e).kind) e (item_of e).kind (find (has_kind test) (tokens_in spots)) (find test (leaves (map sight_of spots)))
    (token_sights test spots)

node_sights : (test : SyntaxKind → Bool) (spots : List Spot) →
    length (filter (has_kind test) (nodes_in spots)) ≡ length (filter test (branches (map sight_of spots)))
node_sights test [] = refl
node_sights test ((false, e) ∷ spots) = node_sights test spots
node_sights test ((true, e) ∷ spots) =
    same_length (test (item_of e).kind) e (item_of e).kind (filter (has_kind test) (nodes_in spots)) (filter test (branches (map sight_of spots)))
    (node_sights test spots)

-- a set of kinds of tokens that are no trivia, and a set of kinds of nodes
pub record AreItems (test : SyntaxKind → Bool) : Type 0 where
  pub token : (k : SyntaxKind) → test k ≡ true → is_token k ≡ true
  pub item : (k : SyntaxKind) → test k ≡ true → is_trivia k ≡ false

abbrev pub AreNodes : (SyntaxKind → Bool) → Type 0
AreNodes test = (k : SyntaxKind) → test k ≡ true → is_token k ≡ false

-- a kind that does not pass a test fails it
pub none_if : (test : SyntaxKind → Bool) (k : SyntaxKind) → (test k ≡ true → ⊥) → test k ≡ false
none_if test k h = test_cases (test k) refl
  where
    test_cases : (w : Bool) → test k ≡ w → test k ≡ false
    test_cases true e = absurd (h e)
    test_cases false e = e

pub exact_items : (x : SyntaxKind) → is_token x ≡ true → is_trivia x ≡ false → AreItems (same_kind x)
exact_items x t i = record {
  token = λ k h. ap is_token (sym ((same_kind-decides x k).0 h)) ∙ t;
  item = λ k h. ap is_trivia (sym ((same_kind-decides x k).0 h)) ∙ i;
}

pub exact_nodes : (x : SyntaxKind) → is_token x ≡ false → AreNodes (same_kind x)
exact_nodes x t k h = ap is_token (sym ((same_kind-decides x k).0 h)) ∙ t

-- the tokens of a forest that are no trivia
leaf_items : (test : SyntaxKind → Bool) (k : SyntaxKind) (ks js : List SyntaxKind) (w : Bool) → is_trivia k ≡ w → AreItems test →
    is_some (find test ks) ≡ is_some (find test js)
    → is_some (find test (k ∷ ks)) ≡ is_some (find test (if w then js else k ∷ js))
leaf_items test k ks js true e a ih =
    ap (λ w. is_some (cond w (Some k) (find test ks))) (none_if test k (λ h. true_is_not_false (sym e ∙ a.item k h))) ∙ ih
leaf_items test k ks js false e a ih = same_first (test k) k k (find test ks) (find test js) ih

leaves_items : (test : SyntaxKind → Bool) → AreItems test → (c : Forest) → HasRows c →
    is_some (find test (leaves (tops c))) ≡ is_some (find test (item_kinds c))
leaves_items test a empty r = refl
leaves_items test a (leaf k t f) r = leaf_items test k (leaves (tops f)) (item_kinds f) (is_trivia k) refl a (leaves_items test a f r)
leaves_items test a (node k c f) r =
    leaves_items test a f r.2
    ∙ sym (ap (λ w. is_some (cond w (Some k) (find test (item_kinds f))))
    (none_if test k (λ h. true_is_not_false (sym (a.token k h) ∙ row_of_node k (item_kinds c) r.0))))

-- the nodes of a forest
leaf_nodes : (test : SyntaxKind → Bool) (k : SyntaxKind) (n : ℕ) (js : List SyntaxKind) (w : Bool) → test k ≡ false → n ≡ length (filter test js)
    → n ≡ length (filter test (if w then js else k ∷ js))
leaf_nodes test k n js true e ih = ih
leaf_nodes test k n js false e ih = ih ∙ sym (ap (λ w. length (cond w (k ∷ filter test js) (filter test js))) e)

branches_items : (test : SyntaxKind → Bool) → AreNodes test → (c : Forest) → HasTokens c →
    length (filter test (branches (tops c))) ≡ length (filter test (item_kinds c))
branches_items test a empty w = refl
branches_items test a (leaf k t f) w =
    let both = and_parts (is_token k) (has_tokens_alone f) w in
    leaf_nodes test k (length (filter test (branches (tops f)))) (item_kinds f) (is_trivia k) (none_if test k (λ h. true_is_not_false (sym both.0 ∙ a k h)))
    (branches_items test a f both.1)
branches_items test a (node k c f) w =
    same_length (test k) k k (filter test (branches (tops f))) (filter test (item_kinds f))
    (branches_items test a f (and_parts (has_tokens_alone c) (has_tokens_alone f) w).1)

-- lists of equal length have elements at the same indices
get_alike : {A B : Type 0} (xs : List A) (ys : List B) (n : ℕ) → length xs ≡ length ys → is_some (slice_get xs n) ≡ is_some (slice_get ys n)
get_alike [] [] n e = refl
get_alike [] (y ∷ ys) n e = absurd (omega (arith, e))
get_alike (x ∷ xs) [] n e = absurd (omega (arith, e))
get_alike (x ∷ xs) (y ∷ ys) zero e = refl
get_alike (x ∷ xs) (y ∷ ys) (suc n) e = get_alike xs ys n (omega (arith, e))

-- the children of a node have the kinds in its row
pub record Sees (n : Located) (ks : List SyntaxKind) : Type 0 where
  pub tokens : (test : SyntaxKind → Bool) → AreItems test → is_some (token_of test n) ≡ is_some (find test ks)
  pub nodes : (test : SyntaxKind → Bool) → AreNodes test → (number : ℕ) → is_some (child_of test number n) ≡ is_some (slice_get (filter test ks) number)

pub sees : (n : Located) (h : NodeIn n (part_at n)) → Sees n (item_kinds h.children)
sees n h = record {
  tokens = λ test a. token_sights test (children_of n) ∙ ap (λ x. is_some (find test (leaves x))) h.sights ∙ leaves_items test a h.children h.rows;
  nodes = λ test a number.
      get_alike (filter (has_kind test) (nodes_in (children_of n))) (filter test (item_kinds h.children)) number
      (node_sights test (children_of n) ∙ ap (λ x. length (filter test (branches x))) h.sights ∙ branches_items test a h.children h.tokens);
}
