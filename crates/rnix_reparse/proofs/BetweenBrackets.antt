-- The children of a node with brackets.
use Rattle.std.proofs.Common.{◌≡◌, ℕ, ◌+◌, ◌≤◌, ◌<◌, List, length, Option, Some, true, false, refl, ap, sym, ◌∙◌, subst, arith, ◌⊎◌, inl, inr, ◌++◌, length-append}
use Rattle.std.proofs.lemmas.Bool.{false≢true}
use Rattle.std.proofs.lemmas.Option.{same_Some}
use Rattle.rnix_kinds.specs.declared.kinds.SyntaxKind.{SyntaxKind}
use Rattle.rnix_green.specs.Forest.{Forest, empty, leaf, node, join, text_of, element_count}
use Rattle.rnix_green.specs.Tree.{Tree, Item, items_from, items_of, item, text_at}
use Rattle.rnix_green.proofs.InsideLemmas.{held}
use Rattle.rnix_green.proofs.PieceLemmas.{length-items_from}
use Rattle.rnix_proof_reparse.specs.LevelsAround.{between}
use Rattle.rnix_reparse.specs.OwnBrackets.{HasBrackets}
use Rattle.rnix_reparse.proofs.ForestsInside.{HasForest, first_leaf, first_node, behind_first, inside_first, behind_node_first, first_text}

-- a forest is empty or has elements
none_or_some : (f : Forest) → (f ≡ empty) ⊎ (0 < element_count f)
none_or_some empty = inl refl
none_or_some (leaf k t f) = inr (omega arith)
none_or_some (node k c f) = inr (omega arith)

-- the last tree of a forest is a leaf, and its element has the number `q`
record EndsWithLeaf (t : Tree) (q : ℕ) (f : Forest) : Type 0 where
  before : Forest
  text : List ℕ
  split : f ≡ join before (leaf (item t q).kind text empty)
  text_is : text_at record { tree = t; number = q } ≡ text

one_more_leaf : (t : Tree) (q : ℕ) (k : SyntaxKind) (u : List ℕ) (f : Forest) → EndsWithLeaf t q f → EndsWithLeaf t q (leaf k u f)
one_more_leaf t q k u f h = record { before = leaf k u h.before; text = h.text; split = ap (leaf k u) h.split; text_is = h.text_is }

one_more_node : (t : Tree) (q : ℕ) (k : SyntaxKind) (c f : Forest) → EndsWithLeaf t q f → EndsWithLeaf t q (node k c f)
one_more_node t q k c f h = record { before = node k c h.before; text = h.text; split = ap (node k c) h.split; text_is = h.text_is }

-- the elements of a forest in a tree are elements of the tree
there : (t : Tree) (n s : ℕ) (p : Option ℕ) (f : Forest) → HasForest t n s p f → n + element_count f ≤ length (items_of t)
there t n s p f h =
    omega (
      arith,
      ap length h.split,
      h.counted,
      length-items_from n s p f,
      length-append h.before (items_from n s p f ++ h.after),
      length-append (items_from n s p f) h.after,
    )

-- if the last tree of a forest is a node, no token with the forest's parent is its last element
no_node_last : (t : Tree) (m n q s : ℕ) (k : SyntaxKind) (c : Forest) → HasForest t n s (Some m) (node k c empty) → m < n → q ≡ n + element_count c
    → (item t q).is_node ≡ false → (item t q).parent ≡ Some m → {A : Type 0} → A
no_node_last t m n q s k c h above last token parent =
    let own = first_node t n s (Some m) k c empty h in
    let below : (item t n).below ≡ element_count c = ap (λ (i : Item). i.below) own in
    let ends = there t n s (Some m) (node k c empty) h in
    elim (none_or_some c) [
      | inl e ↦
          let none : element_count c ≡ 0 = ap element_count e in
          let same : q ≡ n = omega arith in
          let x : false ≡ true = sym token ∙ ap (λ j. (item t j).is_node) same ∙ ap (λ (i : Item). i.is_node) own in
          absurd (false≢true x)
      | inr more ↦
          let in_node = held t n q (omega arith) (omega arith) (omega arith) in
          let same : m ≡ in_node.parent = same_Some m in_node.parent (sym parent ∙ in_node.is) in
          absurd (omega (arith, in_node.low))
    ]

-- this holds for a forest of one leaf
one_leaf : (t : Tree) (m n q s : ℕ) (k : SyntaxKind) (u : List ℕ) → HasForest t n s (Some m) (leaf k u empty) → q ≡ n → EndsWithLeaf t q (leaf k u empty)
one_leaf t m n q s k u h e =
    let kind : (item t q).kind ≡ k = ap (λ j. (item t j).kind) e ∙ ap (λ (i : Item). i.kind) (first_leaf t n s (Some m) k u empty h) in
    record {
      before = empty;
      text = u;
      split = ap (λ j. leaf j u empty) (sym kind);
      text_is = ap (λ j. text_at record { tree = t; number = j }) e ∙ first_text t n s (Some m) k u empty h;
    }

-- if the last element of a forest is a token with the forest's parent, it is its last tree
ends_with_leaf : (t : Tree) (m n q s : ℕ) (f : Forest) → HasForest t n s (Some m) f → m < n → q + 1 ≡ n + element_count f → n ≤ q
    → (item t q).is_node ≡ false → (item t q).parent ≡ Some m → EndsWithLeaf t q f
ends_with_leaf t m n q s empty h above last some token parent = absurd (omega arith)
ends_with_leaf t m n q s (leaf k u f) h above last some token parent = elim (none_or_some f) [
  | inl e ↦
      let none : element_count f ≡ 0 = ap element_count e in
      subst (λ g. EndsWithLeaf t q (leaf k u g)) (sym e) (one_leaf t m n q s k u (subst (λ g. HasForest t n s (Some m) (leaf k u g)) e h) (omega arith))
  | inr more ↦ one_more_leaf t q k u f
      (ends_with_leaf t m (n + 1) q (s + length u) f (behind_first t n s (Some m) k u f h) (omega arith) (omega arith) (omega arith) token parent)
]
ends_with_leaf t m n q s (node k c f) h above last some token parent = elim (none_or_some f) [
  | inl e ↦
      let none : element_count f ≡ 0 = ap element_count e in
      no_node_last t m n q s k c (subst (λ g. HasForest t n s (Some m) (node k c g)) e h) above (omega arith) token parent
  | inr more ↦ one_more_node t q k c f
      (ends_with_leaf t m (n + 1 + element_count c) q (s + length (text_of c)) f (behind_node_first t n s (Some m) k c f h) (omega arith) (omega arith)
      (omega arith) token parent)
]

-- the children of a node are trees between two tokens, whose elements have the numbers `first` and `last`
pub record AreBetween (t : Tree) (first last : ℕ) (c : Forest) : Type 0 where
  pub inside : Forest
  pub is : c ≡ between (item t first).kind (text_at record { tree = t; number = first }) inside (item t last).kind
      (text_at record { tree = t; number = last })

-- this holds for a leaf before trees of which the last is a leaf
between_leaves : (t : Tree) (m n q s : ℕ) (k : SyntaxKind) (u : List ℕ) (f : Forest) → HasForest t n s (Some m) (leaf k u f) → EndsWithLeaf t q f
    → AreBetween t n q (leaf k u f)
between_leaves t m n q s k u f h e =
    let kind : (item t n).kind ≡ k = ap (λ (i : Item). i.kind) (first_leaf t n s (Some m) k u f h) in
    let text : text_at record { tree = t; number = n } ≡ u = first_text t n s (Some m) k u f h in
    record {
      inside = e.before;
      is = ap (leaf k u) e.split
          ∙ ap (λ v. leaf k u (join e.before (leaf (item t q).kind v empty))) (sym e.text_is)
          ∙ ap (λ j. leaf j u (join e.before (leaf (item t q).kind (text_at record { tree = t; number = q }) empty))) (sym kind)
          ∙ ap (λ v. leaf (item t n).kind v (join e.before (leaf (item t q).kind (text_at record { tree = t; number = q }) empty))) (sym text);
    }

-- this holds for the children of a node whose first and last elements inside are tokens with this node as their parent
children_between : (t : Tree) (m q s : ℕ) (c : Forest) → HasForest t (m + 1) s (Some m) c → q ≡ m + element_count c → 2 ≤ element_count c
    → (item t (m + 1)).is_node ≡ false → (item t q).is_node ≡ false → (item t q).parent ≡ Some m → AreBetween t (m + 1) q c
children_between t m q s empty h last both opening closing parent = absurd (omega arith)
children_between t m q s (leaf k u f) h last both opening closing parent =
    between_leaves t m (m + 1) q s k u f h
    (ends_with_leaf t m (m + 1 + 1) q (s + length u) f (behind_first t (m + 1) s (Some m) k u f h) (omega arith) (omega arith) (omega arith) closing parent)
children_between t m q s (node k c f) h last both opening closing parent =
    absurd (false≢true (sym opening ∙ ap (λ (i : Item). i.is_node) (first_node t (m + 1) s (Some m) k c f h)))

-- this holds for a node that the code found to have brackets
pub between_brackets : (t : Tree) (m s : ℕ) (p : Option ℕ) (k : SyntaxKind) (c f : Forest) → HasForest t m s p (node k c f) → HasBrackets t m
    → AreBetween t (m + 1) (m + (item t m).below) c
between_brackets t m s p k c f h b =
    let below : (item t m).below ≡ element_count c = ap (λ (i : Item). i.below) (first_node t m s p k c f h) in
    children_between t m (m + (item t m).below) s c (inside_first t m s p k c f h) (omega arith) (omega (arith, b.both)) b.opening b.closing b.parent
