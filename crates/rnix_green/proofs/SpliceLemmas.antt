-- A tree in which another node replaces a node, in terms of stored elements and texts.
use Rattle.std.proofs.Common.{◌≡◌, ℕ, suc, ◌+◌, ◌-◌, ◌<◌, List, [], ◌∷◌, ◌++◌, length, map, take, drop, get_or, Some, None, refl}
use Rattle.std.proofs.{Common.{ap, sym, ◌∙◌, subst, arith, append_assoc, length-append}, lemmas.List.{append-nil, take_at, drop_at}}
use Rattle.rnix_kinds.specs.declared.kinds.SyntaxKind.{SyntaxKind}
use Rattle.rnix_green.specs.declared.packed.Packed.{Packed}
use Rattle.rnix_green.specs.Forest.{Forest, empty, leaf, node, text_of, element_count, HasText}
use Rattle.rnix_green.specs.Tree.{Tree, Item, items_from, forest_of, no_item, item}
use Rattle.rnix_green.specs.Packed.{limit, packed}
use Rattle.rnix_green.specs.Kept.{parent_or_root, kept_from, as_tree, tree_from, IsKept}
use Rattle.rnix_green.specs.Relatives.{IsNodeIn}
use Rattle.rnix_green.specs.Context.{Context, here, behind_leaf, behind_node, inside, filled, text_before, text_after, elements_before}
use Rattle.rnix_green.specs.Splice.{HasOnlyChild, IsSpliced}
use Rattle.rnix_green.specs.SplicedElements.{resized, shifted, shift_inside, shift_behind, spliced}
use Rattle.rnix_green.proofs.KeptLemmas.{tree_from_kept, kept as kept_again}
use Rattle.rnix_green.proofs.InsideLemmas.{elements_in_all}
use Rattle.rnix_green.proofs.ContextLemmas.{found, parent_around, IsPlaced, placed, text_filled, length_filled, characters_filled, count_filled, count_around}
use Rattle.rnix_green.proofs.SplicedForests.{kept_node, length-kept_from, kept_before, kept_behind, length-kept_before, kept_filled, moves_number, shifted_forest}
use Rattle.rnix_green.proofs.SplicedForests.{shifted_behind, resized_before}

-- a forest without elements has no trees
no_trees : (f : Forest) → element_count f ≡ 0 → f ≡ empty
no_trees empty e = refl
no_trees (leaf k t f) e = absurd (omega arith)
no_trees (node k c f) e = absurd (omega arith)

-- the only child of a root is this node
pub record OnlyChild (t : Tree) : Type 0 where
  pub kind : SyntaxKind
  pub children : Forest
  pub is : t.children ≡ node kind children empty

only_in : (k : SyntaxKind) (f : Forest) → HasOnlyChild record { kind = k; children = f } → OnlyChild record { kind = k; children = f }
only_in k empty h = absurd (let there = h.child.is_there in omega arith)
only_in k (leaf j t f) h = absurd (let token = h.child.is_node in cc)
only_in k (node j c f) h =
    let none : f ≡ empty =
    no_trees f (let alone = h.alone in omega (arith, elements_in_all record { kind = k; children = node j c f })) in
    record { kind = j; children = c; is = ap (node j c) none }

-- a root with one child that is a node has this only child
pub only_child : (t : Tree) → HasOnlyChild t → OnlyChild t
only_child t h = only_in t.kind t.children h

-- the trees after the first
abbrev pub later : Forest → Forest
later empty = empty
later (leaf k t f) = f
later (node k c f) = f

-- a tree with another node in a context is one tree
pub one_tree : (t : Tree) (x : Context) (k j : SyntaxKind) (c d : Forest) → forest_of t ≡ filled x k c → forest_of (as_tree (filled x j d)) ≡ filled x j d
one_tree t (here f) k j c d e = ap (node j d) (ap later e)
one_tree t (behind_leaf i u x) k j c d e = absurd (cc)
one_tree t (behind_node i b x) k j c d e = absurd (let none = ap (λ f. element_count (later f)) e in omega (arith, count_around x k c))
one_tree t (inside i x f) k j c d e = ap (node i (filled x j d)) (ap later e)

-- the stored elements inside a root with one child are those of this child
pub kept_inside : (t : Tree) (es : List Packed) (k : SyntaxKind) (c : Forest) → t.children ≡ node k c empty → es ≡ kept_from 0 0 None (forest_of t)
    → drop 2 es ≡ kept_from 2 0 (Some 1) c
kept_inside t es k c e h =
    let child : kept_from 1 0 (Some 0) (node k c empty) ≡ packed k 0 0 (suc (element_count c)) ∷ (kept_from 2 0 (Some 1) c ++ []) =
    kept_node 1 0 (Some 0) k c empty in
    ap (drop 2) (h ∙ ap (λ f. kept_from 0 0 None (node t.kind f empty)) e ∙ kept_node 0 0 None t.kind (node k c empty) empty)
    ∙ ap (λ z. drop 1 (z ++ [])) child
    ∙ append-nil (kept_from 2 0 (Some 1) c ++ [])
    ∙ append-nil (kept_from 2 0 (Some 1) c)

module _ (x : Context) (k j : SyntaxKind) (c d : Forest) (es own : List Packed) (i : Item) (len : ℕ)
    (all : es ≡ kept_from 0 0 None (filled x k c)) (inner : own ≡ kept_from 2 0 (Some 1) d) (is : IsPlaced 0 0 None x k c i)
    (count : len ≡ length (text_of d)) (few : element_count (filled x k c) < limit) (short : length (text_of (filled x k c)) < limit)
    (less : element_count d + 2 < limit) (shorter : length (text_of d) < limit) where
  abbrev n : ℕ
  n = elements_before x

  size : length own ≡ element_count d
  size = ap length inner ∙ length-kept_from 2 0 (Some 1) d

  below : i.below ≡ element_count c
  below = is.below

  abbrev it : Packed
  it = packed k i.start (parent_or_root (parent_around 0 None x)) (suc (element_count c))

  abbrev children : List Packed
  children = kept_from (n + 1) i.start (Some n) c

  parts : es ≡ kept_before 0 0 None x k c ++ (it ∷ (children ++ kept_behind 0 0 None x k c))
  parts = all ∙ kept_filled 0 0 None x k c n i.start (omega arith) (omega (arith, is.start))

  first : take n es ≡ kept_before 0 0 None x k c
  first = ap (take n) parts ∙ take_at (kept_before 0 0 None x k c) _ n (length-kept_before 0 0 None x k c)

  last : drop (n + suc i.below) es ≡ kept_behind 0 0 None x k c
  last =
      ap (drop (n + suc i.below)) (parts ∙ sym (append_assoc (kept_before 0 0 None x k c) (it ∷ children) (kept_behind 0 0 None x k c)))
      ∙ drop_at (kept_before 0 0 None x k c ++ (it ∷ children)) (kept_behind 0 0 None x k c) (n + suc i.below)
      (omega (
        arith,
        below,
        length-append (kept_before 0 0 None x k c) (it ∷ children),
        length-kept_before 0 0 None x k c,
        length-kept_from (n + 1) i.start (Some n) c,
      ))

  new_first : resized 0 n (suc i.below) (suc (length own)) (take n es) ≡ kept_before 0 0 None x j d
  new_first =
      (λ q. resized 0 n (suc (below q)) (suc (size q)) (first q))
      ∙ resized_before n 0 0 None x k j c d (omega arith) (omega arith) (omega arith) (omega arith)

  new_node :
      packed j i.start (parent_or_root i.parent) (suc (length own)) ≡ packed j i.start (parent_or_root (parent_around 0 None x)) (suc (element_count d))
  new_node = λ q. packed j i.start (parent_or_root (is.parent q)) (suc (size q))

  new_inside : map (shifted (shift_inside n i.start)) own ≡ kept_from (n + 1) i.start (Some n) d
  new_inside =
      let w = shift_inside n i.start in
      ap (map (shifted w)) inner
      ∙ shifted_forest w 2 (n + 1) 0 i.start (Some 1) (Some n) d (omega arith) (omega arith) (omega arith) (omega arith)
      (moves_number w 1 n (omega arith) (omega arith)) (omega arith) (omega arith) (omega arith)

  new_last : map (shifted (shift_behind n i (suc (length own)) len)) (drop (n + suc i.below) es) ≡ kept_behind 0 0 None x j d
  new_last =
      let w = shift_behind n i (suc (length own)) len in
      ap (map (shifted w)) last
      ∙ shifted_behind w 0 0 None x k j c d (omega (arith, below)) (omega (arith, size)) (omega (arith, is.end))
      (omega (arith, is.start, count)) (omega arith) (omega arith) (omega arith)

  -- the spliced elements are those of the context with the other node
  pub spliced_kept : spliced es n i j own len ≡ kept_from 0 0 None (filled x j d)
  spliced_kept =
      (λ q. new_first q ++ (new_node q ∷ (new_inside q ++ new_last q)))
      ∙ sym (kept_filled 0 0 None x j d n i.start (omega arith) (omega (arith, is.start)))

-- the text with another text in place of the node's
pub spliced_text : (x : Context) (k j : SyntaxKind) (c d : Forest) (text new whole : List ℕ) (start end : ℕ) → text ≡ text_of (filled x k c)
    → new ≡ text_of d
    → start ≡ length (text_before x)
    → end ≡ length (text_before x) + length (text_of c)
    → whole ≡ take start text ++ (new ++ drop end text)
    → whole ≡ text_of (filled x j d)
spliced_text x k j c d text new whole start end e g s t h =
    let all : text ≡ text_before x ++ (text_of c ++ text_after x) = e ∙ text_filled x k c in
    let front : take start text ≡ text_before x = ap (take start) all ∙ take_at (text_before x) (text_of c ++ text_after x) start (sym s) in
    let back : drop end text ≡ text_after x =
    ap (drop end) (all ∙ sym (append_assoc (text_before x) (text_of c) (text_after x)))
    ∙ drop_at (text_before x ++ text_of c) (text_after x) end (omega (arith, length-append (text_before x) (text_of c))) in
    h ∙ (λ q. front q ++ (g q ++ back q)) ∙ sym (text_filled x j d)

module _ (t o : Tree) (n : ℕ) (es fs new : List Packed) (text other whole : List ℕ) (kind : SyntaxKind) (start end : ℕ) (kept : IsKept t es text)
    (also : IsKept o fs other) (only : HasOnlyChild o) (kind_is : kind ≡ (item o 1).kind) (start_is : start ≡ (item t n).start)
    (end_is : end ≡ (item t n).end) (new_is : new ≡ spliced es n (item t n) kind (drop 2 fs) (length other))
    (whole_is : whole ≡ take start text ++ (other ++ drop end text)) (few : length es - suc (item t n).below + (length fs - 1) < limit)
    (short : length text - (end - start) + length other < limit) where
  -- the stored elements and the text of the tree with the other node
  pub new_kept : (x : Context) (k : SyntaxKind) (c : Forest) (j : SyntaxKind) (d : Forest) → forest_of t ≡ filled x k c → elements_before x ≡ n
      → o.children ≡ node j d empty
      → IsKept (as_tree (filled x j d)) new whole
  new_kept x k c j d e m g =
      let one : forest_of (as_tree (filled x j d)) ≡ filled x j d = one_tree t x k j c d e in
      let is : IsPlaced 0 0 None x k c (item t n) = subst (λ i. IsPlaced 0 0 None x k c (item t i)) m (placed t x k c e) in
      let same_kind : kind ≡ j = kind_is ∙ ap (λ f. (get_or (items_from 0 0 None (node o.kind f empty)) 1 no_item).kind) g in
      let text_is : text ≡ text_of (filled x k c) = kept.text_is ∙ ap text_of e in
      let elements : es ≡ kept_from 0 0 None (filled x k c) = kept.elements ∙ ap (kept_from 0 0 None) e in
      let others : forest_of o ≡ node o.kind (node j d empty) empty = ap (λ f. node o.kind f empty) g in
      let other_is : other ≡ text_of d =
      also.text_is ∙ ap text_of others ∙ append-nil (text_of d ++ []) ∙ append-nil (text_of d) in
      let many : length fs ≡ element_count d + 2 =
      omega (arith, ap length also.elements, length-kept_from 0 0 None (forest_of o), ap element_count others) in
      let made : new ≡ kept_from 0 0 None (filled x j d) =
      new_is ∙ (λ q. spliced es (sym m q) (item t n) (same_kind q) (drop 2 fs) (length other))
      ∙ spliced_kept x k j c d es (drop 2 fs) (item t n) (length other) elements (kept_inside o fs j d g also.elements) is (ap length other_is)
      (omega (arith, kept.few, ap length elements, length-kept_from 0 0 None (filled x k c)))
      (omega (arith, kept.short, ap length text_is))
      (omega (arith, also.few)) (omega (arith, also.short, ap length other_is)) in
      let characters : HasText (filled x j d) =
      characters_filled x k j c d (subst HasText e kept.characters) (subst HasText others also.characters).0.0 in
      let whole_text : whole ≡ text_of (filled x j d) =
      spliced_text x k j c d text other whole start end text_is other_is (omega (arith, start_is, is.start)) (omega (arith, end_is, is.end)) whole_is in
      let count : length es ≡ element_count (filled x k c) = ap length elements ∙ length-kept_from 0 0 None (filled x k c) in
      let new_count : length new ≡ element_count (filled x j d) = ap length made ∙ length-kept_from 0 0 None (filled x j d) in
      record {
        elements = made ∙ ap (kept_from 0 0 None) (sym one);
        text_is = whole_text ∙ ap text_of (sym one);
        characters = subst HasText (sym one) characters;
        short =
            omega (
              arith,
              short,
              start_is,
              end_is,
              is.start,
              is.end,
              ap length text_is,
              ap length other_is,
              ap length whole_text,
              length_filled x k c,
              length_filled x j d,
            );
        few = omega (arith, few, is.below, count, new_count, many, count_filled x k j c d, count_around x k c);
      }

  -- the spliced elements and the text are those of one tree
  pub new_tree : IsNodeIn t n → IsKept (tree_from new whole) new whole
  new_tree there =
      let at = found t n there in
      let child = only_child o only in
      kept_again _ new whole (new_kept at.place at.kind at.children child.kind child.children at.is at.number child.is)

  -- in this tree, the other node replaces the node
  pub new_spliced : (u : Tree) → u ≡ tree_from new whole → IsSpliced t n o u
  new_spliced u h x k c j d e m g =
      ap forest_of (h ∙ tree_from_kept (as_tree (filled x j d)) new whole (new_kept x k c j d e m g)) ∙ one_tree t x k j c d e
