-- The context of a node in a tree: the trees around the node, and its place among them.
use Rattle.std.proofs.Common.{◌≡◌, ℕ, zero, suc, ◌+◌, ◌-◌, ◌≤◌, ◌<◌, ◌++◌, length, Option, Some, None, true, refl, ap, sym, ◌∙◌}
use Rattle.std.proofs.Common.{subst, arith, append_assoc, length-append}
use Rattle.rnix_kinds.specs.declared.kinds.SyntaxKind.{SyntaxKind}
use Rattle.rnix_green.specs.Forest.{Forest, empty, leaf, node, text_of, element_count, HasText}
use Rattle.rnix_green.specs.Tree.{Tree, Item, forest_of, item}
use Rattle.rnix_green.specs.Relatives.{IsNodeIn}
use Rattle.rnix_green.specs.Context.{Context, here, behind_leaf, behind_node, inside, filled, text_before, text_after, elements_before}
use Rattle.rnix_green.proofs.NestLemmas as n
use Rattle.rnix_green.proofs.NestLemmas.{at, behind}
use Rattle.rnix_green.proofs.InsideLemmas.{elements_in_all}

-- an element of a forest is a node with a context
pub record HasContext (f : Forest) (m : ℕ) : Type 0 where
  pub place : Context
  pub kind : SyntaxKind
  pub children : Forest
  pub is : f ≡ filled place kind children
  pub number : elements_before place ≡ m

-- each node of a forest has a context
pub find_context : (i s : ℕ) (p : Option ℕ) (f : Forest) (m : ℕ) → m < element_count f → (at i s p f m).is_node ≡ true → HasContext f m
find_context i s p empty m l e = absurd (omega arith)
find_context i s p (leaf k t f) zero l e = absurd (cc)
find_context i s p (leaf k t f) (suc m) l e =
    let r = find_context (i + 1) (s + length t) p f m (omega arith) e in
    record { place = behind_leaf k t r.place; kind = r.kind; children = r.children; is = ap (leaf k t) r.is; number = ap suc r.number }
find_context i s p (node k c f) zero l e = record { place = here f; kind = k; children = c; is = refl; number = refl }
find_context i s p (node k c f) (suc m) l e = elim (behind i s p k c f m) as (λ b. HasContext (node k c f) (suc m)) [
  | n.inside low x ↦
      let r = find_context (i + 1) s (Some i) c m low (sym (ap (λ (y : Item). y.is_node) x) ∙ e) in
      record { place = inside k r.place f; kind = r.kind; children = r.children; is = ap (λ z. node k z f) r.is; number = ap suc r.number }
  | n.beyond high x ↦
      let r =
      find_context (i + 1 + element_count c) (s + length (text_of c)) p f (m - element_count c) (omega arith)
      (sym (ap (λ (y : Item). y.is_node) x) ∙ e) in
      record {
        place = behind_node k c r.place;
        kind = r.kind;
        children = r.children;
        is = ap (node k c) r.is;
        number = omega (arith, r.number);
      }
]

-- each node of a tree has a context
pub found : (t : Tree) (m : ℕ) → IsNodeIn t m → HasContext (forest_of t) m
found t m h = find_context 0 0 None (forest_of t) m (omega (arith, h.is_there, elements_in_all t)) h.is_node

-- the number of the parent of the node in a context, in a forest whose first element has the number `i` and the parent `p`
abbrev pub parent_around : ℕ → Option ℕ → Context → Option ℕ
parent_around i p (here f) = p
parent_around i p (behind_leaf j t x) = parent_around (i + 1) p x
parent_around i p (behind_node j d x) = parent_around (i + 1 + element_count d) p x
parent_around i p (inside j x f) = parent_around (i + 1) (Some i) x

-- the node in a context is among the elements
pub count_around : (x : Context) (k : SyntaxKind) (c : Forest) → elements_before x + suc (element_count c) ≤ element_count (filled x k c)
count_around (here f) k c = omega arith
count_around (behind_leaf j t x) k c = omega (arith, count_around x k c)
count_around (behind_node j d x) k c = omega (arith, count_around x k c)
count_around (inside j x f) k c = omega (arith, count_around x k c)

-- the item of the node in a context
pub record IsPlaced (i s : ℕ) (p : Option ℕ) (x : Context) (k : SyntaxKind) (c : Forest) (shown : Item) : Type 0 where
  pub kind : shown.kind ≡ k
  pub is_node : shown.is_node ≡ true
  pub start : shown.start ≡ s + length (text_before x)
  pub end : shown.end ≡ s + length (text_before x) + length (text_of c)
  pub parent : shown.parent ≡ parent_around i p x
  pub below : shown.below ≡ element_count c

-- the node in a context has its number and item in the forest
pub placed_in : (i s : ℕ) (p : Option ℕ) (x : Context) (k : SyntaxKind) (c : Forest) → IsPlaced i s p x k c (at i s p (filled x k c) (elements_before x))
placed_in i s p (here f) k c = record { kind = refl; is_node = refl; start = omega arith; end = omega arith; parent = refl; below = refl }
placed_in i s p (behind_leaf j t x) k c =
    let r = placed_in (i + 1) (s + length t) p x k c in
    record {
      kind = r.kind;
      is_node = r.is_node;
      start = omega (arith, r.start, length-append t (text_before x));
      end = omega (arith, r.end, length-append t (text_before x));
      parent = r.parent;
      below = r.below;
    }
placed_in i s p (behind_node j d x) k c =
    let r = placed_in (i + 1 + element_count d) (s + length (text_of d)) p x k c in
    let back : element_count d + elements_before x - element_count d ≡ elements_before x = omega arith in
    elim (behind i s p j d (filled x k c) (element_count d + elements_before x)) as
    (λ b. IsPlaced i s p (behind_node j d x) k c (at i s p (node j d (filled x k c)) (suc (element_count d + elements_before x)))) [
      | n.inside low y ↦ absurd (omega arith)
      | n.beyond high y ↦
          let same = y ∙ ap (at (i + 1 + element_count d) (s + length (text_of d)) p (filled x k c)) back in
          record {
            kind = ap (λ (z : Item). z.kind) same ∙ r.kind;
            is_node = ap (λ (z : Item). z.is_node) same ∙ r.is_node;
            start = omega (arith, r.start, ap (λ (z : Item). z.start) same, length-append (text_of d) (text_before x));
            end = omega (arith, r.end, ap (λ (z : Item). z.end) same, length-append (text_of d) (text_before x));
            parent = ap (λ (z : Item). z.parent) same ∙ r.parent;
            below = ap (λ (z : Item). z.below) same ∙ r.below;
          }
    ]
placed_in i s p (inside j x f) k c =
    let r = placed_in (i + 1) s (Some i) x k c in
    elim (behind i s p j (filled x k c) f (elements_before x)) as
    (λ b. IsPlaced i s p (inside j x f) k c (at i s p (node j (filled x k c) f) (suc (elements_before x)))) [
      | n.inside low y ↦ record {
        kind = ap (λ (z : Item). z.kind) y ∙ r.kind;
        is_node = ap (λ (z : Item). z.is_node) y ∙ r.is_node;
        start = ap (λ (z : Item). z.start) y ∙ r.start;
        end = ap (λ (z : Item). z.end) y ∙ r.end;
        parent = ap (λ (z : Item). z.parent) y ∙ r.parent;
        below = ap (λ (z : Item). z.below) y ∙ r.below;
      }
      | n.beyond high y ↦ absurd (omega (arith, count_around x k c))
    ]

-- the node in a context has its number and item in the tree
pub placed : (t : Tree) (x : Context) (k : SyntaxKind) (c : Forest) → forest_of t ≡ filled x k c → IsPlaced 0 0 None x k c (item t (elements_before x))
placed t x k c e = subst (λ f. IsPlaced 0 0 None x k c (at 0 0 None f (elements_before x))) (sym e) (placed_in 0 0 None x k c)

-- the item of the node in a context, apart from its parent
pub record IsShown (x : Context) (k : SyntaxKind) (c : Forest) (shown : Item) : Type 0 where
  pub kind : shown.kind ≡ k
  pub start : shown.start ≡ length (text_before x)
  pub end : shown.end ≡ length (text_before x) + length (text_of c)
  pub below : shown.below ≡ element_count c

-- the kind, the range and the size of the node in a context
pub shown : (t : Tree) (n : ℕ) (x : Context) (k : SyntaxKind) (c : Forest) → forest_of t ≡ filled x k c → elements_before x ≡ n → IsShown x k c (item t n)
shown t n x k c e m =
    let is : IsPlaced 0 0 None x k c (item t n) = subst (λ i. IsPlaced 0 0 None x k c (item t i)) m (placed t x k c e) in
    record { kind = is.kind; start = omega (arith, is.start); end = omega (arith, is.end); below = is.below }

-- the text of a context with a node is the text before the node, the node's, and the text after it
pub text_filled : (x : Context) (k : SyntaxKind) (c : Forest) → text_of (filled x k c) ≡ text_before x ++ (text_of c ++ text_after x)
text_filled (here f) k c = refl
text_filled (behind_leaf j t x) k c = ap (λ z. t ++ z) (text_filled x k c) ∙ sym (append_assoc t (text_before x) (text_of c ++ text_after x))
text_filled (behind_node j d x) k c =
    ap (λ z. text_of d ++ z) (text_filled x k c) ∙ sym (append_assoc (text_of d) (text_before x) (text_of c ++ text_after x))
text_filled (inside j x f) k c =
    ap (λ z. z ++ text_of f) (text_filled x k c) ∙ append_assoc (text_before x) (text_of c ++ text_after x) (text_of f)
    ∙ ap (λ z. text_before x ++ z) (append_assoc (text_of c) (text_after x) (text_of f))

-- its length is the sum of these
pub length_filled : (x : Context) (k : SyntaxKind) (c : Forest) →
    length (text_of (filled x k c)) ≡ length (text_before x) + length (text_of c) + length (text_after x)
length_filled x k c =
    omega (
      arith,
      ap length (text_filled x k c),
      length-append (text_before x) (text_of c ++ text_after x),
      length-append (text_of c) (text_after x),
    )

-- if the leaves of a context with a node are UTF-8, so are those with another node in it whose leaves are UTF-8
pub characters_filled : (x : Context) (k j : SyntaxKind) (c d : Forest) → HasText (filled x k c) → HasText d → HasText (filled x j d)
characters_filled (here f) k j c d h g = (g, h.1)
characters_filled (behind_leaf i t x) k j c d h g = (h.0, characters_filled x k j c d h.1 g)
characters_filled (behind_node i e x) k j c d h g = (h.0, characters_filled x k j c d h.1 g)
characters_filled (inside i x f) k j c d h g = (characters_filled x k j c d h.0 g, h.1)

-- a context with a node has the elements of the context, and those of the node
pub count_filled : (x : Context) (k j : SyntaxKind) (c d : Forest) →
    element_count (filled x k c) + element_count d ≡ element_count (filled x j d) + element_count c
count_filled (here f) k j c d = omega arith
count_filled (behind_leaf i t x) k j c d = omega (arith, count_filled x k j c d)
count_filled (behind_node i e x) k j c d = omega (arith, count_filled x k j c d)
count_filled (inside i x f) k j c d = omega (arith, count_filled x k j c d)
