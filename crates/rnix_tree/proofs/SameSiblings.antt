-- Forests are equal if the kinds, sizes and starts of their elements are, and the text.
use Rattle.std.proofs.Common.{◌≡◌, ℕ, suc, ◌+◌, ◌-◌, ◌≤◌, ◌<◌, ◌==◌, nat_lt, List, [], ◌∷◌, ◌++◌, length, true, Option, Some, refl, ap, sym}
use Rattle.std.proofs.{Common.{◌∙◌, subst, arith, inl, inr, append_assoc, length-append}, lemmas.{Bool.{cases_lt, and_parts, Decides.nat_tests}, List.append-nil}}
use Rattle.std.{proofs.lemmas.Bool.{false≢true}, specs.{Prelude.if◌then◌else◌, Cmp.booleans_Decides}}
use Rattle.rnix_kinds.specs.declared.kinds.SyntaxKind.{SyntaxKind}
use Rattle.rnix_green.specs.Forest.{Forest, empty, leaf, node, join, text_of, element_count}
use Rattle.rnix_green.specs.{Equality.{same_kind, same_kind-decides}, Tree.Item}
use Rattle.rnix_green.proofs.{ForestLemmas.element_count-join, NestLemmas.{at}, NumberTests.{is_below, is_not_below}}
use Rattle.rnix_tree.specs.AlikeSiblings.{same_item}
use Rattle.rnix_tree.proofs.SiblingForests.{at_inside, at_beyond}

-- where the element with an index starts, or where the forest ends
abbrev pub stop_at : ℕ → ℕ → Option ℕ → Forest → ℕ → ℕ
stop_at n s p f i = if nat_lt i (element_count f) then (at n s p f i).start else s + length (text_of f)

pub stops_at : (n s : ℕ) (p : Option ℕ) (f : Forest) (i : ℕ) → i < element_count f → stop_at n s p f i ≡ (at n s p f i).start
stops_at n s p f i l = ap (λ b. if b then (at n s p f i).start else s + length (text_of f)) (is_below i (element_count f) l)

-- beyond its elements the forest ends
pub stop_end : (n s : ℕ) (p : Option ℕ) (f : Forest) (i : ℕ) → element_count f ≤ i → stop_at n s p f i ≡ s + length (text_of f)
stop_end n s p f i l = ap (λ b. if b then (at n s p f i).start else s + length (text_of f)) (is_not_below i (element_count f) l)

-- the first element starts where the forest does
stop_start : (n s : ℕ) (p : Option ℕ) (f : Forest) → stop_at n s p f 0 ≡ s
stop_start n s p empty = stop_end n s p empty 0 (omega arith) ∙ omega arith
stop_start n s p (leaf k u f) = stops_at n s p (leaf k u f) 0 (omega arith)
stop_start n s p (node k c f) = stops_at n s p (node k c f) 0 (omega arith)

-- where an element after the first leaf starts does not depend on whether the forest includes the leaf
stop_after_leaf : (n s : ℕ) (p : Option ℕ) (k : SyntaxKind) (u : List ℕ) (f : Forest) (i : ℕ)
    → stop_at n s p (leaf k u f) (suc i) ≡ stop_at (n + 1) (s + length u) p f i
stop_after_leaf n s p k u f i = elim (cases_lt i (element_count f)) [
  | inl l ↦ stops_at n s p (leaf k u f) (suc i) (omega (arith, l)) ∙ sym (stops_at (n + 1) (s + length u) p f i l)
  | inr l ↦
      stop_end n s p (leaf k u f) (suc i) (omega (arith, l)) ∙ omega (arith, length-append u (text_of f))
      ∙ sym (stop_end (n + 1) (s + length u) p f i l)
]

-- the same for a node and the trees after it
stop_after_node : (n s : ℕ) (p : Option ℕ) (k : SyntaxKind) (c f : Forest) (i : ℕ)
    → stop_at n s p (node k c f) (suc (element_count c + i)) ≡ stop_at (n + 1 + element_count c) (s + length (text_of c)) p f i
stop_after_node n s p k c f i = elim (cases_lt i (element_count f)) [
  | inl l ↦
      stops_at n s p (node k c f) (suc (element_count c + i)) (omega (arith, l)) ∙ ap (λ (x : Item). x.start) (at_beyond n s p k c f i)
      ∙ sym (stops_at (n + 1 + element_count c) (s + length (text_of c)) p f i l)
  | inr l ↦
      stop_end n s p (node k c f) (suc (element_count c + i)) (omega (arith, l)) ∙ omega (arith, length-append (text_of c) (text_of f))
      ∙ sym (stop_end (n + 1 + element_count c) (s + length (text_of c)) p f i l)
]

-- the same for the elements inside a node
stop_inside_node : (n s : ℕ) (p : Option ℕ) (k : SyntaxKind) (c f : Forest) (i : ℕ) → i ≤ element_count c
    → stop_at n s p (node k c f) (suc i) ≡ stop_at (n + 1) s (Some n) c i
stop_inside_node n s p k c f i h = elim (cases_lt i (element_count c)) [
  | inl l ↦
      stops_at n s p (node k c f) (suc i) (omega (arith, l)) ∙ ap (λ (x : Item). x.start) (at_inside n s p k c f i l)
      ∙ sym (stops_at (n + 1) s (Some n) c i l)
  | inr l ↦
      let last : suc i ≡ suc (element_count c + 0) = omega (arith, h, l) in
      ap (stop_at n s p (node k c f)) last ∙ stop_after_node n s p k c f 0
      ∙ stop_start (n + 1 + element_count c) (s + length (text_of c)) p f ∙ sym (stop_end (n + 1) s (Some n) c i l)
]

-- after the first trees of a forest, the others start
pub stop_joined : (n s : ℕ) (p : Option ℕ) (f g : Forest) → stop_at n s p (join f g) (element_count f) ≡ s + length (text_of f)
stop_joined n s p empty g = stop_start n s p g ∙ omega arith
stop_joined n s p (leaf k u f) g =
    stop_after_leaf n s p k u (join f g) (element_count f) ∙ stop_joined (n + 1) (s + length u) p f g ∙ omega (arith, length-append u (text_of f))
stop_joined n s p (node k c f) g =
    stop_after_node n s p k c (join f g) (element_count f) ∙ stop_joined (n + 1 + element_count c) (s + length (text_of c)) p f g
    ∙ omega (arith, length-append (text_of c) (text_of f))

-- two equal lists have equal first parts if these have the same length
pub same_front : {X : Type 0} (a b x y : List X) → length a ≡ length b → a ++ x ≡ b ++ y → (a ≡ b) × (x ≡ y)
same_front [] [] x y l e = (refl, e)
same_front [] (v ∷ b) x y l e = absurd (omega (arith, l))
same_front (u ∷ a) [] x y l e = absurd (omega (arith, l))
same_front (u ∷ a) (v ∷ b) x y l e = (let h = same_front a b x y (omega (arith, l)) cc in (cc, h.1))

-- the elements of forest `f` are like the first ones of forest `g`
pub record ElementsAlike (n s : ℕ) (p : Option ℕ) (f : Forest) (m v : ℕ) (q : Option ℕ) (g : Forest) : Type 0 where
  pub fits : element_count f ≤ element_count g
  pub same : (i : ℕ) → i < element_count f → same_item (at n s p f i) (at m v q g i) ≡ true
  pub stops : (i : ℕ) → i ≤ element_count f → stop_at n s p f i - s ≡ stop_at m v q g i - v

-- two elements have the same kind and size
record SameItem (a b : Item) : Type 0 where
  pub kind : a.kind ≡ b.kind
  pub is_node : a.is_node ≡ b.is_node
  pub below : a.below ≡ b.below

same_item_is : (a b : Item) → same_item a b ≡ true → SameItem a b
same_item_is a b e =
    let kinds = and_parts (same_kind a.kind b.kind) _ e in
    let rest = and_parts _ (a.below == b.below) kinds.1 in
    record {
      kind = (same_kind-decides a.kind b.kind).0 kinds.0;
      is_node = (booleans_Decides a.is_node b.is_node).0 rest.0;
      below = one_number a.below b.below rest.1;
    }
  where
    one_number : (a b : ℕ) → (a == b) ≡ true → a ≡ b
    one_number a b h = grind (arith, nat_tests)

-- the same without the first leaf
without_leaf : (n s : ℕ) (p : Option ℕ) (k : SyntaxKind) (u : List ℕ) (f : Forest) (m v : ℕ) (q : Option ℕ) (l : SyntaxKind) (w : List ℕ) (g : Forest)
    → length u ≡ length w → ElementsAlike n s p (leaf k u f) m v q (leaf l w g)
    → ElementsAlike (n + 1) (s + length u) p f (m + 1) (v + length w) q g
without_leaf n s p k u f m v q l w g e h = record {
  fits = omega (arith, h.fits);
  same = λ i less. h.same (suc i) (omega (arith, less));
  stops = λ i less. omega (arith, h.stops (suc i) (omega (arith, less)), stop_after_leaf n s p k u f i, stop_after_leaf m v q l w g i, e);
}

-- the same inside the first node
inside_both : (n s : ℕ) (p : Option ℕ) (k : SyntaxKind) (c f : Forest) (m v : ℕ) (q : Option ℕ) (l : SyntaxKind) (d g : Forest)
    → element_count c ≡ element_count d → ElementsAlike n s p (node k c f) m v q (node l d g) → ElementsAlike (n + 1) s (Some n) c (m + 1) v (Some m) d
inside_both n s p k c f m v q l d g e h = record {
  fits = omega (arith, e);
  same = λ i less.
      subst (λ x. same_item x (at (m + 1) v (Some m) d i) ≡ true) (at_inside n s p k c f i less)
      (subst (λ x. same_item (at n s p (node k c f) (suc i)) x ≡ true) (at_inside m v q l d g i (omega (arith, less, e)))
      (h.same (suc i) (omega (arith, less))));
  stops = λ i less.
      omega (
        arith,
        h.stops (suc i) (omega (arith, less)),
        stop_inside_node n s p k c f i less,
        stop_inside_node m v q l d g i (omega (arith, less, e)),
      );
}

-- the same after the first node
without_node : (n s : ℕ) (p : Option ℕ) (k : SyntaxKind) (c f : Forest) (m v : ℕ) (q : Option ℕ) (l : SyntaxKind) (d g : Forest)
    → element_count c ≡ element_count d → length (text_of c) ≡ length (text_of d) → ElementsAlike n s p (node k c f) m v q (node l d g)
    → ElementsAlike (n + 1 + element_count c) (s + length (text_of c)) p f (m + 1 + element_count d) (v + length (text_of d)) q g
without_node n s p k c f m v q l d g e t h = record {
  fits = omega (arith, h.fits, e);
  same = λ i less.
      let j : suc (element_count c + i) ≡ suc (element_count d + i) = omega (arith, e) in
      subst (λ x. same_item x (at (m + 1 + element_count d) (v + length (text_of d)) q g i) ≡ true) (at_beyond n s p k c f i)
      (subst (λ x. same_item (at n s p (node k c f) (suc (element_count c + i))) x ≡ true)
      (ap (at m v q (node l d g)) j ∙ at_beyond m v q l d g i) (h.same (suc (element_count c + i)) (omega (arith, less))));
  stops = λ i less.
      let j : suc (element_count c + i) ≡ suc (element_count d + i) = omega (arith, e) in
      omega (
        arith,
        h.stops (suc (element_count c + i)) (omega (arith, less)),
        stop_after_node n s p k c f i,
        ap (stop_at m v q (node l d g)) j,
        stop_after_node m v q l d g i,
        t,
      );
}

-- forest `g` begins with forest `f`
pub record BeginsWith (f g : Forest) : Type 0 where
  pub rest : Forest
  pub is : g ≡ join f rest

all_joined : (f g : Forest) → element_count f ≡ element_count g → BeginsWith f g → g ≡ f
all_joined f g e h = h.is ∙ alone f h.rest (omega (arith, e, ap element_count h.is, element_count-join f h.rest))
  where
    alone : (f g : Forest) → element_count g ≡ 0 → join f g ≡ f
    alone empty empty e = refl
    alone empty (leaf k u g) e = absurd (omega (arith, e))
    alone empty (node k c g) e = absurd (omega (arith, e))
    alone (leaf k u f) g e = ap (leaf k u) (alone f g e)
    alone (node k c f) g e = ap (node k c) (alone f g e)

-- if the elements of a forest are like the first ones of another, and its text begins the other's, the other forest begins with it
pub begins_alike : (n s : ℕ) (p : Option ℕ) (f : Forest) (m v : ℕ) (q : Option ℕ) (g : Forest) (rest : List ℕ) → ElementsAlike n s p f m v q g
    → text_of g ≡ text_of f ++ rest → BeginsWith f g
begins_alike n s p empty m v q g rest h e = record { rest = g; is = refl }
begins_alike n s p (leaf k u f) m v q empty rest h e = absurd (omega (arith, h.fits))
begins_alike n s p (leaf k u f) m v q (node l d g) rest h e =
    absurd (false≢true (same_item_is (at n s p (leaf k u f) 0) (at m v q (node l d g) 0) (h.same 0 (omega arith))).is_node)
begins_alike n s p (leaf k u f) m v q (leaf l w g) rest h e =
    let item = same_item_is (at n s p (leaf k u f) 0) (at m v q (leaf l w g) 0) (h.same 0 (omega arith)) in
    let long : length u ≡ length w =
    omega (
      arith,
      h.stops 1 (omega arith),
      stop_after_leaf n s p k u f 0,
      stop_start (n + 1) (s + length u) p f,
      stop_after_leaf m v q l w g 0,
      stop_start (m + 1) (v + length w) q g,
    ) in
    let texts = same_front w u (text_of g) (text_of f ++ rest) (sym long) (e ∙ append_assoc u (text_of f) rest) in
    let r = begins_alike (n + 1) (s + length u) p f (m + 1) (v + length w) q g rest (without_leaf n s p k u f m v q l w g long h) texts.1 in
    record { rest = r.rest; is = ap (λ x. leaf x w g) (sym item.kind) ∙ ap (λ x. leaf k x g) texts.0 ∙ ap (leaf k u) r.is }
begins_alike n s p (node k c f) m v q empty rest h e = absurd (omega (arith, h.fits))
begins_alike n s p (node k c f) m v q (leaf l w g) rest h e =
    absurd (false≢true (sym (same_item_is (at n s p (node k c f) 0) (at m v q (leaf l w g) 0) (h.same 0 (omega arith))).is_node))
begins_alike n s p (node k c f) m v q (node l d g) rest h e =
    let item = same_item_is (at n s p (node k c f) 0) (at m v q (node l d g) 0) (h.same 0 (omega arith)) in
    let below : element_count c ≡ element_count d = item.below in
    let inner = inside_both n s p k c f m v q l d g below h in
    let long : length (text_of c) ≡ length (text_of d) =
    omega (
      arith,
      inner.stops (element_count c) (omega arith),
      stop_end (n + 1) s (Some n) c (element_count c) (omega arith),
      stop_end (m + 1) v (Some m) d (element_count c) (omega (arith, below)),
    ) in
    let texts = same_front (text_of d) (text_of c) (text_of g) (text_of f ++ rest) (sym long) (e ∙ append_assoc (text_of c) (text_of f) rest) in
    let same = all_joined c d below
    (begins_alike (n + 1) s (Some n) c (m + 1) v (Some m) d [] inner (texts.0 ∙ sym (append-nil (text_of c)))) in
    let r = begins_alike (n + 1 + element_count c) (s + length (text_of c)) p f (m + 1 + element_count d) (v + length (text_of d)) q g rest
    (without_node n s p k c f m v q l d g below long h) texts.1 in
    record { rest = r.rest; is = ap (λ x. node x d g) (sym item.kind) ∙ ap (λ x. node k x g) same ∙ ap (node k c) r.is }
