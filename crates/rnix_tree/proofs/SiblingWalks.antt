-- A walk over the siblings of a forest.
use Rattle.std.proofs.Common.{◌≡◌, ℕ, suc, ◌+◌, ◌-◌, ◌≤◌, ◌<◌, ◌==◌, ◌⊎◌, inl, inr, length-append, [], ◌∷◌, ◌++◌, length, Bool, true, false, Option, Some, None, refl, ap, sym, ◌∙◌}
use Rattle.{std.{proofs.{Common.{subst, arith, append_assoc}, lemmas.{Bool.{cases_lt, Decides.nat_tests}, List.append-nil}}, specs.Prelude.{if◌then◌else◌}}}
use Rattle.rnix_green.specs.Forest.{Forest, empty, leaf, node, join, text_of, element_count}
use Rattle.rnix_green.specs.{Tree.{Tree, Item, items_of, item, part_at}, Walk.{steps_from}}
use Rattle.rnix_green.proofs.{NumberTests.{is_same, is_above, is_below, is_not_below}, InsideLemmas.{held, below_parent, IsBelow, ends_inside}, SiblingLemmas.next_inside}
use Rattle.rnix_green.proofs.{ForestLemmas.{element_count-join, text_of-join}, ParentLemmas.parent_is_before, PartLemmas.{IsOne, one_leaf, one_node, one_there}}
use Rattle.rnix_tree.specs.declared.{sibling_range.SiblingRange.SiblingRange, walk.Next.{TheVariants.{Enter, Leave, Done}}}
use Rattle.rnix_tree.specs.Cursor.{steps_remaining, IsInside, IsNextWithin, after_enter, after_leave, behind}
use Rattle.rnix_tree.specs.AlikeSiblings.{holder_of, siblings_held, siblings_at, IsSiblingRange, after_siblings}
use Rattle.rnix_tree.proofs.{ListLemmas.cons_same, PreorderLemmas.{enters, leaves, behind_inner, whole_walk}, WalkSiblings.none_from_count}
use Rattle.rnix_tree.proofs.SiblingForests.{IsForest, after_leaf, after_node, inside_node, first_leaf, first_node, later_trees, IsPartOf, part_forest}
use Rattle.rnix_tree.proofs.SiblingForests.{rest_from}

-- after an element is left, the one after it is entered, or its parent is left
goes_behind : (t : Tree) (root m z outer end : ℕ) → root < m → (item t m).parent ≡ Some outer → m + 1 + (item t m).below ≡ z
    → outer + 1 + (item t outer).below ≡ end → z < end → after_leave t root m ≡ Enter z
goes_behind t root m z outer end low parent next ends less =
    ap (behind t root m) parent ∙ behind_inner t root m outer low
    ∙ ap (λ b. if b then Enter (m + 1 + (item t m).below) else Leave outer) (is_below _ _ (omega (arith, next, ends, less))) ∙ ap Enter next

leaves_parent : (t : Tree) (root m z outer end : ℕ) → root < m → (item t m).parent ≡ Some outer → m + 1 + (item t m).below ≡ z
    → outer + 1 + (item t outer).below ≡ end → end ≤ z → after_leave t root m ≡ Leave outer
leaves_parent t root m z outer end low parent next ends less =
    ap (behind t root m) parent ∙ behind_inner t root m outer low
    ∙ ap (λ b. if b then Enter (m + 1 + (item t m).below) else Leave outer) (is_not_below _ _ (omega (arith, next, ends, less)))

-- after an element is entered, what is inside it is entered
goes_inside : (t : Tree) (m : ℕ) → 0 < (item t m).below → after_enter t m ≡ Enter (m + 1)
goes_inside t m some = ap (λ b. if b then Enter (m + 1) else Leave m) (is_below _ _ some)

leaves_again : (t : Tree) (m : ℕ) → (item t m).below ≤ 0 → after_enter t m ≡ Leave m
leaves_again t m none = ap (λ b. if b then Enter (m + 1) else Leave m) (is_not_below _ _ none)

module _ (t : Tree) (root : ℕ) (there : root < length (items_of t)) where
  -- leaving an element, and then walking the trees after it
  one_remaining : (f : Forest) (m z q stop : ℕ) → root < m → IsInside t root m → (item t m).parent ≡ Some q → m + 1 + (item t m).below ≡ z
      → z + element_count f ≡ stop → q + 1 + (item t q).below ≡ stop
      → (0 < element_count f → IsInside t root z → steps_remaining t root (Enter z) ≡ steps_from z f ++ steps_remaining t root (Leave q))
      → steps_remaining t root (Leave m) ≡ (false, m) ∷ (steps_from z f ++ steps_remaining t root (Leave q))
  one_remaining f m z q stop low inside parent next counted ends walked =
      let g = leaves t root m there inside in
      elim (cases_lt 0 (element_count f)) [
        | inl some ↦
            let e : after_leave t root m ≡ Enter z = goes_behind t root m z q stop low parent next ends (omega (arith, counted, some)) in
            g.step_is ∙ cons_same refl (ap (steps_remaining t root) e ∙ walked some (subst (IsNextWithin t root) e g.within))
        | inr none ↦
            let e : after_leave t root m ≡ Leave q = leaves_parent t root m z q stop low parent next ends (omega (arith, counted, none)) in
            g.step_is ∙ cons_same refl (ap (steps_remaining t root) e
            ∙ ap (λ x. x ++ steps_remaining t root (Leave q)) (sym (none_from_count f z (omega (arith, none)))))
      ]

  -- entering an element, and then walking the forest inside it
  one_entered : (c : Forest) (m : ℕ) → IsInside t root m → (item t m).below ≡ element_count c
      → (0 < element_count c → IsInside t root (m + 1) → steps_remaining t root (Enter (m + 1)) ≡ steps_from (m + 1) c ++ steps_remaining t root (Leave m))
      → steps_remaining t root (Enter m) ≡ (true, m) ∷ (steps_from (m + 1) c ++ steps_remaining t root (Leave m))
  one_entered c m inside counted walked =
      let g = enters t root m there inside in
      elim (cases_lt 0 (element_count c)) [
        | inl some ↦
            let e : after_enter t m ≡ Enter (m + 1) = goes_inside t m (omega (arith, counted, some)) in
            g.step_is ∙ cons_same refl (ap (steps_remaining t root) e ∙ walked some (subst (IsNextWithin t root) e g.within))
        | inr none ↦
            let e : after_enter t m ≡ Leave m = leaves_again t m (omega (arith, counted, none)) in
            g.step_is ∙ cons_same refl (ap (steps_remaining t root) e
            ∙ ap (λ x. x ++ steps_remaining t root (Leave m)) (sym (none_from_count c (m + 1) (omega (arith, none)))))
      ]

  -- walking a whole forest, until the node around it is left
  pub siblings_walked : (f : Forest) (m s q stop : ℕ) → IsForest t m s (Some q) f → 0 < element_count f → root < m → IsInside t root m
      → m + element_count f ≡ stop → q + 1 + (item t q).below ≡ stop → steps_remaining t root (Enter m) ≡ steps_from m f ++ steps_remaining t root (Leave q)
  siblings_walked empty m s q stop is some low inside counted ends = absurd (omega arith)
  siblings_walked (leaf k u f) m s q stop is some low inside counted ends =
      let own = first_leaf t m s (Some q) k u f is in
      let below : (item t m).below ≡ 0 = ap (λ (i : Item). i.below) own in
      one_entered empty m inside below (λ none. absurd (omega (arith, none)))
      ∙ ap (λ x. (true, m) ∷ x)
      (one_remaining f m (m + 1) q stop low inside (ap (λ (i : Item). i.parent) own) (omega (arith, below)) (omega (arith, counted)) ends
      (λ more within. siblings_walked f (m + 1) (s + length u) q stop (after_leaf t m s (Some q) k u f is) more (omega (arith, low)) within
      (omega (arith, counted)) ends))
  siblings_walked (node k c f) m s q stop is some low inside counted ends =
      let own = first_node t m s (Some q) k c f is in
      let below : (item t m).below ≡ element_count c = ap (λ (i : Item). i.below) own in
      let z = m + 1 + element_count c in
      let tail = steps_remaining t root (Leave q) in
      one_entered c m inside below
      (λ more within. siblings_walked c (m + 1) s m z (inside_node t m s (Some q) k c f is) more (omega (arith, low)) within (omega arith)
      (omega (arith, below)))
      ∙ ap (λ x. (true, m) ∷ (steps_from (m + 1) c ++ x))
      (one_remaining f m z q stop low inside (ap (λ (i : Item). i.parent) own) (omega (arith, below)) (omega (arith, counted)) ends
      (λ more within. siblings_walked f z (s + length (text_of c)) q stop (after_node t m s (Some q) k c f is) more (omega (arith, low)) within
      (omega (arith, counted)) ends))
      ∙ ap (λ x. (true, m) ∷ x) (sym (append_assoc (steps_from (m + 1) c) ((false, m) ∷ steps_from z f) tail))

-- the steps of two joined forests are those of both
pub steps_from-join : (n m : ℕ) (f g : Forest) → n + element_count f ≡ m → steps_from n (join f g) ≡ steps_from n f ++ steps_from m g
steps_from-join n m empty g e = (let same : n ≡ m = omega (arith, e) in ap (λ x. steps_from x g) same)
steps_from-join n m (leaf k u f) g e = ap (λ x. (true, n) ∷ (false, n) ∷ x) (steps_from-join (n + 1) m f g (omega (arith, e)))
steps_from-join n m (node k c f) g e =
    ap (λ x. (true, n) ∷ (steps_from (n + 1) c ++ (false, n) ∷ x)) (steps_from-join (n + 1 + element_count c) m f g (omega (arith, e)))
    ∙ ap (λ x. (true, n) ∷ x) (sym (append_assoc (steps_from (n + 1) c) ((false, n) ∷ steps_from (n + 1 + element_count c) f) (steps_from m g)))

-- the siblings from an element on, as a forest in a walk
pub record SiblingForest (t : Tree) (root : ℕ) (siblings : SiblingRange) : Type 0 where
  pub forest : Forest
  pub start : ℕ
  pub parent : Option ℕ
  pub is : IsForest t siblings.first start parent forest
  pub some : 0 < element_count forest
  pub counted : siblings.first + element_count forest ≡ siblings.end
  pub ends : (item t siblings.holder).end ≡ start + length (text_of forest)
  pub holder_there : siblings.holder < length (items_of t)
  pub within : (n : ℕ) → siblings.first ≤ n → n ≤ siblings.end → IsNextWithin t root (after_siblings siblings n)
  pub walked : (f g : Forest) (n : ℕ) → forest ≡ join f g → siblings.first + element_count f ≡ n
      → steps_remaining t root (after_siblings siblings n) ≡ steps_from n g ++ steps_remaining t root (after_siblings siblings siblings.end)

-- after some siblings, the walk enters the next one
pub enters_next : (siblings : SiblingRange) (n : ℕ) → n < siblings.end → after_siblings siblings n ≡ Enter n
enters_next siblings n l = ap (λ b. if b then Enter n else (if siblings.holder == siblings.first then Done else Leave siblings.holder))
    (is_below n siblings.end l)

-- after all of them it leaves the node around them
leaves_holder : (siblings : SiblingRange) (n : ℕ) → siblings.end ≤ n → siblings.holder < siblings.first → after_siblings siblings n ≡ Leave siblings.holder
leaves_holder siblings n l low =
    ap (λ b. if b then Enter n else (if siblings.holder == siblings.first then Done else Leave siblings.holder)) (is_not_below n siblings.end l)
    ∙ ap (λ b. if b then Done else Leave siblings.holder) (is_below_first siblings.holder siblings.first low)
  where
    is_below_first : (a b : ℕ) → a < b → (a == b) ≡ false
    is_below_first a b l = grind (arith, nat_tests)

-- or it ends
ends_walk : (siblings : SiblingRange) (n : ℕ) → siblings.end ≤ n → siblings.holder ≡ siblings.first → after_siblings siblings n ≡ Done
ends_walk siblings n l same =
    ap (λ b. if b then Enter n else (if siblings.holder == siblings.first then Done else Leave siblings.holder)) (is_not_below n siblings.end l)
    ∙ ap (λ b. if b then Done else Leave siblings.holder) (is_same siblings.holder siblings.first same)

-- after all of them it enters no element next
pub enters_none : (siblings : SiblingRange) (n m : ℕ) → siblings.end ≤ n → after_siblings siblings n ≡ Enter m → ⊥
enters_none siblings n m l e =
    other (siblings.holder == siblings.first)
    (sym (ap (λ b. if b then Enter n else (if siblings.holder == siblings.first then Done else Leave siblings.holder)) (is_not_below n siblings.end l)) ∙ e)
  where
    other : (b : Bool) → (if b then Done else Leave siblings.holder) ≡ Enter m → ⊥
    other true e = absurd (cc)
    other false e = absurd (cc)

-- the siblings inside a node
inner_siblings : (t : Tree) (root x p : ℕ) → root < length (items_of t) → IsInside t root x → root < x → (item t x).parent ≡ Some p → root ≤ p
    → SiblingForest t root (siblings_held t x p)
inner_siblings t root x p there inside low parent outer = go _ (one_there t p p_there) (part_forest t p p_there)
  where
    over : IsBelow t p x
    over = below_parent t x p inside.there parent

    p_there : p < length (items_of t)
    p_there = omega (arith, over.low, inside.there)

    p_inside : IsInside t root p
    p_inside = record { low = outer; high = omega (arith, over.low, inside.high); there = p_there }

    fits : p + (item t p).below ≤ root + (item t root).below
    fits = elim (cases_lt root p) [
      | inl less ↦ ends_inside t root p there less (omega (arith, p_inside.high))
      | inr same ↦ (let e : p ≡ root = omega (arith, same, outer) in omega (arith, ap (λ n. n + (item t n).below) e))
    ]

    next : (n : ℕ) → x ≤ n → n < p + 1 + (item t p).below → IsInside t root n
    next n l h = record { low = omega (arith, low, l); high = omega (arith, h, fits); there = omega (arith, h, next_inside t p p_there) }

    siblings : SiblingRange
    siblings = siblings_held t x p

    go : (part : Forest) → IsOne part → IsPartOf t p part → SiblingForest t root (siblings_held t x p)
    go _ (one_leaf k u) h =
        absurd (let none = ap (λ (i : Item). i.below) (first_leaf t p h.start h.parent k u empty h.is) in omega (arith, none, over.low, over.high))
    go _ (one_node k c) h =
        let own = first_node t p h.start h.parent k c empty h.is in
        let below : (item t p).below ≡ element_count c = ap (λ (i : Item). i.below) own in
        let end : (item t p).end ≡ h.start + length (text_of c) = ap (λ (i : Item). i.end) own in
        let all = inside_node t p h.start h.parent k c empty h.is in
        let i = x - (p + 1) in
        let here : p + 1 + i ≡ x = omega (arith, over.low) in
        let less : i < element_count c = omega (arith, over.low, over.high, below) in
        let r = rest_from (p + 1) h.start p c i x (omega arith) here less
        (ap (λ (j : Item). j.parent) (sym (all.items i less)) ∙ ap (λ n. (item t n).parent) here ∙ parent) in
        let start = h.start + length (text_of r.first) in
        let is = later_trees t (p + 1) h.start x start (Some p) r.first r.rest (subst (IsForest t (p + 1) h.start (Some p)) r.both all) r.counted refl in
        let elements = ap element_count r.both ∙ element_count-join r.first r.rest in
        let texts = ap text_of r.both ∙ text_of-join r.first r.rest in
        let counted : x + element_count r.rest ≡ p + 1 + (item t p).below = omega (arith, elements, r.counted, below) in
        record {
          forest = r.rest;
          start = start;
          parent = Some p;
          is = is;
          some = r.some;
          counted = counted;
          ends = omega (arith, end, ap length texts, length-append (text_of r.first) (text_of r.rest));
          holder_there = p_there;
          within = λ n l h. elim (cases_lt n siblings.end) [
            | inl more ↦ subst (IsNextWithin t root) (sym (enters_next siblings n more)) (next n l more)
            | inr last ↦ subst (IsNextWithin t root) (sym (leaves_holder siblings n last over.low)) p_inside
          ];
          walked = λ f g n e first.
              let count = ap element_count e ∙ element_count-join f g in
              let tail = sym (leaves_holder siblings siblings.end (omega arith) over.low) in
              elim (cases_lt 0 (element_count g)) [
                | inl some ↦
                    let more : n < siblings.end = omega (arith, some, count, first, counted) in
                    ap (steps_remaining t root) (enters_next siblings n more)
                    ∙ siblings_walked t root there g n (start + length (text_of f)) p siblings.end
                    (later_trees t x start n (start + length (text_of f)) (Some p) f g (subst (IsForest t x start (Some p)) e is) first refl) some
                    (omega (arith, first, low)) (next n (omega (arith, first)) more) (omega (arith, count, first, counted)) refl
                    ∙ ap (λ j. steps_from n g ++ steps_remaining t root j) tail
                | inr none ↦
                    let last : siblings.end ≤ n = omega (arith, none, count, first, counted) in
                    ap (steps_remaining t root) (leaves_holder siblings n last over.low ∙ tail)
                    ∙ ap (λ xs. xs ++ steps_remaining t root (after_siblings siblings siblings.end)) (sym (none_from_count g n (omega (arith, none))))
              ];
        }

-- the trees after the first one
abbrev tail_of : Forest → Forest
tail_of empty = empty
tail_of (leaf k u f) = f
tail_of (node k c f) = f

-- a forest of one tree has no others
one_alone : (part : Forest) → IsOne part → tail_of part ≡ empty
one_alone _ (one_leaf k u) = refl
one_alone _ (one_node k c) = refl

-- if two joined forests are one tree, one of them is empty
one_joined : (part f g : Forest) → IsOne part → part ≡ join f g → (element_count f ≡ 0) ⊎ (element_count g ≡ 0)
one_joined part empty g one e = inl refl
one_joined part (leaf k u f) g one e =
    inr (let count = ap element_count (sym (one_alone part one) ∙ ap tail_of e) in omega (arith, count, element_count-join f g))
one_joined part (node k c f) g one e =
    inr (let count = ap element_count (sym (one_alone part one) ∙ ap tail_of e) in omega (arith, count, element_count-join f g))

none_joined : (f g : Forest) → element_count f ≡ 0 → join f g ≡ g
none_joined empty g e = refl
none_joined (leaf k u f) g e = absurd (omega (arith, e))
none_joined (node k c f) g e = absurd (omega (arith, e))

-- the root of a walk, which has no siblings in it
root_siblings : (t : Tree) (root : ℕ) → root < length (items_of t) → SiblingForest t root (siblings_held t root root)
root_siblings t root there =
    let siblings = siblings_held t root root in
    let part = part_at record { tree = t; number = root } in
    let one = one_there t root there in
    let h = part_forest t root there in
    let own = own_of part one h in
    let fits = next_inside t root there in
    record {
      forest = part;
      start = h.start;
      parent = h.parent;
      is = h.is;
      some = omega (arith, own.0);
      counted = omega (arith, own.0);
      ends = own.1;
      holder_there = there;
      within = λ n l high. elim (cases_lt n siblings.end) [
        | inl more ↦ subst (IsNextWithin t root) (sym (enters_next siblings n more)) (record { low = l; high = more; there = omega (arith, more, fits) })
        | inr last ↦ subst (IsNextWithin t root) (sym (ends_walk siblings n last refl)) tt
      ];
      walked = λ f g n e first.
          let count = ap element_count e ∙ element_count-join f g in
          let done = ends_walk siblings siblings.end (omega arith) refl in
          elim (one_joined part f g one e) [
            | inl none ↦
                let here : n ≡ root = omega (arith, none, first) in
                let same : g ≡ part = sym (e ∙ none_joined f g none) in
                ap (λ m. steps_remaining t root (after_siblings siblings m)) here
                ∙ ap (steps_remaining t root) (enters_next siblings root (omega arith)) ∙ whole_walk t root there
                ∙ ap (steps_from root) (sym same) ∙ ap (λ m. steps_from m g) (sym here) ∙ sym (append-nil (steps_from n g))
                ∙ ap (λ j. steps_from n g ++ steps_remaining t root j) (sym done)
            | inr none ↦
                let last : siblings.end ≤ n = omega (arith, none, count, first, own.0) in
                ap (steps_remaining t root) (ends_walk siblings n last refl ∙ sym done)
                ∙ ap (λ xs. xs ++ steps_remaining t root (after_siblings siblings siblings.end)) (sym (none_from_count g n none))
          ];
    }
  where
    own_of : (part : Forest) → IsOne part → (h : IsPartOf t root part)
        → (element_count part ≡ suc (item t root).below) × ((item t root).end ≡ h.start + length (text_of part))
    own_of _ (one_leaf k u) h =
        let own = first_leaf t root h.start h.parent k u empty h.is in
        (omega (arith, ap (λ (i : Item). i.below) own), omega (arith, ap (λ (i : Item). i.end) own, length-append u []))
    own_of _ (one_node k c) h =
        let own = first_node t root h.start h.parent k c empty h.is in
        (omega (arith, ap (λ (i : Item). i.below) own), omega (arith, ap (λ (i : Item). i.end) own, length-append (text_of c) []))

held_at_root : (root m : ℕ) (p : Option ℕ) → m ≡ root → holder_of root m p ≡ root
held_at_root root m None e = e
held_at_root root m (Some p) e = ap (λ b. if b then m else p) (is_same m root e) ∙ e

-- each element within the root begins a forest of siblings
pub sibling_forest : (t : Tree) (root x : ℕ) → root < length (items_of t) → IsInside t root x → SiblingForest t root (siblings_at t root x)
sibling_forest t root x there inside = elim (cases_lt root x) [
  | inl low ↦
      let h = held t root x there low (omega (arith, inside.high)) in
      let e : holder_of root x (item t x).parent ≡ h.parent =
      ap (holder_of root x) h.is ∙ ap (λ b. if b then x else h.parent) (is_above x root low) in
      subst (λ p. SiblingForest t root (siblings_held t x p)) (sym e) (inner_siblings t root x h.parent there inside low h.is h.low)
  | inr high ↦
      let same : x ≡ root = (let l = inside.low in omega (arith, l, high)) in
      subst (λ p. SiblingForest t root (siblings_held t x p)) (sym (held_at_root root x (item t x).parent same))
      (subst (λ y. SiblingForest t root (siblings_held t y root)) (sym same) (root_siblings t root there))
]

-- so do the siblings that a walk enters next
pub is_sibling_range : (t : Tree) (siblings : SiblingRange) (h : IsSiblingRange t siblings) → SiblingForest t h.root siblings
is_sibling_range t siblings h = subst (SiblingForest t h.root) (sym h.is) (sibling_forest t h.root siblings.first h.there h.inside)

-- the holder of an element is the element itself, or before it
pub holder_before : (t : Tree) (root m : ℕ) (p : Option ℕ) → m < length (items_of t) → (item t m).parent ≡ p → holder_of root m p ≤ m
holder_before t root m None there e = omega arith
holder_before t root m (Some p) there e = choose (m == root)
  where
    before : p < m
    before = parent_is_before t m p there e

    choose : (b : Bool) → (if b then m else p) ≤ m
    choose true = omega arith
    choose false = omega (arith, before)
