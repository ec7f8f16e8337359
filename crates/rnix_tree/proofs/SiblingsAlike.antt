-- Siblings that are alike by their elements, and the trees of these.
use Rattle.std.proofs.Common.{◌≡◌, ℕ, zero, suc, ◌+◌, ◌-◌, ◌≤◌, ◌<◌, ◌==◌, take, drop, List, [], ◌++◌, length, Bool, true, false, Option, Some, refl, ap, sym}
use Rattle.std.proofs.{Common.{◌∙◌, subst, arith, inl, inr, length-append}, lemmas.{Bool.{cases_lt, and_parts, Decides.nat_tests}, List.{append-nil, take_all, take_at, drop_at, take-append-le}}}
use Rattle.std.proofs.lemmas.List.{take-append-drop, length-take-le}
use Rattle.std.specs.{Prelude.{if◌then◌else◌, ◌&&◌}, Bool.beq}
use Rattle.rnix_kinds.specs.declared.kinds.SyntaxKind.{SyntaxKind}
use Rattle.rnix_green.specs.Forest.{Forest, empty, leaf, node, join, text_of, element_count}
use Rattle.rnix_green.specs.{Equality.{same_kind, same_kind-decides}, Tree.{Tree, Item, items_of, item, text_at, forest_of}}
use Rattle.rnix_green.proofs.{ForestLemmas.{join_assoc, element_count-join, text_of-join}, NestLemmas.at, StartLemmas.in_text}
use Rattle.rnix_green.proofs.NumberTests.{is_same, is_below, is_not_below}
use Rattle.rnix_tree.specs.declared.sibling_range.SiblingRange.{SiblingRange}
use Rattle.rnix_tree.specs.AlikeSiblings.{IsReached, from_first, over_one, text_end, same_item, alike_at, AreAlike, IsIn, AreSiblingsAlike}
use Rattle.rnix_tree.proofs.SiblingForests.{IsForest, first_leaf, first_node, first_trees, later_trees, at_inside, at_beyond}
use Rattle.rnix_tree.proofs.{OffsetLemmas.order, SiblingWalks.SiblingForest, SameSiblings.{stop_at, stops_at, stop_end, stop_joined, ElementsAlike, BeginsWith, begins_alike}}

-- later elements do not start before earlier ones
pub starts_after : (t : Tree) (x i : ℕ) → x + i < length (items_of t) → (item t x).start ≤ (item t (x + i)).start
starts_after t x zero l = (let same : x ≡ x + 0 = omega arith in omega (arith, ap (λ m. (item t m).start) same))
starts_after t x (suc i) l = (order t x (x + suc i) (omega arith) l).0

-- the text of the root is the text of the tree's forest
pub whole_text : (t : Tree) → text_at record { tree = t; number = 0 } ≡ text_of (forest_of t)
whole_text t =
    let text = text_of (forest_of t) in
    let all : text ≡ text_of t.children = append-nil (text_of t.children) in
    take_all (0 + length (text_of t.children) - 0) text (omega (arith, ap length all))

-- one more pair of elements is alike
pub one_pair_more : (t u : Tree) (x s y v n : ℕ) → AreAlike t u x s y v n → alike_at t u x s y v n ≡ true → AreAlike t u x s y v (n + 1)
one_pair_more t u x s y v n so_far e = λ i l.
    elim (cases_lt i n) [
      | inl low ↦ so_far i low
      | inr high ↦ subst (λ j. alike_at t u x s y v j ≡ true) (let same : n ≡ i = omega (arith, l, high) in same) e
    ]

-- the trees of a forest that are reached, and those after them
pub record ReachedSiblings (first s : ℕ) (all : Forest) (offset n : ℕ) : Type 0 where
  pub siblings : Forest
  pub rest : Forest
  pub both : all ≡ join siblings rest
  pub counted : first + element_count siblings ≡ n
  pub ends : 0 < element_count siblings → s + length (text_of siblings) < offset

-- one more tree is reached
one_more : (t : Tree) (first s n v end offset : ℕ) (p : Option ℕ) (all f g : Forest) → all ≡ join f g → first + element_count f ≡ n
    → s + length (text_of f) ≡ v → n + element_count g ≡ end → IsForest t n v p g → n < end → (item t n).end < offset
    → ReachedSiblings first s all offset (n + 1 + (item t n).below)
one_more t first s n v end offset p all f empty both counted texts ends is less before = absurd (omega (arith, ends, less))
one_more t first s n v end offset p all f (leaf k u g) both counted texts ends is less before =
    let own = first_leaf t n v p k u g is in
    let long = ap length (text_of-join f (leaf k u empty)) in
    record {
      siblings = join f (leaf k u empty);
      rest = g;
      both = both ∙ sym (join_assoc f (leaf k u empty) g);
      counted = omega (arith, counted, element_count-join f (leaf k u empty), ap (λ (i : Item). i.below) own);
      ends = λ some.
          omega (arith, before, texts, ap (λ (i : Item). i.end) own, long, length-append (text_of f) (u ++ []), length-append u []);
    }
one_more t first s n v end offset p all f (node k c g) both counted texts ends is less before =
    let own = first_node t n v p k c g is in
    let long = ap length (text_of-join f (node k c empty)) in
    record {
      siblings = join f (node k c empty);
      rest = g;
      both = both ∙ sym (join_assoc f (node k c empty) g);
      counted = omega (arith, counted, element_count-join f (node k c empty), ap (λ (i : Item). i.below) own);
      ends = λ some.
          omega (arith, before, texts, ap (λ (i : Item). i.end) own, long, length-append (text_of f) (text_of c ++ []), length-append (text_of c) []);
    }

-- the siblings that are reached are the first trees of the forest
pub reached_siblings : (t : Tree) (first s end offset n : ℕ) (p : Option ℕ) (all : Forest) → IsForest t first s p all → first + element_count all ≡ end
    → IsReached t end offset first n → ReachedSiblings first s all offset n
reached_siblings t first s end offset _ p all is count from_first =
    record { siblings = empty; rest = all; both = refl; counted = omega arith; ends = λ some. absurd (omega (arith, some)) }
reached_siblings t first s end offset _ p all is count (over_one n so_far less before) =
    let r = reached_siblings t first s end offset n p all is count so_far in
    let v = s + length (text_of r.siblings) in
    one_more t first s n v end offset p all r.siblings r.rest r.both r.counted refl
    (omega (arith, ap element_count r.both, element_count-join r.siblings r.rest, r.counted, count))
    (later_trees t first s n v p r.siblings r.rest (subst (IsForest t first s p) r.both is) r.counted refl) less before

-- a slice of a text in three parts is the second part
slice_of : (text before inside after : List ℕ) (s e : ℕ) → text ≡ before ++ (inside ++ after) → length before ≡ s → e ≡ s + length inside
    → take (e - s) (drop s text) ≡ inside
slice_of text before inside after s e split start end =
    let long : e - s ≡ length inside = omega (arith, end) in
    ap (λ x. take x (drop s text)) long ∙ ap (λ x. take (length inside) (drop s x)) split
    ∙ ap (take (length inside)) (drop_at before (inside ++ after) s start) ∙ take_at inside after (length inside) refl

-- an element of the same forest elsewhere: its start is as far after the forest's
record SameAt (a b : Item) (s v : ℕ) : Type 0 where
  pub same : same_item a b ≡ true
  pub starts : a.start - s ≡ b.start - v
  pub low : s ≤ a.start
  pub other_low : v ≤ b.start

same_again : (k : SyntaxKind) → same_kind k k ≡ true
same_again k = (same_kind-decides k k).1 refl

shifted : (a b : Item) (s v l : ℕ) → SameAt a b (s + l) (v + l) → SameAt a b s v
shifted a b s v l h = record {
  same = h.same;
  starts = omega (arith, h.starts, h.low, h.other_low);
  low = omega (arith, h.low);
  other_low = omega (arith, h.other_low);
}

same_at : (n s m v : ℕ) (p q : Option ℕ) (f : Forest) (i : ℕ) → i < element_count f → SameAt (at n s p f i) (at m v q f i) s v
same_at n s m v p q empty i l = absurd (omega (arith, l))
same_at n s m v p q (leaf k u f) zero l =
    record { same = ap (λ b. b && (beq false false && (0 == 0))) (same_again k); starts = omega arith; low = omega arith; other_low = omega arith }
same_at n s m v p q (leaf k u f) (suc i) l =
    shifted _ _ s v (length u) (same_at (n + 1) (s + length u) (m + 1) (v + length u) p q f i (omega (arith, l)))
same_at n s m v p q (node k c f) zero l = record {
  same =
      ap (λ b. b && (beq true true && (element_count c == element_count c))) (same_again k) ∙ is_same (element_count c) (element_count c) refl;
  starts = omega arith;
  low = omega arith;
  other_low = omega arith;
}
same_at n s m v p q (node k c f) (suc i) l = elim (cases_lt i (element_count c)) [
  | inl less ↦
      subst (λ x. SameAt x (at m v q (node k c f) (suc i)) s v) (sym (at_inside n s p k c f i less))
      (subst (λ x. SameAt (at (n + 1) s (Some n) c i) x s v) (sym (at_inside m v q k c f i less)) (same_at (n + 1) s (m + 1) v (Some n) (Some m) c i less))
  | inr more ↦
      let j = i - element_count c in
      let back : suc i ≡ suc (element_count c + j) = omega (arith, more) in
      let one = ap (at n s p (node k c f)) back ∙ at_beyond n s p k c f j in
      let two = ap (at m v q (node k c f)) back ∙ at_beyond m v q k c f j in
      let x = length (text_of c) in
      subst (λ z. SameAt z (at m v q (node k c f) (suc i)) s v) (sym one)
      (subst (λ z. SameAt (at (n + 1 + element_count c) (s + x) p f j) z s v) (sym two)
      (shifted _ _ s v x (same_at (n + 1 + element_count c) (s + x) (m + 1 + element_count c) (v + x) p q f j (omega (arith, l, more)))))
]

-- each element of a forest starts within the forest's text
stop_within : (n s : ℕ) (p : Option ℕ) (f : Forest) (i : ℕ) → (s ≤ stop_at n s p f i) × (stop_at n s p f i ≤ s + length (text_of f))
stop_within n s p f i = elim (cases_lt i (element_count f)) [
  | inl l ↦
      let b = in_text n s p f i l in
      let e = stops_at n s p f i l in
      (omega (arith, e, b.low), omega (arith, e, b.ordered, b.high))
  | inr l ↦ (let e = stop_end n s p f i l in (omega (arith, e), omega (arith, e)))
]

module _ (t : Tree) (root : ℕ) (siblings : SiblingRange) (r : SiblingForest t root siblings) where
  -- where siblings end in the text
  pub text_stop : (i n : ℕ) → siblings.first + i ≡ n → text_end t siblings n ≡ stop_at siblings.first r.start r.parent r.forest i
  text_stop i n e = elim (cases_lt i (element_count r.forest)) [
    | inl l ↦
        ap (λ b. if b then (item t n).start else (item t siblings.holder).end) (is_below n siblings.end (omega (arith, l, e, r.counted)))
        ∙ ap (λ m. (item t m).start) (sym e) ∙ ap (λ (x : Item). x.start) (r.is.items i l)
        ∙ sym (stops_at siblings.first r.start r.parent r.forest i l)
    | inr l ↦
        ap (λ b. if b then (item t n).start else (item t siblings.holder).end) (is_not_below n siblings.end (omega (arith, l, e, r.counted)))
        ∙ r.ends ∙ sym (stop_end siblings.first r.start r.parent r.forest i l)
  ]

  pub siblings_start : (item t siblings.first).start ≡ r.start
  siblings_start =
      let e : siblings.first ≡ siblings.first + 0 = omega arith in
      ap (λ m. (item t m).start) e ∙ ap (λ (x : Item). x.start) (r.is.items 0 r.some) ∙ first_start siblings.first r.start r.parent r.forest r.some
    where
      first_start : (n s : ℕ) (p : Option ℕ) (f : Forest) → 0 < element_count f → (at n s p f 0).start ≡ s
      first_start n s p empty l = absurd (omega (arith, l))
      first_start n s p (leaf k u f) l = refl
      first_start n s p (node k c f) l = refl

  -- the siblings are a range of the text
  pub sibling_bounds : (n : ℕ) → siblings.first ≤ n → IsIn t (item t siblings.first).start (text_end t siblings n)
  sibling_bounds n l =
      let i = n - siblings.first in
      let stop = text_stop i n (omega (arith, l)) in
      let within = stop_within siblings.first r.start r.parent r.forest i in
      let all = ap length r.is.text in
      record {
        ordered = omega (arith, stop, within.0, siblings_start);
        within = omega (
          arith,
          stop,
          within.1,
          all,
          r.is.starts,
          length-append r.is.before (text_of r.forest ++ r.is.after),
          length-append (text_of r.forest) r.is.after,
        );
      }

-- numbers that pass the test are equal
one_number : (a b : ℕ) → (a == b) ≡ true → a ≡ b
one_number a b h = grind (arith, nat_tests)

module _ (t : Tree) (root : ℕ) (siblings : SiblingRange) (r : SiblingForest t root siblings) (f g : Forest) (n : ℕ) (both : r.forest ≡ join f g)
    (counted : siblings.first + element_count f ≡ n) (u : Tree) (other_root : ℕ) (other : SiblingRange) (o : SiblingForest u other_root other) (before : ℕ)
  where
    abbrev IsFirst : Type 0
    IsFirst = IsForest t siblings.first r.start r.parent f

    is_first : IsFirst
    is_first = first_trees t siblings.first r.start r.parent f g (subst (IsForest t siblings.first r.start r.parent) both r.is)

    -- the trees that are reached end there
    siblings_stop : text_end t siblings n ≡ r.start + length (text_of f)
    siblings_stop =
        text_stop t root siblings r (element_count f) n counted
        ∙ ap (λ x. stop_at siblings.first r.start r.parent x (element_count f)) both ∙ stop_joined siblings.first r.start r.parent f g

    -- their text is that slice
    siblings_text : take (text_end t siblings n - (item t siblings.first).start) (drop (item t siblings.first).start (text_of (forest_of t))) ≡ text_of f
    siblings_text =
        ap (λ s. take (text_end t siblings n - s) (drop s (text_of (forest_of t)))) (siblings_start t root siblings r)
        ∙ slice_of (text_of (forest_of t)) is_first.before (text_of f) is_first.after r.start (text_end t siblings n) is_first.text is_first.starts
        siblings_stop

    -- they have as many elements as were reached
    count : n - siblings.first ≡ element_count f
    count = omega (arith, counted)

    -- the other forest begins with these trees, and they end there before an offset
    pub record BeginsWithin : Type 0 where
      pub begins : BeginsWith f o.forest
      pub ends : o.start + length (text_of f) < before

    module _ (h : AreSiblingsAlike t siblings n u other before) where
      twin_stop : text_end u other (other.first + (n - siblings.first)) ≡ stop_at other.first o.start o.parent o.forest (element_count f)
      twin_stop = text_stop u other_root other o (element_count f) (other.first + (n - siblings.first)) (omega (arith, count))

      abbrev stop : ℕ
      stop = stop_at other.first o.start o.parent o.forest (element_count f)

      within : (o.start ≤ stop) × (stop ≤ o.start + length (text_of o.forest))
      within = stop_within other.first o.start o.parent o.forest (element_count f)

      -- the text of the other forest begins with theirs
      twin_text : text_of f ≡ take (stop - o.start) (text_of o.forest)
      twin_text =
          let v = o.start in
          let text = text_of (forest_of u) in
          sym siblings_text ∙ h.text
          ∙ ap (λ e. take (e - (item u other.first).start) (drop (item u other.first).start text)) twin_stop
          ∙ ap (λ s. take (stop - s) (drop s text)) (siblings_start u other_root other o)
          ∙ ap (λ x. take (stop - v) (drop v x)) o.is.text
          ∙ ap (take (stop - v)) (drop_at o.is.before (text_of o.forest ++ o.is.after) v o.is.starts)
          ∙ take-append-le (stop - v) (text_of o.forest) o.is.after (omega (arith, within.0, within.1))

      long : length (text_of f) ≡ stop - o.start
      long = ap length twin_text ∙ length-take-le (stop - o.start) (text_of o.forest) (omega (arith, within.0, within.1))

      split : text_of o.forest ≡ text_of f ++ drop (stop - o.start) (text_of o.forest)
      split =
          sym (take-append-drop (stop - o.start) (text_of o.forest))
          ∙ ap (λ x. x ++ drop (stop - o.start) (text_of o.forest)) (sym twin_text)

      fits : element_count f ≤ element_count o.forest
      fits = omega (arith, h.fits, o.counted, count)

      alike_elements : ElementsAlike siblings.first r.start r.parent f other.first o.start o.parent o.forest
      alike_elements = record {
        fits = fits;
        same = λ i l.
            let parts = and_parts (same_item (item t (siblings.first + i)) (item u (other.first + i))) _ (h.elements i (omega (arith, l, count))) in
            subst (λ x. same_item x (at other.first o.start o.parent o.forest i) ≡ true) (is_first.items i l)
            (subst (λ x. same_item (item t (siblings.first + i)) x ≡ true) (o.is.items i (omega (arith, l, fits))) parts.0);
        stops = λ i l. elim (cases_lt i (element_count f)) [
          | inl less ↦
              let parts = and_parts (same_item (item t (siblings.first + i)) (item u (other.first + i))) _ (h.elements i (omega (arith, less, count))) in
              omega (
                arith,
                one_number _ _ parts.1,
                siblings_start t root siblings r,
                siblings_start u other_root other o,
                stops_at siblings.first r.start r.parent f i less,
                stops_at other.first o.start o.parent o.forest i (omega (arith, less, fits)),
                ap (λ (x : Item). x.start) (is_first.items i less),
                ap (λ (x : Item). x.start) (o.is.items i (omega (arith, less, fits))),
              )
          | inr last ↦
              let e : i ≡ element_count f = omega (arith, l, last) in
              omega (arith, stop_end siblings.first r.start r.parent f i last, long, ap (stop_at other.first o.start o.parent o.forest) e)
        ];
      }

      -- if the siblings are alike, the other forest begins with the same trees
      pub alike_begins : BeginsWithin
      alike_begins = record {
        begins = begins_alike siblings.first r.start r.parent f other.first o.start o.parent o.forest _ alike_elements split;
        ends = omega (arith, h.ends, twin_stop, long, within.0);
      }

    -- if the other forest begins with the same trees, the siblings are alike
    pub begins_so : BeginsWithin → AreSiblingsAlike t siblings n u other before
    begins_so h =
        let x = h.begins in
        let is = first_trees u other.first o.start o.parent f x.rest (subst (IsForest u other.first o.start o.parent) x.is o.is) in
        let all = ap element_count x.is ∙ element_count-join f x.rest in
        let stop : text_end u other (other.first + (n - siblings.first)) ≡ o.start + length (text_of f) =
        text_stop u other_root other o (element_count f) (other.first + (n - siblings.first)) (omega (arith, count))
        ∙ ap (λ y. stop_at other.first o.start o.parent y (element_count f)) x.is ∙ stop_joined other.first o.start o.parent f x.rest in
        record {
          fits = omega (arith, all, o.counted, count);
          ends = omega (arith, stop, h.ends);
          text =
              siblings_text ∙ sym (ap (λ s. take (text_end u other (other.first + (n - siblings.first)) - s) (drop s (text_of (forest_of u))))
              (siblings_start u other_root other o)
              ∙ slice_of (text_of (forest_of u)) is.before (text_of f) is.after o.start (text_end u other (other.first + (n - siblings.first))) is.text
              is.starts stop);
          elements = λ i l.
              let less : i < element_count f = omega (arith, l, count) in
              let one = is_first.items i less in
              let two = is.items i less in
              let same = same_at siblings.first r.start other.first o.start r.parent o.parent f i less in
              both_true _ _
              (subst (λ y. same_item y (item u (other.first + i)) ≡ true) (sym one)
              (subst (λ y. same_item (at siblings.first r.start r.parent f i) y ≡ true) (sym two) same.same))
              (is_same _ _
              (omega (
                arith,
                same.starts,
                ap (λ (y : Item). y.start) one,
                ap (λ (y : Item). y.start) two,
                siblings_start t root siblings r,
                siblings_start u other_root other o,
              )));
        }
      where
        both_true : (a b : Bool) → a ≡ true → b ≡ true → (a && b) ≡ true
        both_true a b e f = ap (λ x. x && b) e ∙ f
