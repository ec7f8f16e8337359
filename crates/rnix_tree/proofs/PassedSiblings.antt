-- Two walks that pass siblings that are alike.
use Rattle.std.proofs.Common.{◌≡◌, ℕ, ◌+◌, ◌-◌, ◌≤◌, ◌<◌, List, [], ◌∷◌, ◌++◌, length, map, true, refl, ap, sym}
use Rattle.std.proofs.{Common.{◌∙◌, subst, arith, inl, inr, append_assoc}, lemmas.{Bool.{cases_lt}, List.{append-nil, map-append, length-map}}}
use Rattle.std.specs.{Prelude.{if◌then◌else◌}, List.All}
use Rattle.rnix_green.specs.Forest.{Forest, empty, leaf, node, join, element_count}
use Rattle.rnix_green.specs.{Tree.{Tree, items_of, item}, Walk.{Event, event_at, steps_from}}
use Rattle.rnix_green.proofs.{ForestLemmas.element_count-join, NumberTests.is_not_below}
use Rattle.rnix_tree.specs.declared.{sibling_range.SiblingRange.SiblingRange, walk.Next.{Next, TheVariants.{Enter, Leave, Done}}}
use Rattle.rnix_tree.specs.Cursor.{steps_remaining, events_remaining, IsInside, IsNextWithin, after_enter}
use Rattle.rnix_tree.specs.AlikeSiblings.{IsReached, AreSiblingsAlike, after_siblings}
use Rattle.rnix_tree.specs.WalksAlike.{shown_of, EndsBefore, siblings_before, BeginsAlike, HavePassed}
use Rattle.rnix_tree.proofs.{PreorderLemmas.{enters, leaves}, SiblingForests.{IsForest, first_trees}, SiblingWalks.{SiblingForest, steps_from-join, enters_next, enters_none}}
use Rattle.rnix_tree.proofs.{SameSiblings.{same_front}, WalkSiblings.none_from_count}
use Rattle.rnix_tree.proofs.ShownSiblings.{shown_from, shows, all_before, siblings_passed, ends_before, IsStop, begins_with}
use Rattle.rnix_tree.proofs.SiblingsAlike.{ReachedSiblings, reached_siblings, alike_begins, begins_so}

-- a walk that does not enter an element next passes no sibling
pub not_entering : (t : Tree) (root : ℕ) (next : Next) (offset : ℕ) → root < length (items_of t) → IsNextWithin t root next → ((m : ℕ) → next ≡ Enter m → ⊥)
    → (siblings_before offset 0 (events_remaining t root next) ≡ []) × IsStop (map shown_of (events_remaining t root next))
not_entering t root (Enter m) offset there inside other = absurd (other m refl)
not_entering t root (Leave m) offset there inside other =
    let e = ap (map (event_at t)) (leaves t root m there inside).step_is in
    (ap (siblings_before offset 0) e, subst (λ es. IsStop (map shown_of es)) (sym e) refl)
not_entering t root Done offset there inside other = (refl, tt)

-- if the next sibling does not end before the offset, none is passed
none_before : (t : Tree) (root m offset : ℕ) → root < length (items_of t) → IsInside t root m → offset ≤ (item t m).end
    → siblings_before offset 0 (events_remaining t root (Enter m)) ≡ []
none_before t root m offset there inside late =
    let g = enters t root m there inside in
    let e = ap (map (event_at t)) g.step_is in
    ap (siblings_before offset 0) e
    ∙ ap (λ b. if b then event_at t (true, m) ∷ siblings_before offset 1 (map (event_at t) (steps_remaining t root (after_enter t m))) else [])
    (is_not_below _ _ late)

-- lists with equal images have equal lengths
mapped_front : {X Y : Type 0} (f : X → Y) (xs ys : List X) → map f xs ≡ map f ys → length xs ≡ length ys
mapped_front f xs ys e = sym (length-map xs f) ∙ ap length e ∙ length-map ys f

-- the siblings of a forest, of which a walk passes some
module _ (t : Tree) (root : ℕ) (siblings : SiblingRange) (r : SiblingForest t root siblings) (there : root < length (items_of t)) where
  -- the rest of the walk from a sibling on
  abbrev rest_at : ℕ → List Event
  rest_at n = events_remaining t root (after_siblings siblings n)

  -- the rest of the walk from a sibling on begins with the events of this sibling and of those after it
  whole_remaining : (f g : Forest) (n : ℕ) → r.forest ≡ join f g → siblings.first + element_count f ≡ n
      → rest_at n ≡ map (event_at t) (steps_from n g) ++ rest_at siblings.end
  whole_remaining f g n both counted =
      ap (map (event_at t)) (r.walked f g n both counted)
      ∙ map-append (event_at t) (steps_from n g) (steps_remaining t root (after_siblings siblings siblings.end))

  start_remaining : rest_at siblings.first ≡ map (event_at t) (steps_from siblings.first r.forest) ++ rest_at siblings.end
  start_remaining = whole_remaining empty r.forest siblings.first refl (omega arith)

  -- the rest of the walk after some trees is that from the next sibling on
  trees_passed : (f g : Forest) (n : ℕ) → r.forest ≡ join f g → siblings.first + element_count f ≡ n
      → rest_at siblings.first ≡ map (event_at t) (steps_from siblings.first f) ++ rest_at n
  trees_passed f g n both counted =
      let one = map (event_at t) (steps_from siblings.first f) in
      let two = map (event_at t) (steps_from n g) in
      start_remaining
      ∙ ap (λ x. map (event_at t) (steps_from siblings.first x) ++ rest_at siblings.end) both
      ∙ ap (λ x. map (event_at t) x ++ rest_at siblings.end) (steps_from-join siblings.first n f g counted)
      ∙ ap (λ x. x ++ rest_at siblings.end) (map-append (event_at t) (steps_from siblings.first f) (steps_from n g))
      ∙ append_assoc one two (rest_at siblings.end)
      ∙ ap (λ x. one ++ x) (sym (whole_remaining f g n both counted))

  -- after the forest the walk leaves an element, or ends
  stops_after : IsStop (map shown_of (rest_at siblings.end))
  stops_after =
      (not_entering t root (after_siblings siblings siblings.end) 0 there (r.within siblings.end (omega (arith, r.counted)) (omega arith))
      (λ m. enters_none siblings siblings.end m (omega arith))).1

  -- the walk passes exactly the siblings that end before an offset
  record PassesSiblings (n offset : ℕ) : Type 0 where
    pub reached : ReachedSiblings siblings.first r.start r.forest offset n
    pub passed : siblings_before offset 0 (rest_at siblings.first) ≡ map (event_at t) (steps_from siblings.first reached.siblings)
    pub done : siblings_before offset 0 (rest_at n) ≡ []
    pub split : rest_at siblings.first ≡ map (event_at t) (steps_from siblings.first reached.siblings) ++ rest_at n

  passes_siblings : (n offset : ℕ) → IsReached t siblings.end offset siblings.first n → (n < siblings.end → offset ≤ (item t n).end) → PassesSiblings n offset
  passes_siblings n offset reached late =
      let h = reached_siblings t siblings.first r.start siblings.end offset n r.parent r.forest r.is r.counted reached in
      let all = ap element_count h.both ∙ element_count-join h.siblings h.rest in
      let high : n ≤ siblings.end = omega (arith, all, h.counted, r.counted) in
      let low : siblings.first ≤ n = omega (arith, h.counted) in
      let split = trees_passed h.siblings h.rest n h.both h.counted in
      let is = first_trees t siblings.first r.start r.parent h.siblings h.rest (subst (IsForest t siblings.first r.start r.parent) h.both r.is) in
      let done : siblings_before offset 0 (rest_at n) ≡ [] =
      elim (cases_lt n siblings.end) [
        | inl less ↦
            let next = enters_next siblings n less in
            ap (λ x. siblings_before offset 0 (events_remaining t root x)) next
            ∙ none_before t root n offset there (subst (IsNextWithin t root) next (r.within n low high)) (late less)
        | inr last ↦ (not_entering t root (after_siblings siblings n) offset there (r.within n low high) (λ m. enters_none siblings n m last)).0
      ] in
      record {
        reached = h;
        passed = elim (cases_lt 0 (element_count h.siblings)) [
          | inl some ↦
              ap (siblings_before offset 0) split ∙ siblings_passed t siblings.first r.start r.parent h.siblings offset (rest_at n) is (h.ends some)
              ∙ ap (λ x. map (event_at t) (steps_from siblings.first h.siblings) ++ x) done
              ∙ append-nil (map (event_at t) (steps_from siblings.first h.siblings))
          | inr none ↦
              let here : siblings.first ≡ n = omega (arith, none, h.counted) in
              ap (λ m. siblings_before offset 0 (rest_at m)) here ∙ done
              ∙ ap (map (event_at t)) (sym (none_from_count h.siblings siblings.first (omega (arith, none))))
        ];
        done = done;
        split = split;
      }

-- a forest with elements has steps
some_steps : (n : ℕ) (f : Forest) → 0 < element_count f → 0 < length (steps_from n f)
some_steps n empty l = absurd (omega (arith, l))
some_steps n (leaf k u f) l = omega arith
some_steps n (node k c f) l = omega arith

-- what a walk shows first, if it begins with events that show the same as those over a forest
shown_first : (f : Forest) (passed : List Event) (before : ℕ) (b : List Event) (h : BeginsAlike passed before b) → map shown_of passed ≡ shown_from f
    → map shown_of b ≡ shown_from f ++ map shown_of h.remaining
shown_first f passed before b h shown =
    ap (map shown_of) h.split ∙ map-append shown_of h.other_passed h.remaining ∙ ap (λ x. x ++ map shown_of h.remaining) (sym h.alike ∙ shown)

module _ (t : Tree) (root : ℕ) (siblings : SiblingRange) (r : SiblingForest t root siblings) (there : root < length (items_of t)) (n offset : ℕ)
    (reached : IsReached t siblings.end offset siblings.first n) (late : n < siblings.end → offset ≤ (item t n).end) where
  abbrev done : PassesSiblings t root siblings r there n offset
  done = passes_siblings t root siblings r there n offset reached late

  abbrev f : Forest
  f = done.reached.siblings

  -- the number that is reached is within the siblings
  pub reached_end : (siblings.first ≤ n) × (n ≤ siblings.end)
  reached_end =
      let h = done.reached in
      let all = ap element_count h.both ∙ element_count-join h.siblings h.rest in
      (omega (arith, h.counted), omega (arith, all, h.counted, r.counted))

  -- if nothing is reached, no sibling is passed
  pub none_passed : n ≡ siblings.first → siblings_before offset 0 (events_remaining t root (after_siblings siblings siblings.first)) ≡ []
  none_passed same =
      done.passed
      ∙ ap (map (event_at t)) (none_from_count f siblings.first (omega (arith, same, done.reached.counted)))

  is : IsForest t siblings.first r.start r.parent f
  is = first_trees t siblings.first r.start r.parent f done.reached.rest (subst (IsForest t siblings.first r.start r.parent) done.reached.both r.is)

  shown : map shown_of (siblings_before offset 0 (events_remaining t root (after_siblings siblings siblings.first))) ≡ shown_from f
  shown = ap (map shown_of) done.passed ∙ shows t siblings.first r.start r.parent f is

  module _ (some : siblings.first < n) where
    some_elements : 0 < element_count f
    some_elements = omega (arith, some, done.reached.counted)

    -- otherwise siblings are passed
    pub some_passed : 0 < length (siblings_before offset 0 (events_remaining t root (after_siblings siblings siblings.first)))
    some_passed =
        omega (
          arith,
          ap length done.passed,
          length-map (steps_from siblings.first f) (event_at t),
          some_steps siblings.first f some_elements,
        )

    -- a walk that does not enter an element next does not begin with these events
    pub not_entered : (before : ℕ) (b : List Event) → IsStop (map shown_of b)
        → BeginsAlike (siblings_before offset 0 (events_remaining t root (after_siblings siblings siblings.first))) before b → ⊥
    not_entered before b stop h =
        let x = begins_with f empty (map shown_of h.remaining) (map shown_of b) stop (sym (shown_first f _ before b h shown)) in
        absurd (omega (arith, some_elements, ap element_count x.is, element_count-join f x.rest))

    module _ (u : Tree) (other_root : ℕ) (other : SiblingRange) (o : SiblingForest u other_root other) (other_there : other_root < length (items_of u))
        (before : ℕ) where
      -- walks over siblings that are alike pass them
      pub alike_passed : AreSiblingsAlike t siblings n u other before
          → HavePassed offset before (events_remaining t root (after_siblings siblings siblings.first))
          (events_remaining u other_root (after_siblings other other.first))
          (events_remaining t root (after_siblings siblings n)) (events_remaining u other_root (after_siblings other (other.first + (n - siblings.first))))
      alike_passed alike =
          let h = alike_begins t root siblings r f done.reached.rest n done.reached.both done.reached.counted u other_root other o before alike in
          let x = h.begins in
          let other_is = first_trees u other.first o.start o.parent f x.rest (subst (IsForest u other.first o.start o.parent) x.is o.is) in
          record {
            passed = map (event_at t) (steps_from siblings.first f);
            other_passed = map (event_at u) (steps_from other.first f);
            first = done.split;
            second = trees_passed u other_root other o other_there f x.rest (other.first + (n - siblings.first)) x.is (omega (arith, done.reached.counted));
            siblings = sym done.passed;
            some = omega (arith, length-map (steps_from siblings.first f) (event_at t), some_steps siblings.first f some_elements);
            alike = shows t siblings.first r.start r.parent f is ∙ sym (shows u other.first o.start o.parent f other_is);
            before = all_before t siblings.first r.start r.parent f offset is (done.reached.ends some_elements);
            other_before = all_before u other.first o.start o.parent f before other_is h.ends;
            done = done.done;
          }

      -- siblings over which walks begin alike are alike
      pub passed_alike : BeginsAlike (siblings_before offset 0 (events_remaining t root (after_siblings siblings siblings.first))) before
          (events_remaining u other_root (after_siblings other other.first)) → AreSiblingsAlike t siblings n u other before
      passed_alike h =
          let b = events_remaining u other_root (after_siblings other other.first) in
          let all = start_remaining u other_root other o other_there in
          let whole : map shown_of b ≡ shown_from o.forest ++ map shown_of (events_remaining u other_root (after_siblings other other.end)) =
          ap (map shown_of) all ∙ map-append shown_of (map (event_at u) (steps_from other.first o.forest)) _
          ∙ ap (λ y. y ++ map shown_of (events_remaining u other_root (after_siblings other other.end))) (shows u other.first o.start o.parent o.forest o.is) in
          let x = begins_with f o.forest (map shown_of h.remaining) _ (stops_after u other_root other o other_there)
          (sym (shown_first f _ before b h shown) ∙ whole) in
          let other_is = first_trees u other.first o.start o.parent f x.rest (subst (IsForest u other.first o.start o.parent) x.is o.is) in
          let other_passed = map (event_at u) (steps_from other.first f) in
          let split = trees_passed u other_root other o other_there f x.rest (other.first + (n - siblings.first)) x.is (omega (arith, done.reached.counted)) in
          let same : map shown_of h.other_passed ≡ map shown_of other_passed = sym h.alike ∙ shown ∙ sym (shows u other.first o.start o.parent f other_is) in
          let is_other = same_front h.other_passed other_passed h.remaining _ (mapped_front shown_of h.other_passed other_passed same) (sym h.split ∙ split) in
          begins_so t root siblings r f done.reached.rest n done.reached.both done.reached.counted u other_root other o before
          (record {
            begins = x;
            ends = ends_before u other.first o.start o.parent f before other_is some_elements (subst (All (EndsBefore before)) is_other.0 h.before);
          })
