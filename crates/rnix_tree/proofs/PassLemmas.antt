-- The results of passing siblings in two walks.
use Rattle.std.proofs.Common.{◌≡◌, ℕ, ◌+◌, ◌-◌, ◌≤◌, ◌<◌, List, [], length, map, ap, sym, ◌∙◌, subst, arith}
use Rattle.rnix_green.specs.{Tree.{Tree, items_of, item}, Walk.Event}
use Rattle.rnix_tree.specs.declared.{sibling_range.SiblingRange.SiblingRange, walk.Next.{Next, TheVariants.{Enter}}}
use Rattle.rnix_tree.specs.Cursor.{events_remaining, IsWithin, IsNextWithin}
use Rattle.rnix_tree.specs.AlikeSiblings.{siblings_at, IsReached, AreSiblingsAlike, after_siblings}
use Rattle.rnix_tree.specs.WalksAlike.{shown_of, siblings_before, BeginsAlike, HavePassed}
use Rattle.rnix_tree.proofs.{SiblingWalks.{SiblingForest, sibling_forest, enters_next}, ShownSiblings.IsStop}
use Rattle.rnix_tree.proofs.PassedSiblings.{not_entering, reached_end, none_passed, some_passed, not_entered, alike_passed, passed_alike}

-- the walk enters an element next, with which a forest of siblings begins
pub record EntersSiblings (t : Tree) (root x : ℕ) (siblings : SiblingRange) (a : List Event) : Type 0 where
  pub there : root < length (items_of t)
  pub sibling_trees : SiblingForest t root siblings
  pub first : siblings.first ≡ x
  pub starts : events_remaining t root (after_siblings siblings siblings.first) ≡ a

-- this holds if the next event enters an element
pub enters_siblings : (t : Tree) (root x : ℕ) (siblings : SiblingRange) (next : Next) (a : List Event) → root < length (items_of t) → IsNextWithin t root next
    → next ≡ Enter x
    → siblings ≡ siblings_at t root x → events_remaining t root next ≡ a → EntersSiblings t root x siblings a
enters_siblings t root x siblings next a there inside entered is remaining =
    let sibling_trees = subst (SiblingForest t root) (sym is) (sibling_forest t root x there (subst (IsNextWithin t root) entered inside)) in
    let first : siblings.first ≡ x = ap (λ (r : SiblingRange). r.first) is in
    record {
      there = there;
      sibling_trees = sibling_trees;
      first = first;
      starts =
          ap (events_remaining t root) (enters_next siblings siblings.first (omega (arith, sibling_trees.some, sibling_trees.counted)) ∙ ap Enter first
          ∙ sym entered) ∙ remaining;
    }

-- a walk that does not enter an element next passes no siblings
pub passes_none : (t : Tree) (root : ℕ) (next : Next) (a : List Event) (offset : ℕ) → root < length (items_of t) → IsNextWithin t root next
    → ((m : ℕ) → next ≡ Enter m → ⊥) → events_remaining t root next ≡ a → siblings_before offset 0 a ≡ []
passes_none t root next a offset there inside other remaining =
    subst (λ es. siblings_before offset 0 es ≡ []) remaining (not_entering t root next offset there inside other).0

-- such a walk leaves an element next, or ends
pub stops_next : (t : Tree) (root : ℕ) (next : Next) (a : List Event) → root < length (items_of t) → IsNextWithin t root next
    → ((m : ℕ) → next ≡ Enter m → ⊥) → events_remaining t root next ≡ a → IsStop (map shown_of a)
stops_next t root next a there inside other remaining =
    subst (λ es. IsStop (map shown_of es)) remaining (not_entering t root next 0 there inside other).1

-- the elements of the forest are elements of the tree
pub siblings_there : (t : Tree) (root x : ℕ) (siblings : SiblingRange) (a : List Event) → EntersSiblings t root x siblings a
    → siblings.end ≤ length (items_of t)
siblings_there t root x siblings a e = omega (arith, e.sibling_trees.counted, e.sibling_trees.is.there)

module _ (t : Tree) (root x : ℕ) (siblings : SiblingRange) (a : List Event) (e : EntersSiblings t root x siblings a) (n offset : ℕ)
    (reached : IsReached t siblings.end offset siblings.first n) (late : n < siblings.end → offset ≤ (item t n).end) where
  -- the number that is reached is not before the forest
  pub reached_low : x ≤ n
  reached_low = omega (arith, (reached_end t root siblings e.sibling_trees e.there n offset reached late).0, e.first)

  pub reached_high : n ≤ siblings.end
  reached_high = (reached_end t root siblings e.sibling_trees e.there n offset reached late).1

  -- the walk continues within its root
  pub within_first : IsWithin t root (after_siblings siblings n)
  within_first = record {
    root_there = e.there;
    next_inside = e.sibling_trees.within n (omega (arith, reached_low, e.first)) reached_high;
  }

  -- if nothing is reached, no sibling is passed
  pub nothing_passed : n ≡ x → siblings_before offset 0 a ≡ []
  nothing_passed same =
      subst (λ es. siblings_before offset 0 es ≡ []) e.starts
      (none_passed t root siblings e.sibling_trees e.there n offset reached late (same ∙ sym e.first))

  module _ (apart : n ≡ x → ⊥) where
    some : siblings.first < n
    some = omega (arith, reached_low, e.first, apart)

    -- otherwise siblings are passed
    pub something_passed : 0 < length (siblings_before offset 0 a)
    something_passed = subst (λ es. 0 < length (siblings_before offset 0 es)) e.starts
        (some_passed t root siblings e.sibling_trees e.there n offset reached late some)

    -- another walk that enters no element next does not begin with these events
    pub other_stops : (before : ℕ) (b : List Event) → IsStop (map shown_of b) → BeginsAlike (siblings_before offset 0 a) before b → ⊥
    other_stops before b stop =
        subst (λ es. BeginsAlike (siblings_before offset 0 es) before b → ⊥) e.starts
        (not_entered t root siblings e.sibling_trees e.there n offset reached late some before b stop)

    module _ (u : Tree) (other_root y : ℕ) (other : SiblingRange) (b : List Event) (o : EntersSiblings u other_root y other b) (before : ℕ) where
      -- if the siblings are alike, both walks pass them
      pub both_passed : AreSiblingsAlike t siblings n u other before
          → HavePassed offset before a b (events_remaining t root (after_siblings siblings n))
          (events_remaining u other_root (after_siblings other (other.first + (n - siblings.first))))
      both_passed alike =
          subst (λ es. HavePassed offset before es b (events_remaining t root (after_siblings siblings n))
          (events_remaining u other_root (after_siblings other (other.first + (n - siblings.first))))) e.starts
          (subst (λ es. HavePassed offset before (events_remaining t root (after_siblings siblings siblings.first)) es
          (events_remaining t root (after_siblings siblings n))
          (events_remaining u other_root (after_siblings other (other.first + (n - siblings.first))))) o.starts
          (alike_passed t root siblings e.sibling_trees e.there n offset reached late some u other_root other o.sibling_trees o.there before alike))

      -- if they are not, the second walk does not begin with these events
      pub none_begins : (AreSiblingsAlike t siblings n u other before → ⊥) → BeginsAlike (siblings_before offset 0 a) before b → ⊥
      none_begins differ h =
          differ (passed_alike t root siblings e.sibling_trees e.there n offset reached late some u other_root other o.sibling_trees o.there before
          (subst (λ es. BeginsAlike (siblings_before offset 0 es) before (events_remaining u other_root (after_siblings other other.first))) (sym e.starts)
          (subst (BeginsAlike (siblings_before offset 0 a) before) (sym o.starts) h)))

      -- the second walk continues within its root
      pub within_second : AreSiblingsAlike t siblings n u other before → IsWithin u other_root (after_siblings other (other.first + (n - siblings.first)))
      within_second alike = record {
        root_there = o.there;
        next_inside = o.sibling_trees.within (other.first + (n - siblings.first)) (omega arith) alike.fits;
      }
