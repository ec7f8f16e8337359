-- The innermost element that contains a range.
use Rattle.std.proofs.Common.{◌≡◌, ℕ, zero, suc, ◌+◌, ◌≤◌, ◌<◌, length, find, map, List, Bool, true, false, Some, None, refl, ap, sym, ◌∙◌, arith}
use Rattle.std.{proofs.{Common.{inl, inr, nat_lt}, lemmas.Bool.{cases_lt, and_parts, Decides.nat_tests}}, specs.Prelude.{nat_le, ◌&&◌, cond}}
use Rattle.rnix_green.specs.{Range.Extent, Tree.{Tree, items_of, item, extent_of}, Walk.{Spot, spot_at, children_of}}
use Rattle.rnix_green.specs.{PreorderNumbers.siblings_between, Relatives.{IsNodeIn, IsChild}}
use Rattle.rnix_green.proofs.{SiblingLemmas.{next_sibling, no_sibling, next_inside}, PartLemmas.children_between}
use Rattle.rnix_green.proofs.InsideLemmas.{ends_inside, first_child_of, below_parent, sibling_behind}
use Rattle.rnix_tree.specs.{Around.IsOnWayTo, Covering.{holds, holds_at, child_at_range, IsInnermost}, Offset.IsHolding}
use Rattle.rnix_tree.proofs.{ChildLemmas.token_childless, OffsetLemmas.{order, token_last, within_node}, RelativeLemmas.{not_beside, IsClimbing, climb_step, climb_goes}}

-- a test that is not true is false
fails : (b : Bool) → ¬ (b ≡ true) → b ≡ false
fails true h = absurd (h refl)
fails false h = refl

-- an element that contains a range starts at or before the range's start, and ends after it
holds_start : (range outer : Extent) → holds range outer ≡ true → (outer.start ≤ range.start) × (range.start < outer.end)
holds_start range outer h =
    let sides = and_parts (nat_le outer.start range.start && nat_le range.end outer.end) (nat_lt outer.start range.end && nat_lt range.start outer.end) h in
    let low = (and_parts (nat_le outer.start range.start) (nat_le range.end outer.end) sides.0).0 in
    let high = (and_parts (nat_lt outer.start range.end) (nat_lt range.start outer.end) sides.1).1 in
    (grind (arith, nat_tests), grind (arith, nat_tests))

-- so an element whose range does not include the range's start does not contain the range
starts_elsewhere : (range outer : Extent) → ¬ ((outer.start ≤ range.start) × (range.start < outer.end)) → holds range outer ≡ false
starts_elsewhere range outer h = fails (holds range outer) (λ e. h (holds_start range outer e))

-- a child ends before the next one starts
pub ends_before : (t : Tree) (n m c : ℕ) → IsChild record { tree = t; number = n } m → IsChild record { tree = t; number = n } c → m < c
    → m + (item t m).below < c
ends_before t n m c here child less =
    elim (cases_lt (m + (item t m).below) c) [
      | inl short ↦ short
      | inr long ↦ absurd (not_beside t m n c here.is_there here.parent less long child.parent)
    ]

-- the children of an element from one on, and the first of them that passes a test
module _ (t : Tree) (n : ℕ) (l : n < length (items_of t)) (test : Spot → Bool) where
  abbrev past : ℕ
  past = n + 1 + (item t n).below

  abbrev from_child : ℕ → List Spot
  from_child from = map (spot_at t) (siblings_between (items_of t) from past)

  -- after the last child none is found
  no_child : (from : ℕ) → past ≤ from → find test (from_child from) ≡ None
  no_child from high = ap (λ ns. find test (map (spot_at t) ns)) (no_sibling (items_of t) from past high)

  -- the search finds a child that passes, or continues after it
  met : (from : ℕ) (b : Bool) → from < past → test (spot_at t from) ≡ b
      → find test (from_child from) ≡ cond b (Some (spot_at t from)) (find test (from_child (from + 1 + (item t from).below)))
  met from b high e =
      ap (λ ns. find test (map (spot_at t) ns)) (next_sibling (items_of t) from past (item t from).below high (next_inside t n l) refl)
      ∙ ap (λ x. cond x (Some (spot_at t from)) (find test (from_child (from + 1 + (item t from).below)))) e

  -- a number is that of a child
  abbrev IsHere : ℕ → Type 0
  IsHere = IsChild record { tree = t; number = n }

  -- after a child and everything inside it comes the next child
  next_here : (m : ℕ) → IsHere m → m + 1 + (item t m).below < past → IsHere (m + 1 + (item t m).below)
  next_here m h fits = record {
    is_there = omega (arith, next_inside t n l);
    parent = sibling_behind t m n h.is_there h.parent (omega arith);
  }

  -- a child that passes is found if none before it passes
  meets_it : (from c : ℕ) → from ≡ c → IsHere c → test (spot_at t c) ≡ true → find test (from_child from) ≡ Some (spot_at t c)
  meets_it from c eq child passes =
      let inside = below_parent t c n child.is_there child.parent in
      met from true (omega (arith, inside.high)) (ap (λ k. test (spot_at t k)) eq ∙ passes) ∙ ap (λ k. Some (spot_at t k)) eq

  find_child : (room from c : ℕ) → c ≤ from + room → from ≤ c → IsHere c → IsHere from → ((m : ℕ) → m < c → IsHere m → test (spot_at t m) ≡ false)
      → test (spot_at t c) ≡ true
      → find test (from_child from) ≡ Some (spot_at t c)
  find_child zero from c few low child here before passes = meets_it from c (omega arith) child passes
  find_child (suc room) from c few low child here before passes =
      let inside = below_parent t c n child.is_there child.parent in
      elim (cases_lt from c) [
        | inr same ↦ meets_it from c (omega arith) child passes
        | inl less ↦
            let apart = ends_before t n from c here child less in
            met from false (omega (arith, inside.high)) (before from less here)
            ∙ find_child room (from + 1 + (item t from).below) c (omega arith) (omega arith) child
            (next_here from here (omega (arith, inside.high))) before passes
      ]

  -- if no child passes, none is found
  find_none : (room from : ℕ) → past ≤ from + room → (from < past → IsHere from) → ((m : ℕ) → IsHere m → test (spot_at t m) ≡ false)
      → find test (from_child from) ≡ None
  find_none zero from few here none = no_child from (omega arith)
  find_none (suc room) from few here none =
      elim (cases_lt from past) [
        | inr behind ↦ no_child from behind
        | inl less ↦
            met from false less (none from (here less))
            ∙ find_none room (from + 1 + (item t from).below) (omega arith) (λ fits. next_here from (here less) fits) none
      ]

  -- the first child follows the element, if there is one
  first_here : n + 1 < past → IsHere (n + 1)
  first_here some = record { is_there = omega (arith, next_inside t n l); parent = first_child_of t n l (omega arith) }

  -- the search in the list of children is the search from the first child on
  all_children : find test (children_of record { tree = t; number = n }) ≡ find test (from_child (n + 1))
  all_children = ap (λ ns. find test (map (spot_at t) ns)) (sym (children_between t n l))

  pub found_child : (c : ℕ) → IsHere c → ((m : ℕ) → m < c → IsHere m → test (spot_at t m) ≡ false) → test (spot_at t c) ≡ true
      → find test (children_of record { tree = t; number = n }) ≡ Some (spot_at t c)
  found_child c child before passes =
      let inside = below_parent t c n child.is_there child.parent in
      all_children ∙ find_child c (n + 1) c (omega arith) (omega (arith, inside.low)) child (first_here (omega (arith, inside.low, inside.high))) before passes

  pub found_none : ((m : ℕ) → IsHere m → test (spot_at t m) ≡ false) → find test (children_of record { tree = t; number = n }) ≡ None
  found_none none = all_children ∙ find_none (item t n).below (n + 1) (omega arith) first_here none

-- the token that contains the byte after an offset
pub record IsTokenWith (t : Tree) (offset token : ℕ) : Type 0 where
  pub is_there : token < length (items_of t)
  pub is_token : (item t token).is_node ≡ false
  pub low : (item t token).start ≤ offset
  pub high : offset < (item t token).end

pub token_held : (t : Tree) (n offset token : ℕ) → IsHolding record { tree = t; number = n } (offset + 1) token → IsTokenWith t offset token
token_held t n offset token h = record {
  is_there = h.inside.token.is_there;
  is_token = h.inside.token.is_token;
  low = omega (arith, h.low);
  high = omega (arith, h.high);
}

-- only the child with the token in which a range starts can contain the range
module _ (range : Extent) (t : Tree) (n token c : ℕ) (l : n < length (items_of t)) (h : IsTokenWith t range.start token) (way : IsOnWayTo t n token c) where
  before_it : (m : ℕ) → m < c → IsChild record { tree = t; number = n } m → holds_at range (spot_at t m) ≡ false
  before_it m less child =
      let there : c < length (items_of t) = omega (arith, way.low, h.is_there) in
      let apart = ends_before t n m c child record { is_there = there; parent = way.parent } less in
      let ends = (order t m c less there).1 apart in
      starts_elsewhere range (extent_of record { tree = t; number = m }) (λ in_it. elim (cases_lt c token) [
        | inl more ↦ (let starts = (order t c token more h.is_there).0 in omega (arith, in_it.1, ends, starts, h.low))
        | inr same ↦ (let eq : c ≡ token = omega (arith, way.low) in omega (arith, in_it.1, ends, h.low, ap (λ k. (item t k).start) eq))
      ])

  behind_it : (m : ℕ) → c < m → IsChild record { tree = t; number = n } m → holds_at range (spot_at t m) ≡ false
  behind_it m more child =
      let there : c < length (items_of t) = omega (arith, way.low, h.is_there) in
      let apart = ends_before t n c m record { is_there = there; parent = way.parent } child more in
      let ends = token_last t token m (omega (arith, way.high)) child.is_there h.is_token in
      starts_elsewhere range (extent_of record { tree = t; number = m }) (λ in_it. omega (arith, in_it.0, ends, h.high))

  pub range_in_child : holds range (extent_of record { tree = t; number = c }) ≡ true
      → child_at_range range record { tree = t; number = n } ≡ Some (spot_at t c)
  range_in_child e =
      let there : c < length (items_of t) = omega (arith, way.low, h.is_there) in
      found_child t n l (holds_at range) c record { is_there = there; parent = way.parent } before_it e

  pub range_in_none : holds range (extent_of record { tree = t; number = c }) ≡ false → child_at_range range record { tree = t; number = n } ≡ None
  range_in_none e = found_none t n l (holds_at range) (λ m child. elim (cases_lt m c) [
    | inl less ↦ before_it m less child
    | inr no_less ↦ elim (cases_lt c m) [
      | inl more ↦ behind_it m more child
      | inr same ↦ (let eq : m ≡ c = omega arith in ap (λ k. holds_at range (spot_at t k)) eq ∙ e)
    ]
  ])

-- no child contains a range that starts outside the element
pub range_outside : (range : Extent) (t : Tree) (n : ℕ) → IsNodeIn t n → ¬ (((item t n).start ≤ range.start) × (range.start < (item t n).end))
    → child_at_range range record { tree = t; number = n } ≡ None
range_outside range t n node out = found_none t n node.is_there (holds_at range) (λ m child.
    let inside = below_parent t m n child.is_there child.parent in
    let b = within_node t n node m inside.low inside.high in
    starts_elsewhere range (extent_of record { tree = t; number = m }) (λ in_it. out (omega (arith, b.0, in_it.0), omega (arith, b.1, in_it.1))))

-- a search from both ends is at a child at or before the element's, and at an element around it
pub record IsFlanked (t : Tree) (p m child above : ℕ) : Type 0 where
  pub here : IsChild record { tree = t; number = p } child
  pub low : child ≤ m
  pub climbing : IsClimbing t p m above

pub flanked_first : (t : Tree) (p m : ℕ) → p < length (items_of t) → p < m → m ≤ p + (item t p).below → IsFlanked t p m (p + 1) m
flanked_first t p m l low high = record {
  here = record { is_there = omega (arith, next_inside t p l); parent = first_child_of t p l (omega arith) };
  low = omega arith;
  climbing = record { above = low; low = omega arith; high = omega arith };
}

-- each step moves to the next child, and to the parent
pub flanked_step : (t : Tree) (p m child above around : ℕ) → p < length (items_of t) → m ≤ p + (item t p).below → IsFlanked t p m child above
    → child + 1 + (item t child).below ≤ m → (item t above).parent ≡ Some around → ¬ (around ≡ p)
    → IsFlanked t p m (child + 1 + (item t child).below) around
flanked_step t p m child above around l high h passed e differs =
    let next = sibling_behind t child p h.here.is_there h.here.parent (omega arith) in
    record {
      here = record { is_there = omega (arith, next_inside t p l); parent = next };
      low = passed;
      climbing = climb_step t p m above around l high h.climbing e differs;
    }

-- the search ends at a child that does not end before the element
pub flanked_child : (t : Tree) (p m child above : ℕ) → p < length (items_of t) → IsFlanked t p m child above → m ≤ child + (item t child).below
    → IsOnWayTo t p m child
flanked_child t p m child above l h over =
    let inside = below_parent t child p h.here.is_there h.here.parent in
    record { parent = h.here.parent; above = inside.low; low = h.low; high = over }

-- the element above has a parent
pub flanked_goes : (t : Tree) (p m child above : ℕ) → p < length (items_of t) → m ≤ p + (item t p).below → IsFlanked t p m child above
    → (item t above).parent ≡ None → ⊥
flanked_goes t p m child above l high h e = climb_goes t p m above l high h.climbing e

-- element `c` contains the token in which the range starts, and is `n`, or is inside `n` and contains the range
pub record IsReached (t : Tree) (range : Extent) (n token c : ℕ) : Type 0 where
  pub low : n ≤ c
  pub high : c + (item t c).below ≤ n + (item t n).below
  pub there : c < length (items_of t)
  pub before : c ≤ token
  pub over : token ≤ c + (item t c).below
  pub inside : ¬ (c ≡ n) → holds range (extent_of record { tree = t; number = c }) ≡ true

module _ (t : Tree) (range : Extent) (n token : ℕ) where
  -- the search begins with the node itself
  pub reached_first : IsNodeIn t n → IsHolding record { tree = t; number = n } (range.start + 1) token → IsReached t range n token n
  reached_first node h = record {
    low = omega arith;
    high = omega arith;
    there = node.is_there;
    before = h.inside.low;
    over = h.inside.high;
    inside = λ differs. absurd (differs refl);
  }

  -- it continues with the child that has the token, if the range is in this child
  pub reached_child : (c child : ℕ) → IsReached t range n token c → IsOnWayTo t c token child
      → holds range (extent_of record { tree = t; number = child }) ≡ true → IsReached t range n token child
  reached_child c child r way e =
      let there : child < length (items_of t) = omega (arith, way.low, r.over, next_inside t c r.there) in
      let inside = below_parent t child c there way.parent in
      record {
        low = omega (arith, r.low, inside.low);
        high = omega (arith, r.high, ends_inside t c child r.there inside.low inside.high);
        there = there;
        before = way.low;
        over = way.high;
        inside = λ _. e;
      }

  -- it ends if no child contains the range
  reached_last : (c : ℕ) → IsReached t range n token c → child_at_range range record { tree = t; number = c } ≡ None
      → IsInnermost range record { tree = t; number = n } record { tree = t; number = c }
  reached_last c r none = record { tree = refl; low = r.low; high = omega (arith, r.high); inside = r.inside; innermost = none }

  -- so it does if the child with the token does not contain the range
  pub reached_end : (c child : ℕ) → IsReached t range n token c → IsHolding record { tree = t; number = n } (range.start + 1) token
      → IsOnWayTo t c token child → holds range (extent_of record { tree = t; number = child }) ≡ false
      → IsInnermost range record { tree = t; number = n } record { tree = t; number = c }
  reached_end c child r h way e = reached_last c r (range_in_none range t c token child r.there (token_held t n range.start token h) way e)

  -- and at the token
  pub reached_token : (c : ℕ) → IsReached t range n token c → IsHolding record { tree = t; number = n } (range.start + 1) token → token ≤ c
      → IsInnermost range record { tree = t; number = n } record { tree = t; number = c }
  reached_token c r h end =
      let eq : token ≡ c = omega (arith, r.before) in
      let is_token = ap (λ k. (item t k).is_node) (sym eq) ∙ h.inside.token.is_token in
      reached_last c r (ap (find (holds_at range)) (token_childless t c r.there is_token))

  -- and at the node itself, if the range starts outside it
  pub reached_none : IsNodeIn t n → ¬ (((item t n).start ≤ range.start) × (range.start < (item t n).end))
      → IsInnermost range record { tree = t; number = n } record { tree = t; number = n }
  reached_none node out = record {
    tree = refl;
    low = omega arith;
    high = omega arith;
    inside = λ differs. absurd (differs refl);
    innermost = range_outside range t n node out;
  }
