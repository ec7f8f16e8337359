-- The elements that contain a range.
use Rattle.std.specs.Prelude.{◌≡◌, ◌≤◌, ◌+◌, ◌&&◌, nat_le, nat_lt, Bool, true, find, Option, Some, None}
use Rattle.rnix_green.specs.Range.{Extent}
use Rattle.rnix_green.specs.Tree.{Located, item_of, extent_of}
use Rattle.rnix_green.specs.Walk.{Spot, children_of}

-- whether another range contains this one; an empty range must be strictly between its ends
abbrev pub holds : Extent → Extent → Bool
holds range outer =
    (nat_le outer.start range.start && nat_le range.end outer.end) && (nat_lt outer.start range.end && nat_lt range.start outer.end)

-- whether the range of an element contains it
abbrev pub holds_at : Extent → Spot → Bool
holds_at range spot = holds range (extent_of spot.1)

-- the first child that contains a range
abbrev pub child_at_range : Extent → Located → Option Spot
child_at_range range e = find (holds_at range) (children_of e)

-- the range is between the ends of an element
abbrev pub IsOver : Extent → Located → Type 0
IsOver range e = ((item_of e).start ≤ range.start) × (range.end ≤ (item_of e).end)

-- c is e, or is inside e and contains the range; no child of c contains it
pub record IsInnermost (range : Extent) (e c : Located) : Type 0 where
  pub tree : c.tree ≡ e.tree
  pub low : e.number ≤ c.number
  pub high : c.number ≤ e.number + (item_of e).below
  pub inside : ¬ (c.number ≡ e.number) → holds range (extent_of c) ≡ true
  pub innermost : child_at_range range c ≡ None

-- the innermost element that contains a range, if the range is between the ends of e
abbrev pub IsCovering : Extent → Located → Option Located → Type 0
IsCovering range e None = ¬ IsOver range e
IsCovering range e (Some c) = IsOver range e × IsInnermost range e c
