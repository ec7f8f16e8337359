-- Siblings of two trees, compared by their elements.
use Rattle.std.specs.Prelude.{◌≡◌, ℕ, ◌+◌, ◌-◌, ◌<◌, ◌≤◌, ◌^◌, ◌==◌, ◌&&◌, nat_lt, length, take, drop, Bool, true, Option, Some, None, if◌then◌else◌}
use Rattle.std.specs.Bool.{beq}
use Rattle.rnix_green.specs.Equality.{same_kind}
use Rattle.rnix_green.specs.Forest.{text_of}
use Rattle.rnix_green.specs.Tree.{Tree, Item, items_of, item, forest_of}
use Rattle.rnix_tree.specs.declared.sibling_range.SiblingRange.{SiblingRange}
use Rattle.rnix_tree.specs.declared.walk.Next.{Next}
use Rattle.rnix_tree.specs.declared.walk.Next.TheVariants.{Enter, Leave, Done}
use Rattle.rnix_tree.specs.Cursor.{IsInside}

-- the parent of an element in a walk, or the element if it is the root of the walk
abbrev pub holder_of : ℕ → ℕ → Option ℕ → ℕ
holder_of root m None = m
holder_of root m (Some p) = if m == root then m else p

-- the siblings from an element on, up to the end of the holder
abbrev pub siblings_held : Tree → ℕ → ℕ → SiblingRange
siblings_held t m holder = record { first = m; holder = holder; end = holder + 1 + (item t holder).below }

-- the siblings from an element on in a walk from a root
abbrev pub siblings_at : Tree → ℕ → ℕ → SiblingRange
siblings_at t root m = siblings_held t m (holder_of root m (item t m).parent)

-- these are siblings that a walk enters
pub record IsSiblingRange (t : Tree) (siblings : SiblingRange) : Type 0 where
  pub root : ℕ
  pub there : root < length (items_of t)
  pub inside : IsInside t root siblings.first
  pub is : siblings ≡ siblings_at t root siblings.first
  pub fits : siblings.end < 2 ^ 63

-- a number is reached from the first one by passing siblings that end before an offset
pub data IsReached (t : Tree) (end offset first : ℕ) : ℕ → Type 0 where
  from_first : IsReached t end offset first first
  over_one : (n : ℕ) → IsReached t end offset first n → n < end → (item t n).end < offset → IsReached t end offset first (n + 1 + (item t n).below)

-- where the siblings before a number end in the text
abbrev pub text_end : Tree → SiblingRange → ℕ → ℕ
text_end t siblings n = if nat_lt n siblings.end then (item t n).start else (item t siblings.holder).end

-- what a walk does after the siblings before a number
abbrev pub after_siblings : SiblingRange → ℕ → Next
after_siblings siblings n = if nat_lt n siblings.end then Enter n else (if siblings.holder == siblings.first then Done else Leave siblings.holder)

-- two elements have the same kind, and as many elements inside
abbrev pub same_item : Item → Item → Bool
same_item a b = same_kind a.kind b.kind && (beq a.is_node b.is_node && (a.below == b.below))

-- the elements i places after x and y are alike, and start as far after the offsets s and v
abbrev pub alike_at : Tree → Tree → ℕ → ℕ → ℕ → ℕ → ℕ → Bool
alike_at t u x s y v i =
    same_item (item t (x + i)) (item u (y + i)) && (((item t (x + i)).start - s) == ((item u (y + i)).start - v))

-- so many elements from x and y on are alike
abbrev pub AreAlike : Tree → Tree → ℕ → ℕ → ℕ → ℕ → ℕ → Type 0
AreAlike t u x s y v n = (i : ℕ) → i < n → alike_at t u x s y v i ≡ true

-- a range is in the text
pub record IsIn (t : Tree) (start end : ℕ) : Type 0 where
  pub ordered : start ≤ end
  pub within : end ≤ length (text_of (forest_of t))

-- two texts are the same in two ranges
abbrev pub SameText : Tree → ℕ → ℕ → Tree → ℕ → ℕ → Type 0
SameText t start end u other_start other_end =
    take (end - start) (drop start (text_of (forest_of t))) ≡ take (other_end - other_start) (drop other_start (text_of (forest_of u)))

-- siblings of two forests are alike up to the number n of the first one, and end in the second tree before an offset
pub record AreSiblingsAlike (t : Tree) (siblings : SiblingRange) (n : ℕ) (u : Tree) (other : SiblingRange) (before : ℕ) : Type 0 where
  pub fits : other.first + (n - siblings.first) ≤ other.end
  pub ends : text_end u other (other.first + (n - siblings.first)) < before
  pub text : SameText t (item t siblings.first).start (text_end t siblings n) u (item u other.first).start
      (text_end u other (other.first + (n - siblings.first)))
  pub elements : AreAlike t u siblings.first (item t siblings.first).start other.first (item u other.first).start (n - siblings.first)
