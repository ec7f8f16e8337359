-- Values by group: group 0 contains the outermost values, and group n + 1 the values inside value n.
use Rattle.std.specs.Prelude.{◌≡◌, ℕ, zero, suc, ◌≤◌, ◌<◌, ◌==◌, List, [], ◌∷◌, length, drop, slice_get, slice_index, slice_index_or, Option, Some, None, if◌then◌else◌}
use Rattle.std.specs.List.{flat_map, range_with_len}
use Rattle.nix_values.specs.declared.links.Links.{Links}
use Rattle.nix_values.specs.Built.{Built}
use Rattle.nix_values.specs.Preorder.{parent_of}

-- the group of the values with a parent
abbrev pub group_of : Option ℕ → ℕ
group_of None = 0
group_of (Some parent) = suc parent

-- the group of each value, from value n on
abbrev pub groups_from : ℕ → List Built → List ℕ
groups_from number [] = []
groups_from number (value ∷ values) = group_of (parent_of number value) ∷ groups_from (suc number) values

abbrev pub groups_of : List Built → List ℕ
groups_of values = groups_from 0 values

-- the numbers of the values in a group, from value n on
abbrev pub members_from : ℕ → List ℕ → ℕ → List ℕ
members_from number [] group = []
members_from number (g ∷ groups) group =
    if g == group then number ∷ members_from (suc number) groups group else members_from (suc number) groups group

-- the numbers of the values in a group, each followed by those of the values inside it, down to a number of levels
unfoldable pub numbers_in : ℕ → List ℕ → ℕ → List ℕ
numbers_in zero groups group = []
numbers_in (suc levels) groups group = flat_map (λ number. number ∷ numbers_in levels groups (suc number)) (members_from 0 groups group)

-- the numbers of all values, each followed by those of the values inside it
abbrev pub order_of : List ℕ → List ℕ
order_of groups = numbers_in (length groups) groups 0

-- the numbers of values in preorder
abbrev pub preorder_numbers : List Built → List ℕ
preorder_numbers values = order_of (groups_of values)

-- the values are in preorder
abbrev pub IsPreorder : List Built → Type 0
IsPreorder values = preorder_numbers values ≡ range_with_len 0 (length values)

-- the first value in a group, from value n on
abbrev pub first_from : ℕ → List ℕ → ℕ → Option ℕ
first_from number groups group = slice_get (members_from number (drop number groups) group) 0

-- the first value of each group, and for each value the next one in its group, from value n on
pub record AreLinkedFrom (number : ℕ) (groups : List ℕ) (links : Links) : Type 0 where
  pub first_len : length links.first.items ≡ suc (length groups)
  pub next_len : length links.next.items ≡ length groups
  pub first : (group : ℕ) → group ≤ length groups → slice_index_or links.first.items group None ≡ first_from number groups group
  pub next : (value : ℕ) → number ≤ value → value < length groups →
      slice_index_or links.next.items value None ≡ first_from (suc value) groups (slice_index groups value)

-- the group of the values inside the last of these values, or another group if there are none
abbrev pub innermost : ℕ → List ℕ → ℕ
innermost group [] = group
innermost group (number ∷ numbers) = innermost (suc number) numbers

-- a number differs from all of these
abbrev pub IsNoneOf : ℕ → List ℕ → Type 0
IsNoneOf number [] = Unit {0}
IsNoneOf number (other ∷ others) = (number ≡ other → ⊥) × IsNoneOf number others

-- no number occurs twice
abbrev pub AreDistinct : List ℕ → Type 0
AreDistinct [] = Unit {0}
AreDistinct (number ∷ numbers) = IsNoneOf number numbers × AreDistinct numbers
