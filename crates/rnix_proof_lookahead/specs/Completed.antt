-- The trees that the first leaves of a forest complete.
use Rattle.std.specs.Prelude.{ℕ, zero, suc, ◌+◌, ◌-◌, Bool, true, false, nat_le}
use Rattle.rnix_kinds.specs.declared.kinds.SyntaxKind.{SyntaxKind}
use Rattle.rnix_green.specs.Forest.{Forest, empty, leaf, node}

-- how many leaves there are
abbrev pub leaf_count : Forest → ℕ
leaf_count empty = 0
leaf_count (leaf k t f) = suc (leaf_count f)
leaf_count (node k c f) = leaf_count c + leaf_count f

-- a node before other trees if a test holds, otherwise some of the trees inside it
abbrev pub node_or : Bool → SyntaxKind → Forest → Forest → Forest → Forest
node_or true k c f inside = node k c f
node_or false k c f inside = inside

-- the trees that the first n leaves complete: a node that has more is replaced by what they complete inside it
abbrev pub completed : ℕ → Forest → Forest
completed zero f = empty
completed (suc n) empty = empty
completed (suc n) (leaf k t f) = leaf k t (completed n f)
completed (suc n) (node k c f) = node_or (nat_le (leaf_count c) (suc n)) k c (completed (suc n - leaf_count c) f) (completed (suc n) c)
