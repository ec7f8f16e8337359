-- Values in preorder: each is followed by the values inside it.
use Rattle.std.specs.Prelude.{ℕ, zero, suc, ◌==◌, nat_lt, Bool, true, false, List, [], ◌∷◌, length, Option, Some, None, if◌then◌else◌}
use Rattle.std.specs.List.{flat_map}
use Rattle.nix_values.specs.Contents.{Entry}
use Rattle.nix_values.specs.Built.{Built}

-- a value counts as a parent only if it comes before the value inside it
abbrev pub parent_before : ℕ → Option ℕ → Option ℕ
parent_before number None = None
parent_before number (Some parent) = if nat_lt parent number then Some parent else None

-- the parent of the value with a number; a value without a parent is outermost
abbrev pub parent_of : ℕ → Built → Option ℕ
parent_of number value = parent_before number value.parent

-- whether two values have the same parent, or both have none
abbrev pub is_same_parent : Option ℕ → Option ℕ → Bool
is_same_parent None None = true
is_same_parent (Some a) (Some b) = a == b
is_same_parent _ _ = false

-- the values with a parent, from value n on, with their numbers, in the order in which they were added
abbrev pub children_from : ℕ → List Built → Option ℕ → List (ℕ × Built)
children_from number [] parent = []
children_from number (value ∷ values) parent =
    if is_same_parent (parent_of number value) parent then (number, value) ∷ children_from (suc number) values parent
    else children_from (suc number) values parent

-- the values inside a parent, each followed by those inside it, down to a number of levels; the depth is the number of values around them
unfoldable pub descendants : ℕ → List Built → ℕ → Option ℕ → List Entry
descendants zero values depth parent = []
descendants (suc levels) values depth parent =
    flat_map
    (λ child. record { depth = depth; name = child.1.name; plain = child.1.plain } ∷ descendants levels values (suc depth) (Some child.0))
    (children_from 0 values parent)

-- all values, each followed by those inside it: there are no more levels than values
abbrev pub preorder : List Built → List Entry
preorder values = descendants (length values) values 0 None
