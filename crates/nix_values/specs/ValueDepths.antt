-- The depths of values that are being read.
use Rattle.std.specs.Prelude.{◌≡◌, ℕ, suc, ◌≤◌, List, [], ◌∷◌, slice_get, Option, Some, None}
use Rattle.std.specs.List.{flat_map}
use Rattle.std.specs.Prelude.{string_bytes}
use Rattle.nix_values.specs.declared.nodes.Node.{Node}
use Rattle.nix_values.specs.Contents.{Entry, plain_of}
use Rattle.nix_values.specs.Built.{built_of}
use Rattle.nix_values.specs.Preorder.{parent_of}

-- the depth of the values inside a value
abbrev pub depth_inside : Option Node → ℕ
depth_inside None = 0
depth_inside (Some node) = suc node.depth

-- the depth of the values with a given parent
abbrev pub depth_under : List Node → Option ℕ → ℕ
depth_under nodes None = 0
depth_under nodes (Some parent) = depth_inside (slice_get nodes parent)

-- each value is one deeper than its parent; outermost values have depth 0
pub record HasDepth (nodes : List Node) (number : ℕ) (node : Node) : Type 0 where
  pub right : node.depth ≡ depth_under nodes (parent_of number (built_of node))
  pub within : node.depth ≤ number

abbrev pub HaveDepths : List Node → Type 0
HaveDepths nodes = (number : ℕ) (node : Node) → slice_get nodes number ≡ Some node → HasDepth nodes number node

-- a node with its depth and name
abbrev pub entry_in : Node → Entry
entry_in node = record { depth = node.depth; name = string_bytes node.name; plain = plain_of node.value }

abbrev pub found_entry : Option Node → List Entry
found_entry None = []
found_entry (Some node) = entry_in node ∷ []

-- the value with a number, if there is one
abbrev pub entry_at : List Node → ℕ → List Entry
entry_at nodes number = found_entry (slice_get nodes number)

-- the values with some numbers
abbrev pub entries_at : List Node → List ℕ → List Entry
entries_at nodes numbers = flat_map (entry_at nodes) numbers
