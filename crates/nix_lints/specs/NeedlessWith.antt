-- Each `with` that no name needs.
use Rattle.std.specs.Prelude.{◌≡◌, ℕ, nat_le, nat_lt, Bool, false, not, ◌&&◌, List, Option, Some, None}
use Rattle.std.specs.List.{list_any}
use Rattle.std.specs.BTreeSet.{BTreeSet}
use Rattle.rnix_green.specs.Range.{Extent}
use Rattle.rnix_green.specs.Tree.{Located, extent_of}
use Rattle.rnix_base.specs.Select.{child_of}
use Rattle.rnix.specs.NodeKinds.{is_expr}
use Rattle.nix_diagnostics.specs.declared.code.Code.TheVariants as code
use Rattle.nix_scopes.specs.Scopes.{Resolved}
use Rattle.nix_lints.specs.Found.{Found, found_if}

-- whether an offset is within a range
abbrev pub is_within : Extent → ℕ → Bool
is_within extent offset = nat_le extent.start offset && nat_lt offset extent.end

-- whether a reference may come from a `with`, and the place where it is written passes a test
abbrev pub is_open_where : (ℕ → Bool) → Resolved → Bool
is_open_where test reference = reference.is_open && test (extent_of reference.node).start

-- whether there is a node, and no name in it may come from a `with`
abbrev pub is_closed_in : List Resolved → Option Located → Bool
is_closed_in names None = false
is_closed_in names (Some node) = not (list_any (is_open_where (is_within (extent_of node))) names)

-- the finding on a `with`, if no name in its body may come from a `with`, given the references of the text
abbrev pub needless_with : List Resolved → Located → Option Found
needless_with names node = found_if (is_closed_in names (child_of is_expr 1 node)) code.NeedlessWith node

-- these are the places where the references are written that may come from a `with`
abbrev pub ArePlaces : List Resolved → BTreeSet ℕ → Type 0
ArePlaces names places = (test : ℕ → Bool) → list_any test places.keys ≡ list_any (is_open_where test) names
