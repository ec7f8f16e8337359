-- A `_` before an unused name, in place of its removal.
use Rattle.std.specs.Prelude.{ℕ, ◌==◌, ◌&&◌, ◌||◌, not, Bool, true, false, List, [], ◌∷◌, codes, Option, Some, None, if◌then◌else◌}
use Rattle.std.specs.List.{list_any}
use Rattle.std.specs.Cow.{cow_str_bytes}
use Rattle.std.specs.Str.{bytes_eq}
use Rattle.rnix_kinds.specs.declared.kinds.SyntaxKind.{SyntaxKind}
use Rattle.rnix_kinds.specs.declared.kinds.SyntaxKind.TheVariants as k
use Rattle.rnix_kinds.specs.declared.kinds.SyntaxKind.TheVariants.{NODE_ATTRPATH, NODE_IDENT_PARAM, NODE_PAT_BIND}
use Rattle.rnix_green.specs.Equality.{same_kind}
use Rattle.rnix_green.specs.Relatives.{parent_of}
use Rattle.rnix_green.specs.Tree.{Located, item_of}
use Rattle.rnix_text.specs.Changes.{Change, replacing}
use Rattle.nix_scopes.specs.declared.resolution.Binding.{Binding}
use Rattle.nix_scopes.specs.declared.resolution.Reference.{Reference}
use Rattle.nix_scopes.specs.declared.resolution.Resolution.{Resolution}
use Rattle.nix_scopes.specs.Bound.{bindings_of, references_of}
use Rattle.nix_lints.specs.Found.{is_kind_in}
use Rattle.nix_lints.specs.declared.unused.UnusedName.{UnusedName}
use Rattle.nix_dead.specs.Dead.{start_of}

-- a name is `_` and another name
abbrev pub is_underscored : List ℕ → List ℕ → Bool
is_underscored [] other = false
is_underscored (byte ∷ bytes) other = byte == 95 && bytes_eq bytes other

-- a binding or a reference has such a name
abbrev pub is_bound_so : List ℕ → Binding → Bool
is_bound_so other binding = is_underscored (cow_str_bytes binding.text) other

abbrev pub refers_so : List ℕ → Reference → Bool
refers_so other reference = is_underscored (cow_str_bytes reference.text) other

-- a text binds `_` and a name, or refers to it
abbrev pub is_taken : Resolution → List ℕ → Bool
is_taken names other = list_any (is_bound_so other) (bindings_of names) || list_any (refers_so other) (references_of names)

-- a `_` may precede a name right below a node of this kind: one of a `let`, an argument that is a plain name, or the name of a whole pattern
abbrev pub takes_underscore_below : SyntaxKind → Bool
takes_underscore_below NODE_ATTRPATH = true
takes_underscore_below NODE_IDENT_PARAM = true
takes_underscore_below NODE_PAT_BIND = true
takes_underscore_below kind = false

-- a `_` may precede the name at a node
abbrev pub takes_underscore : Located → Bool
takes_underscore name = same_kind (item_of name).kind k.NODE_IDENT && is_kind_in takes_underscore_below (parent_of name)

-- a `_` is written before a name
abbrev pub insertion : UnusedName → Change
insertion name = replacing (start_of name) (start_of name) (codes "_")

-- the same, if it may precede the name, and the name with `_` is neither bound in the text nor referred to
abbrev pub underscored : Resolution → UnusedName → Option Change
underscored names name = if takes_underscore name.node && not (is_taken names (cow_str_bytes name.text)) then Some (insertion name) else None
