-- How the entries of a set match a path. A path is a list of names.
use Rattle.std.specs.Prelude.{ℕ, ◌+◌, nat_eq, Bool, true, false, List, [], ◌∷◌, length, slice_get, Option, Some, None, if◌then◌else◌}
use Rattle.std.specs.List.{list_any}
use Rattle.std.specs.Str.{bytes_eq}
use Rattle.rnix_kinds.specs.declared.kinds.SyntaxKind.TheVariants as k
use Rattle.rnix_green.specs.Equality.{same_kind}
use Rattle.rnix_green.specs.Tree.{Located, item_of}
use Rattle.rnix_base.specs.Select.{nodes_of, child_of}
use Rattle.rnix.specs.NodeKinds.{is_attr}
use Rattle.nix_update.specs.declared.path_match.PathMatch.{PathMatch}
use Rattle.nix_update.specs.declared.path_match.PathMatch.TheVariants as matches
use Rattle.rnix.specs.AttrName.{static_name}

-- whether a name is given and is this one
abbrev pub is_same_name : Option (List ℕ) → List ℕ → Bool
is_same_name None name = false
is_same_name (Some own) name = bytes_eq own name

-- whether an attribute has this name, as its text alone determines
abbrev pub is_named : List ℕ → Located → Bool
is_named name e = is_same_name (static_name e) name

-- an attribute follows, where the path continues with this name or is at its end; `more` is how the next attributes match
abbrev pub name_match : Option (List ℕ) → Located → PathMatch → PathMatch
name_match None attr more = matches.Longer
name_match (Some name) attr more = if is_named name attr then more else matches.Mismatch

-- how the attributes of an entry's path match the names of a path from an index on
abbrev pub attrpath_match : List (List ℕ) → ℕ → List Located → PathMatch
attrpath_match names at [] = if nat_eq at (length names) then matches.Exact else matches.Prefix at
attrpath_match names at (attr ∷ attrs) = name_match (slice_get names at) attr (attrpath_match names (at + 1) attrs)

-- the same, for an entry's path that may be missing
abbrev pub attrpath_match_if : List (List ℕ) → ℕ → Option Located → PathMatch
attrpath_match_if names at None = matches.Mismatch
attrpath_match_if names at (Some path) = attrpath_match names at (nodes_of is_attr path)

-- how the names of an `inherit` match a path that continues with this name
abbrev pub inherit_match : List ℕ → Located → PathMatch
inherit_match name e = if list_any (is_named name) (nodes_of is_attr e) then matches.Inherited else matches.Mismatch

-- how a node matches the names of a path from an index on, the first of which is given if there is one: only entries match
abbrev pub path_match_if : Option (List ℕ) → List (List ℕ) → ℕ → Located → PathMatch
path_match_if None names at e = matches.Mismatch
path_match_if (Some name) names at e =
    if same_kind k.NODE_INHERIT (item_of e).kind then inherit_match name e
    else (if same_kind k.NODE_ATTRPATH_VALUE (item_of e).kind then attrpath_match_if names at (child_of (same_kind k.NODE_ATTRPATH) 0 e)
    else matches.Mismatch)

-- how a node matches the names of a path from an index on
abbrev pub path_match : List (List ℕ) → ℕ → Located → PathMatch
path_match names at e = path_match_if (slice_get names at) names at e

-- whether an entry with this match defines the attribute of the path, or a part of it
abbrev pub is_defining : PathMatch → Bool
is_defining matches.Mismatch = false
is_defining (matches.Prefix at) = false
is_defining matches.Exact = true
is_defining matches.Longer = true
is_defining matches.Inherited = true

-- whether an entry with this match defines the attribute of the path, or a part of it, and nothing else: an `inherit` may have other names
abbrev pub is_removable : PathMatch → Bool
is_removable matches.Exact = true
is_removable matches.Longer = true
is_removable _ = false
