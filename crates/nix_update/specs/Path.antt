-- The path of an attribute, as it is written on a command line.
use Rattle.std.specs.Prelude.{◌≡◌, ℕ, ◌-◌, List, [], ◌∷◌, ◌++◌, codes, map, Option, Some, None, if◌then◌else◌}
use Rattle.rnix_kinds.specs.declared.kinds.SyntaxKind.{SyntaxKind}
use Rattle.rnix_kinds.specs.declared.kinds.SyntaxKind.TheVariants as k
use Rattle.rnix_kinds.specs.Lexical.Tokens.{tokens_of}
use Rattle.rnix_green.specs.Tree.{Located, item_of, text_at}
use Rattle.rnix_green.specs.Walk.{nodes_in, children_of}
use Rattle.rnix_green.specs.Equality.{same_kind}
use Rattle.rnix_base.specs.Select.{nodes_of, child_of}
use Rattle.rnix_grammar.specs.Parsed.{IsParsed}
use Rattle.rnix.specs.NodeKinds.{is_attr, is_expr}
use Rattle.rnix.specs.ParseResult.{Reading, root_of}
use Rattle.rnix.specs.AttrName.{static_name}

-- the path of a node of a kind, if the node is an entry with a value
abbrev pub path_by : SyntaxKind → Located → Option Located
path_by kind entry = if same_kind k.NODE_ATTRPATH_VALUE kind then child_of (same_kind k.NODE_ATTRPATH) 0 entry else None

-- the path of the only node in the list
abbrev pub path_among : List Located → Option Located
path_among (entry ∷ []) = path_by (item_of entry).kind entry
path_among nodes = None

-- the path of the only entry of an expression, if it is a set with one entry
abbrev pub path_inside : Option Located → Option Located
path_inside None = None
path_inside (Some e) = if same_kind k.NODE_ATTR_SET (item_of e).kind then path_among (nodes_in (children_of e)) else None

-- a set with one entry, which has this path
abbrev pub entry_with : List ℕ → List ℕ
entry_with path = codes "{" ++ (path ++ codes "=0;}")

-- a text is a path with these names, each of which begins at an offset: it is the whole path of the entry of a set, and the text alone determines its names
pub record IsPath (text : List ℕ) (names : List (List ℕ)) (starts : List ℕ) : Type 0 where
  pub read : Reading
  pub is_read : IsParsed (tokens_of (entry_with text)) read.tree read.faults
  pub none : read.faults ≡ []
  pub path : Located
  pub path_is : path_inside (child_of is_expr 0 (root_of read)) ≡ Some path
  pub text_is : text_at path ≡ text
  pub names_are : map static_name (nodes_of is_attr path) ≡ map Some names
  pub starts_are : map (λ attr. (item_of attr).start - 1) (nodes_of is_attr path) ≡ starts

-- a text is no path: as that of an entry of a set it has errors, or it is not the whole path of the only entry, or the text does not determine a name
pub record IsNoPath (text : List ℕ) : Type 0 where
  pub read : Reading
  pub is_read : IsParsed (tokens_of (entry_with text)) read.tree read.faults
  pub none : (path : Located) (names : List (List ℕ)) → read.faults ≡ [] → path_inside (child_of is_expr 0 (root_of read)) ≡ Some path →
      text_at path ≡ text → ¬ (map static_name (nodes_of is_attr path) ≡ map Some names)
