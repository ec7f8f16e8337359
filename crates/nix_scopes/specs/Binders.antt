-- Which nodes bind names, and which names.
use Rattle.std.specs.Prelude.{◌||◌, ◌&&◌, Bool, true, false, List, [], ◌∷◌, ◌++◌, Option, Some, None, is_some, flat_map, if◌then◌else◌}
use Rattle.std.specs.Cow.{cow_str_bytes}
use Rattle.rnix_kinds.specs.declared.kinds.SyntaxKind.{SyntaxKind}
use Rattle.rnix_kinds.specs.declared.kinds.SyntaxKind.TheVariants as k
use Rattle.rnix_green.specs.Equality.{same_kind}
use Rattle.rnix_green.specs.Tree.{Located, item_of, text_at}
use Rattle.rnix_green.specs.Walk.{nodes_in, children_of}
use Rattle.rnix_base.specs.Select.{nodes_of, child_of, token_of}
use Rattle.rnix.specs.NodeKinds.{is_attr, is_param}
use Rattle.rnix.specs.AttrName.{static_name}
use Rattle.nix_scopes.specs.declared.names.Name.{Name}
use Rattle.nix_scopes.specs.Names.{Named, named_if, names_written}

-- a name of the program
abbrev pub named : Name → Named
named name = record { text = cow_str_bytes name.text; node = name.node }

-- the name of an identifier, if there is one
abbrev pub ident_name : Option Located → List Named
ident_name None = []
ident_name (Some e) = record { text = text_at e; node = e } ∷ []

-- the name of an attribute, if there is one and the text alone determines it
abbrev pub written_name : Option Located → List Named
written_name None = []
written_name (Some e) = named_if e (static_name e)

-- the first name of an attribute path, as `a` of `a.b`
abbrev pub path_name : Option Located → List Named
path_name None = []
path_name (Some path) = written_name (child_of is_attr 0 path)

-- the names that an `inherit` binds
abbrev pub inherit_names : Located → List Named
inherit_names e = names_written (nodes_of is_attr e)

-- the names that an entry binds: those that it inherits, or the first of its path
abbrev pub entry_names : Located → List Named
entry_names e =
    if same_kind k.NODE_INHERIT (item_of e).kind then inherit_names e
    else (if same_kind k.NODE_ATTRPATH_VALUE (item_of e).kind then path_name (child_of (same_kind k.NODE_ATTRPATH) 0 e) else [])

-- the names that the entries of a set or a `let` bind
abbrev pub entries_names : Located → List Named
entries_names e = flat_map entry_names (nodes_in (children_of e))

-- the name that a node of a pattern or a parameter binds
abbrev pub own_name : Located → List Named
own_name e = ident_name (child_of (same_kind k.NODE_IDENT) 0 e)

-- the name of a whole pattern, as `a` of `a @ { b }`
abbrev pub bind_name : Option Located → List Named
bind_name None = []
bind_name (Some bind) = own_name bind

-- the names that a pattern binds
abbrev pub pattern_names : Located → List Named
pattern_names e = bind_name (child_of (same_kind k.NODE_PAT_BIND) 0 e) ++ flat_map own_name (nodes_of (same_kind k.NODE_PAT_ENTRY) e)

-- the names that a parameter binds
abbrev pub param_names : Located → List Named
param_names e =
    if same_kind k.NODE_PATTERN (item_of e).kind then pattern_names e
    else (if same_kind k.NODE_IDENT_PARAM (item_of e).kind then own_name e else [])

-- the names that the parameter of a function binds
abbrev pub lambda_names : Option Located → List Named
lambda_names None = []
lambda_names (Some param) = param_names param

-- the names that a scope binds, in order
abbrev pub names_bound : Located → List Named
names_bound e = if same_kind k.NODE_LAMBDA (item_of e).kind then lambda_names (child_of is_param 0 e) else entries_names e

-- whether a node is a set with `rec`
abbrev pub is_recursive : Located → Bool
is_recursive e = same_kind k.NODE_ATTR_SET (item_of e).kind && is_some (token_of (same_kind k.TOKEN_REC) e)

-- whether a node of the kind binds names
abbrev pub is_binder : SyntaxKind → Bool
is_binder k.NODE_LET_IN = true
is_binder k.NODE_LEGACY_LET = true
is_binder k.NODE_LAMBDA = true
is_binder _ = false

-- whether the names that a node binds are in scope inside it
abbrev pub is_scope : Located → Bool
is_scope e = is_binder (item_of e).kind || is_recursive e
