-- The names that the entries of sets and of `let` define, one after another.
use Rattle.std.specs.Prelude.{ℕ, Bool, true, false, List, [], ◌∷◌, map, flat_map, Option, Some, None, is_some, option_map, if◌then◌else◌}
use Rattle.std.specs.Cow.{cow_str_bytes}
use Rattle.std.specs.Option.{unwrap_or}
use Rattle.rnix_kinds.specs.declared.kinds.SyntaxKind.TheVariants as k
use Rattle.rnix_green.specs.Equality.{same_kind}
use Rattle.rnix_green.specs.Range.{Extent, bounds_of}
use Rattle.rnix_green.specs.Relatives.{parent_of}
use Rattle.rnix_green.specs.Tree.{Located, item_of, extent_of}
use Rattle.rnix_green.specs.Walk.{nodes_in, elements_of}
use Rattle.rnix_base.specs.Select.{nodes_of, child_of}
use Rattle.rnix.specs.AttrName.{static_name, without_parens}
use Rattle.rnix.specs.NodeKinds.{is_attr, is_expr}
use Rattle.nix_attributes.specs.declared.definition.Definition.{Definition}
use Rattle.nix_attributes.specs.declared.definition.NameSite.{NameSite}

-- where a name is written. Its owner is the name before it in its path, or else the set or `let` that contains its entry; the owner is identified by its
-- number. `inner` is the owner of the names inside its attribute: the set that is its value, or else the name itself. The rest says whether it follows
-- another name in its path, and whether other entries may add names to its attribute, because its path continues or its value is a set
pub record Site : Type 0 where
  pub extent : Extent
  pub owner : ℕ
  pub inner : ℕ
  pub continues : Bool
  pub is_open : Bool

-- a name, if the text alone determines it, and where it is written
pub record Name : Type 0 where
  pub text : Option (List ℕ)
  pub site : Site

-- a site of the program
abbrev pub site_of : NameSite → Site
site_of name_site = record {
  extent = bounds_of name_site.range;
  owner = name_site.owner;
  inner = name_site.inner;
  continues = name_site.continues;
  is_open = name_site.is_open;
}

-- a name at a site
abbrev pub named : Option (List ℕ) → Site → Name
named text site = record { text = text; site = site }

-- a definition of the program
abbrev pub name_from : Definition → Name
name_from definition = named (option_map cow_str_bytes definition.text) (site_of definition.name_site)

-- the set in an expression, possibly in parentheses
abbrev pub set_of : Located → Option Located
set_of e = if same_kind k.NODE_ATTR_SET (item_of (without_parens e)).kind then Some (without_parens e) else None

-- the number of the set in an expression, if there is one
abbrev pub set_number : Option Located → Option ℕ
set_number None = None
set_number (Some e) = option_map (λ set. set.number) (set_of e)

-- a node as a name, with the owner of the names inside its attribute if other entries may add to it
abbrev pub definition_at : ℕ → Bool → Option ℕ → Located → Name
definition_at owner continues inner e = named (static_name e) record {
  extent = extent_of e;
  owner = owner;
  inner = unwrap_or inner e.number;
  continues = continues;
  is_open = is_some inner;
}

-- a node as a name that is inherited
abbrev pub inherited_at : ℕ → Located → Name
inherited_at owner e = definition_at owner false None e

-- the names of a path; the value may be a set, which has a number
abbrev pub names_from : ℕ → Bool → Option ℕ → Located → List Located → List Name
names_from owner continues set e [] = definition_at owner continues set e ∷ []
names_from owner continues set e (next ∷ more) =
    definition_at owner continues (Some e.number) e ∷ names_from e.number true set next more

-- the names of a path, given the number of the set that is its value
abbrev pub names_of : ℕ → Option ℕ → List Located → List Name
names_of owner set [] = []
names_of owner set (e ∷ more) = names_from owner false set e more

-- the same, for a path that may be missing
abbrev pub path_names : ℕ → Option ℕ → Option Located → List Name
path_names owner set None = []
path_names owner set (Some path) = names_of owner set (nodes_of is_attr path)

-- the names that a node in a set or a `let` defines, if it is an entry
abbrev pub names_below : Option Located → Located → List Name
names_below None e = []
names_below (Some set) e =
    if same_kind k.NODE_INHERIT (item_of e).kind then map (inherited_at set.number) (nodes_of is_attr e)
    else (if same_kind k.NODE_ATTRPATH_VALUE (item_of e).kind
    then path_names set.number (set_number (child_of is_expr 0 e)) (child_of (same_kind k.NODE_ATTRPATH) 0 e)
    else [])

-- the names that a node defines, if it is an entry
abbrev pub names_at : Located → List Name
names_at e = names_below (parent_of e) e

-- the names of the entries of a text, in the order of the entries
abbrev pub names_in : Located → List Name
names_in root = flat_map names_at (nodes_in (elements_of root))
