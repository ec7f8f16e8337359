-- The names of entries, one after another.
use Rattle.std.proofs.Common.{◌≡◌, ℕ, List, [], ◌∷◌, ◌++◌, map, Bool, true, false, Option, Some, None, refl, ap, sym, ◌∙◌}
use Rattle.std.specs.Prelude.{flat_map, if◌then◌else◌}
use Rattle.rnix_kinds.specs.declared.kinds.SyntaxKind.TheVariants as k
use Rattle.rnix_base.specs.Select.{child_of, nodes_of}
use Rattle.rnix.specs.NodeKinds.{is_attr, is_expr}
use Rattle.rnix_green.specs.{Equality.{same_kind}, Relatives.{parent_of}, Tree.{Located, item_of}}
use Rattle.nix_attributes.specs.DefinedNames.{Name, set_number, definition_at, inherited_at, names_at, names_below, names_from, names_of, path_names}
use Rattle.nix_attributes.specs.{Attributes.AddsNames, declared.attributes.Attributes.Attributes}
use Rattle.nix_attributes.proofs.RepeatedLemmas.{AddsSome, adds_begun, adds_next, adds_all, adds_none}

-- a node that is not an entry defines no names
pub no_entry : (e one two : Located) → one ≡ e → two ≡ e → false ≡ same_kind k.NODE_INHERIT (item_of one).kind →
    false ≡ same_kind k.NODE_ATTRPATH_VALUE (item_of two).kind → names_at e ≡ []
no_entry e one two is also no_inherit no_value =
    below (parent_of e) (ap (λ x. same_kind k.NODE_INHERIT (item_of x).kind) (sym is) ∙ sym no_inherit)
    (ap (λ x. same_kind k.NODE_ATTRPATH_VALUE (item_of x).kind) (sym also) ∙ sym no_value)
  where
    below : (parent : Option Located) → same_kind k.NODE_INHERIT (item_of e).kind ≡ false → same_kind k.NODE_ATTRPATH_VALUE (item_of e).kind ≡ false →
        names_below parent e ≡ []
    below None inherits binds = refl
    below (Some set) inherits binds =
        let path = path_names set.number (set_number (child_of is_expr 0 e)) (child_of (same_kind k.NODE_ATTRPATH) 0 e) in
        ap (λ b. if b then map (inherited_at set.number) (nodes_of is_attr e) else (if same_kind k.NODE_ATTRPATH_VALUE (item_of e).kind then path else []))
        inherits ∙ ap (λ b. if b then path else []) binds

-- one more node
pub node_next : (old mid new : Attributes) (all : List Name) (before after : List Located) (e : Located) →
    AddsSome old mid (flat_map names_at before) all → before ≡ e ∷ after → AddsNames mid new (names_at e) → AddsSome old new (flat_map names_at after) all
node_next old mid new all before after e some first more =
    adds_next old mid new (flat_map names_at before) (names_at e) (flat_map names_at after) all some (ap (flat_map names_at) first) more

-- one more inherited name
pub inherited_next : (owner : ℕ) (old mid new : Attributes) (all : List Name) (before after : List Located) (e : Located) →
    AddsSome old mid (map (inherited_at owner) before) all → before ≡ e ∷ after → AddsNames mid new (inherited_at owner e ∷ []) →
    AddsSome old new (map (inherited_at owner) after) all
inherited_next owner old mid new all before after e some first more =
    adds_next old mid new (map (inherited_at owner) before) (inherited_at owner e ∷ []) (map (inherited_at owner) after) all some
    (ap (map (inherited_at owner)) first) more

-- one more name of a path, which another one follows
pub path_next : (old mid new : Attributes) (all : List Name) (owner start : ℕ) (continues : Bool) (set : Option ℕ) (e next : Located)
    (before after : List Located) → start ≡ e.number → AddsSome old mid (names_from owner continues set e before) all → before ≡ next ∷ after →
    AddsNames mid new (definition_at owner continues (Some start) e ∷ []) → AddsSome old new (names_from start true set next after) all
path_next old mid new all owner start continues set e next before after at some first more =
    adds_next old mid new (names_from owner continues set e before) (definition_at owner continues (Some start) e ∷ [])
    (names_from start true set next after) all some
    (ap (names_from owner continues set e) first
    ∙ ap (λ n. definition_at owner continues (Some n) e ∷ names_from n true set next after) (sym at))
    more

-- the last name of a path
pub path_end : (old mid new : Attributes) (all : List Name) (owner : ℕ) (continues : Bool) (set : Option ℕ) (e : Located) (remaining : List Located) →
    AddsSome old mid (names_from owner continues set e remaining) all → remaining ≡ [] → AddsNames mid new (definition_at owner continues set e ∷ []) →
    AddsNames old new all
path_end old mid new all owner continues set e remaining some none more =
    adds_all old new [] all
    (adds_next old mid new (names_from owner continues set e remaining) (definition_at owner continues set e ∷ []) [] all some
    (ap (names_from owner continues set e) none) more)
    refl

-- a path begins with its first name
pub path_begins : (attributes : Attributes) (owner : ℕ) (set : Option ℕ) (attrs whole after : List Located) (e : Located) →
    whole ≡ attrs → whole ≡ e ∷ after → AddsSome attributes attributes (names_from owner false set e after) (names_of owner set attrs)
path_begins attributes owner set attrs whole after e is first =
    adds_begun attributes (names_from owner false set e after) (names_of owner set attrs) (ap (names_of owner set) (sym first ∙ is))
