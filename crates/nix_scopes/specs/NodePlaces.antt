-- What a walk knows about the nodes that it has visited.
use Rattle.std.specs.Prelude.{◌≡◌, ◌<◌, ◌≤◌, ◌-◌, ◌+◌, ◌++◌, ◌||◌, ℕ, nat_le, nat_lt, Bool, true, false, List, ◌∷◌, length, map, drop, filter, Option, Some, None, option_and_then, unwrap_or, slice_get, if◌then◌else◌}
use Rattle.std.specs.List.{All, list_any}
use Rattle.std.specs.Option.{option_or}
use Rattle.rnix_kinds.specs.declared.kinds.SyntaxKind.TheVariants as k
use Rattle.rnix_green.specs.Equality.{same_kind}
use Rattle.rnix_green.specs.Tree.{Located, item, item_of}
use Rattle.rnix_green.specs.Relatives.{parent_of}
use Rattle.nix_scopes.specs.declared.name_maps.NameMaps.{NameMaps}
use Rattle.nix_scopes.specs.declared.places.Place.{Place}
use Rattle.nix_scopes.specs.declared.resolution.Binding.{Binding}
use Rattle.nix_scopes.specs.Bound.{bound_of, AreFirst}
use Rattle.nix_scopes.specs.NameMaps.{number_in_map, HaveKeys, IsNameMap}
use Rattle.nix_scopes.specs.Names.{Named}
use Rattle.nix_scopes.specs.Scopes.{Bound, number_in, innermost, is_with_body, Resolved, resolved}
use Rattle.nix_scopes.specs.Owners.{number_around, merged_around}
use Rattle.nix_scopes.specs.Merged.{is_merged_scope, merged_bindings_at}

-- the place outside all nodes
abbrev pub nowhere : Place
nowhere = record { inside = 0; outside = 0; is_below_with = false }

-- the place of the node with a number, where the first has another number
abbrev pub place_at : List (Option Place) → ℕ → ℕ → Option Place
place_at places first number = if nat_le first number then unwrap_or (slice_get places (number - first)) None else None

-- the same, if the number is below a limit
abbrev pub place_before : List (Option Place) → ℕ → ℕ → ℕ → Option Place
place_before places first limit number = if nat_lt number limit then place_at places first number else None

-- the place of the node around a node
abbrev pub place_around : List (Option Place) → ℕ → Located → Located → Place
place_around places first root e =
    unwrap_or (option_and_then (λ parent. place_before places first e.number (number_around root parent e)) (parent_of e)) nowhere

-- the place of a node, given that around it and the map inside it
abbrev pub place_inside : Located → Place → ℕ → Place
place_inside e around inside =
    record { inside = inside; outside = around.inside; is_below_with = is_with_body e || around.is_below_with }

-- the number that a name has in a scope whose numbers begin with `first`
abbrev pub own_if : ℕ → Option ℕ → Option ℕ
own_if first None = None
own_if first (Some own) = if nat_le first own then Some own else None

-- the map has the innermost bindings of all names in these scopes
pub record Sees (bindings : List Bound) (maps : NameMaps) (map : ℕ) (scopes : List Located) : Type 0 where
  pub is_map : IsNameMap maps map
  pub names : (text : List ℕ) → number_in_map maps map text ≡ innermost bindings text scopes

-- the place is that of a node inside these nodes, where nodes of a root are scopes by Nix's rules
pub record IsPlace (root : Located) (bindings : List Bound) (maps : NameMaps) (place : Place) (nodes : List Located) : Type 0 where
  pub inside : Sees bindings maps place.inside (filter (is_merged_scope root) nodes)
  pub outside : Sees bindings maps place.outside (filter (is_merged_scope root) (drop 1 nodes))
  pub below : place.is_below_with ≡ list_any is_with_body nodes

-- the place is that of the element with a number; tokens have none
abbrev pub IsPlaceOf : Located → List Bound → NameMaps → Option Place → ℕ → Type 0
IsPlaceOf root bindings maps None number = (item root.tree number).is_node ≡ false
IsPlaceOf root bindings maps (Some place) number =
    ((item root.tree number).is_node ≡ true) × IsPlace root bindings maps place (merged_around root record { tree = root.tree; number = number })

-- the places of the elements from the root's number up to another one
pub record ArePlaces (root : Located) (bindings : List Bound) (maps : NameMaps) (places : List (Option Place)) (number : ℕ) : Type 0 where
  pub count : root.number + length places ≡ number
  pub are : (n : ℕ) → root.number ≤ n → n < number → IsPlaceOf root bindings maps (place_at places root.number n) n

-- a scope binds its names one by one: those bound so far have their numbers in the scope, and the others have their numbers outside it
pub record IsOpening (outer : List ℕ → Option ℕ) (bindings : List Bound) (maps : NameMaps) (map first : ℕ) (scope : Located) : Type 0 where
  pub keys : HaveKeys maps
  pub is_map : IsNameMap maps map
  pub names : (text : List ℕ) → number_in_map maps map text ≡ option_or (number_in bindings text scope) (outer text)
  pub before : (text : List ℕ) (number : ℕ) → outer text ≡ Some number → number < first
  pub within : (text : List ℕ) (number : ℕ) → number_in bindings text scope ≡ Some number → (first ≤ number) × (number < length bindings)
  pub few : first ≤ length bindings

-- a scope that was binding its names is still binding them, with another map and more bindings
abbrev pub KeepsOpening : List Binding → List Binding → NameMaps → NameMaps → ℕ → ℕ → ℕ → Located → Type 0
KeepsOpening bindings more old new own made first scope = (outer : List ℕ → Option ℕ) →
    IsOpening outer (map bound_of bindings) old own first scope → IsOpening outer (map bound_of more) new made first scope

-- the bindings that a scope adds while it is binding its names know the first of their name
abbrev pub KeepsFirsts : List Binding → List Binding → NameMaps → ℕ → ℕ → Located → Type 0
KeepsFirsts bindings more old own first scope = (outer : List ℕ → Option ℕ) →
    IsOpening outer (map bound_of bindings) old own first scope → AreFirst bindings → AreFirst more

-- all maps are as they were
pub record KeepsMaps (old new : NameMaps) : Type 0 where
  pub keys : HaveKeys old → HaveKeys new
  pub maps : HaveKeys old → (map : ℕ) → IsNameMap old map →
      IsNameMap new map × ((text : List ℕ) → number_in_map new map text ≡ number_in_map old map text)

-- entering a node binds its names, if it is a scope; the new map has those in scope inside the node, if the old one has those around it
pub record EntersScope (root e : Located) (around made : ℕ) (old new : NameMaps) (bindings more : List Binding) : Type 0 where
  pub bound : map bound_of more ≡ map bound_of bindings ++ merged_bindings_at root e
  pub kept : KeepsMaps old new
  pub sees : HaveKeys old → (scopes : List Located) → All (λ (b : Bound). b.scope.number < e.number) (map bound_of bindings) →
      All (λ (scope : Located). scope.number < e.number) scopes → Sees (map bound_of bindings) old around scopes →
      Sees (map bound_of more) new made (if is_merged_scope root e then e ∷ scopes else scopes)
  pub firsts : HaveKeys old → (scopes : List Located) → All (λ (b : Bound). b.scope.number < e.number) (map bound_of bindings) →
      All (λ (scope : Located). scope.number < e.number) scopes → Sees (map bound_of bindings) old around scopes → AreFirst bindings → AreFirst more

-- what a name refers to, looked up in a map
abbrev pub referring_at : NameMaps → ℕ → Bool → Bool → Named → Resolved
referring_at maps map is_below_with is_inherited name = resolved is_inherited is_below_with (number_in_map maps map name.text) name

-- what a name of a node refers to: an inherited one is looked up outside the node around it
abbrev pub referring_of : NameMaps → Place → Place → Located → Named → Resolved
referring_of maps around place e name =
    if same_kind k.NODE_INHERIT (item_of e).kind then referring_at maps around.outside place.is_below_with true name
    else referring_at maps place.inside place.is_below_with false name
