-- The state while a text is resolved: the numbers of the names in scope, and what the open scopes shadow.
use Rattle.std.specs.Prelude.{◌≡◌, ℕ, ◌+◌, ◌<◌, ◌≤◌, ◌==◌, ◌⊎◌, nat_le, nat_lt, Bool, false, not, List, [], ◌∷◌, ◌++◌, map, length, get_or, slice_get}
use Rattle.std.specs.Prelude.{Option, Some, None, IsSome, option_map, ◌-◌, ◌*◌, if◌then◌else◌}
use Rattle.std.specs.List.{All}
use Rattle.std.specs.Option.{option_or}
use Rattle.std.specs.Str.{bytes_eq}
use Rattle.std.specs.Int.{w32, from_be_bytes}
use Rattle.std.specs.BTreeMap.{BTreeMap, get_by}
use Rattle.std.specs.Ordering.{nat_cmp, ordering_then}
use Rattle.std.specs.declared.cmp.Ordering.{Ordering}
use Rattle.std.specs.Cmp.Lexicographic.{slice_cmp}
use Rattle.rnix_green.specs.Tree.{Located, item_of}
use Rattle.rnix_green.specs.Relatives.{parent_of}
use Rattle.rnix_tree.specs.InsideCounts.{inside_count}
use Rattle.rnix_kinds.specs.declared.kinds.SyntaxKind.TheVariants as k
use Rattle.rnix_green.specs.Equality.{same_kind}
use Rattle.nix_scopes.specs.declared.name_text.NameText.{NameText}
use Rattle.nix_scopes.specs.NameTexts.{name_bytes}
use Rattle.nix_scopes.specs.declared.symbols.Scope.{Scope}
use Rattle.nix_scopes.specs.declared.symbols.SymbolTable.{SymbolTable}
use Rattle.nix_scopes.specs.declared.environment.Environment.{Environment}
use Rattle.nix_scopes.specs.declared.resolution.Binding.{Binding}
use Rattle.nix_scopes.specs.Names.{Named}
use Rattle.nix_scopes.specs.Binders.{is_scope, is_binder}
use Rattle.nix_scopes.specs.Scopes.{Bound, Resolved, resolved, number_in, innermost}
use Rattle.nix_scopes.specs.Bound.{bound_of, AreFirst}

-- the number that the first four bytes of a name make; a missing byte counts as 0
abbrev pub first_four : List ℕ → ℕ
first_four text = from_be_bytes w32 (get_or text 0 0 ∷ get_or text 1 0 ∷ get_or text 2 0 ∷ get_or text 3 0 ∷ [])

-- the number that the last four bytes of a name make; in a shorter name, the first byte is repeated
abbrev pub last_four : List ℕ → ℕ
last_four text =
    let end : ℕ = length text in
    from_be_bytes w32 (get_or text (end - 4) 0 ∷ get_or text (end - 3) 0 ∷ get_or text (end - 2) 0 ∷ get_or text (end - 1) 0 ∷ [])

-- the number that the last and the first four bytes of a name make
abbrev pub fingerprint_of : List ℕ → ℕ
fingerprint_of text = last_four text * 4294967296 + first_four text

-- a key: the fingerprint of a name, and the name
abbrev pub Key : Type 0
Key = ℕ × NameText

-- the key is that of the name
abbrev pub IsKeyOf : List ℕ → Key → Type 0
IsKeyOf text key = (key.0 ≡ fingerprint_of text) × (name_bytes key.1 ≡ text)

-- the order of a name and a key
abbrev pub compare_key : List ℕ → Key → Ordering
compare_key text key = ordering_then (nat_cmp (fingerprint_of text) key.0) (slice_cmp nat_cmp text (name_bytes key.1))

-- the numbers of the names in scope
abbrev pub Numbers : Type 0
Numbers = BTreeMap Key ℕ

-- the number of a name
abbrev pub number_by : Numbers → List ℕ → Option ℕ
number_by numbers text = get_by (compare_key text) numbers

-- the number that the name of a binding has outside its scope
abbrev pub shadowed_by : List (Option ℕ) → ℕ → Option ℕ
shadowed_by shadowed number = get_or shadowed number None

-- the number of a name outside a scope whose numbers begin with `first`, given its number inside
abbrev pub outside_of : Option ℕ → ℕ → List (Option ℕ) → Option ℕ
outside_of None first shadowed = None
outside_of (Some own) first shadowed = if nat_le first own then shadowed_by shadowed own else Some own

-- the number that a name already has in a scope whose numbers begin with `first`, or else a new one
abbrev pub own_of : Option ℕ → ℕ → ℕ → ℕ
own_of None first number = number
own_of (Some own) first number = if nat_le first own then own else number

-- the list has grown, and its old elements are unchanged
pub record IsLonger (shadowed more : List (Option ℕ)) : Type 0 where
  pub longer : length shadowed ≤ length more
  pub same : (number : ℕ) → number < length shadowed → shadowed_by more number ≡ shadowed_by shadowed number

-- the bindings from `first` to `end`, exclusive, are those of a scope, and `shadowed` contains the numbers of their names outside it
pub record IsOpen (outer : List ℕ → Option ℕ) (bindings : List Bound) (shadowed : List (Option ℕ)) (first end : ℕ) (scope : Located) : Type 0 where
  pub bounds : (first ≤ end) × (end ≤ length bindings) × (end ≤ length shadowed)
  pub before : (text : List ℕ) → (number : ℕ) → outer text ≡ Some number → number < first
  pub inside : (text : List ℕ) → (number : ℕ) → number_in bindings text scope ≡ Some number → (first ≤ number) × (number < end)
  pub own : (number : ℕ) → (b : Bound) → first ≤ number → number < end → slice_get bindings number ≡ Some b → b.scope.number ≡ scope.number
  pub shadows : (number : ℕ) → (b : Bound) → first ≤ number → number < end → slice_get bindings number ≡ Some b → shadowed_by shadowed number ≡ outer b.text

-- a scope binds its names one by one: those bound so far have their numbers in the scope, and the others have their numbers outside it
pub record IsBinding (outer : List ℕ → Option ℕ) (bindings : List Bound) (numbers : Numbers) (shadowed : List (Option ℕ)) (first : ℕ)
    (scope : Located) : Type 0 where
  pub names_in_scope : (text : List ℕ) → number_by numbers text ≡ option_or (number_in bindings text scope) (outer text)
  pub count : length shadowed ≡ length bindings
  pub is_open : IsOpen outer bindings shadowed first (length bindings) scope

-- the names of a scope are in scope, and shadow the numbers that they have outside it
pub record IsShadowed (outer : List ℕ → Option ℕ) (bindings : List Bound) (numbers : Numbers) (shadowed : List (Option ℕ)) (own : Scope)
    : Type 0 where
  pub shadows : (number : ℕ) → (b : Bound) → own.first ≤ number → number < own.end → slice_get bindings number ≡ Some b →
      shadowed_by shadowed number ≡ outer b.text
  pub names_in_scope : (number : ℕ) → (b : Bound) → own.first ≤ number → number < own.end → slice_get bindings number ≡ Some b →
      IsSome (number_by numbers b.text)

-- a name has its number outside a scope again, or no binding from `first` to `end`, exclusive, shadows it and its number is unchanged
abbrev pub IsRestored : (List ℕ → Option ℕ) → List Bound → ℕ → ℕ → Numbers → Numbers → List ℕ → Type 0
IsRestored outer bindings first end old new text =
    (number_by new text ≡ outer text)
    ⊎ ((number_by new text ≡ number_by old text)
    × ((number : ℕ) → (b : Bound) → first ≤ number → number < end → slice_get bindings number ≡ Some b → bytes_eq b.text text ≡ false))

-- these are the bindings of the open scopes, innermost last, and each scope shadows the numbers that its names have outside it
abbrev pub AreOpen : List Bound → List (Option ℕ) → List Scope → List Located → Type 0
AreOpen bindings shadowed owns [] = owns ≡ []
AreOpen bindings shadowed owns (scope ∷ outer) =
    (own : Scope) × (below : List Scope) × (owns ≡ below ++ own ∷ [])
    × IsOpen (λ text. innermost bindings text outer) bindings shadowed own.first own.end scope × AreOpen bindings shadowed below outer

-- the names that these scopes bind are in scope; these scopes, and those of all bindings found so far, have numbers below n; and each binding
-- has the number of the first one of its name
pub record IsSymbolTable (bindings : List Binding) (symbols : SymbolTable) (n : ℕ) (scopes : List Located) : Type 0 where
  pub behind : All (λ (b : Bound). b.scope.number < n) (map bound_of bindings)
  pub around : All (λ (scope : Located). scope.number < n) scopes
  pub count : length symbols.shadowed.items ≡ length bindings
  pub names_in_scope : (text : List ℕ) → number_by symbols.numbers text ≡ innermost (map bound_of bindings) text scopes
  pub are_open : AreOpen (map bound_of bindings) symbols.shadowed.items symbols.scopes.items scopes
  pub firsts : AreFirst bindings

-- the number of the last element inside an element, or the element's own number if nothing is inside
abbrev pub last_in : Located → ℕ
last_in e = e.number + inside_count e

-- the number of elements inside the root that follow an element and its descendants
abbrev pub count_after : Located → Located → ℕ
count_after root e = last_in root - last_in e

-- the number of elements that follow each of these elements, in reverse order
abbrev pub counts_after : Located → List Located → List ℕ
counts_after root [] = []
counts_after root (e ∷ es) = counts_after root es ++ count_after root e ∷ []

-- whether a count is given and is greater than the number of remaining elements
abbrev pub is_more : ℕ → Option ℕ → Bool
is_more remaining None = false
is_more remaining (Some behind) = nat_lt remaining behind

-- whether the last of these counts is greater than the number of remaining elements
abbrev pub has_ended : ℕ → List ℕ → Bool
has_ended remaining ends = is_more remaining (slice_get ends (length ends - 1))

-- these elements without the first ones that have ended: more elements follow those than remain
abbrev pub still_open : Located → ℕ → List Located → List Located
still_open root remaining [] = []
still_open root remaining (e ∷ es) = if nat_lt remaining (count_after root e) then still_open root remaining es else e ∷ es

-- the names that these scopes bind are in scope, and these are the ends of the scopes
abbrev pub HasScopes : Located → List Binding → SymbolTable → List ℕ → ℕ → List Located → Type 0
HasScopes root bindings symbols ends n scopes = IsSymbolTable bindings symbols n scopes × (ends ≡ counts_after root scopes)

-- whether a node is an attribute set
abbrev pub is_set : Located → Bool
is_set e = same_kind k.NODE_ATTR_SET (item_of e).kind

-- whether each of these nodes is a scope, in reverse order
abbrev pub which_are_scopes : List Located → List Bool
which_are_scopes [] = []
which_are_scopes (e ∷ es) = which_are_scopes es ++ is_scope e ∷ []

-- these are the ends of these attribute sets, and the flags say which of the sets are scopes
abbrev pub HasSets : Located → List ℕ → List Bool → List Located → Type 0
HasSets root ends are_scopes sets = (are_scopes ≡ which_are_scopes sets) × (ends ≡ counts_after root sets)

-- the environment describes a position inside these scopes, bodies of `with` and attribute sets
pub record IsEnvironment (root : Located) (bindings : List Binding) (around : Environment) (n : ℕ) (scopes bodies sets : List Located) : Type 0 where
  pub has_scopes : HasScopes root bindings around.symbols around.scope_ends.items n scopes
  pub has_bodies : around.body_ends.items ≡ counts_after root bodies
  pub has_sets : HasSets root around.set_ends.items around.set_scopes.items sets

-- after leaving the scopes, bodies of `with` and attribute sets that end before an element, which `remaining` more follow, the environment describes
-- those that are still open
abbrev pub LeavesEnded : ℕ → List Binding → Environment → Environment → Type 0
LeavesEnded remaining bindings old new =
    (root : Located) → (n : ℕ) → (scopes bodies sets : List Located) → IsEnvironment root bindings old n scopes bodies sets →
    IsEnvironment root bindings new n (still_open root remaining scopes) (still_open root remaining bodies) (still_open root remaining sets)

-- the number of the first binding of the last of these scopes
abbrev pub first_of : List Scope → Option ℕ
first_of owns = option_map (λ own. own.first) (slice_get owns (length owns - 1))

-- the number of a name outside the innermost scope, or its number if no scope is open
abbrev pub outer_by : Option ℕ → Option ℕ → List (Option ℕ) → Option ℕ
outer_by None number shadowed = number
outer_by (Some first) number shadowed = outside_of number first shadowed

-- the number of a name outside the innermost scope
abbrev pub outer_number : SymbolTable → List ℕ → Option ℕ
outer_number symbols text = outer_by (first_of symbols.scopes.items) (number_by symbols.numbers text) symbols.shadowed.items

-- whether a node is a scope, where the last flag says whether the innermost attribute set is one
abbrev pub is_scope_around : List Bool → Located → Bool
is_scope_around are_scopes parent = if is_set parent then get_or are_scopes (length are_scopes - 1) false else is_binder (item_of parent).kind

-- whether the parent is a scope
abbrev pub is_in_scope : Environment → Option Located → Bool
is_in_scope around None = false
is_in_scope around (Some parent) = is_scope_around around.set_scopes.items parent

-- the number of a name, outside the innermost scope or in all scopes
abbrev pub number_in_scope : SymbolTable → Bool → List ℕ → Option ℕ
number_in_scope symbols is_outer text = if is_outer then outer_number symbols text else number_by symbols.numbers text

-- a name that refers to the binding with a number, or to none
abbrev pub referring : Environment → Option ℕ → Bool → Named → Resolved
referring around binding is_inherited name = resolved is_inherited (not (length around.body_ends.items == 0)) binding name

-- what a name refers to, looked up outside the innermost scope or in all scopes
abbrev pub resolve_name : Environment → Bool → Bool → Named → Resolved
resolve_name around is_outer is_inherited name = referring around (number_in_scope around.symbols is_outer name.text) is_inherited name

-- whether the names of a node are looked up outside the innermost scope: those of an `inherit` are, if its parent is a scope
abbrev pub is_from_outside : Environment → Located → Bool
is_from_outside around e = if same_kind k.NODE_INHERIT (item_of e).kind then is_in_scope around (parent_of e) else false

-- what a reference of a node refers to
abbrev pub resolve_at : Environment → Located → Named → Resolved
resolve_at around e name = resolve_name around (is_from_outside around e) (same_kind k.NODE_INHERIT (item_of e).kind) name
