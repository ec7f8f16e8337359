-- The unused names of a text: those of `let` and the parameters that nothing refers to.
use Rattle.std.specs.Prelude.{◌≡◌, ℕ, ◌+◌, ◌<◌, ◌==◌, ◌&&◌, ◌||◌, Bool, true, false, not, nat_eq, List, [], ◌∷◌, ◌++◌, length, map, get_or, set, codes, Option, Some, None, if◌then◌else◌}
use Rattle.std.specs.List.{list_any, starts_with}
use Rattle.std.specs.Ordering.{nat_cmp}
use Rattle.std.specs.Str.{bytes_eq}
use Rattle.std.specs.BTreeSet.{BTreeSet, contains}
use Rattle.std.specs.Cow.{cow_str_bytes}
use Rattle.rnix_kinds.specs.declared.kinds.SyntaxKind.TheVariants as k
use Rattle.rnix_green.specs.Equality.{same_kind}
use Rattle.rnix_green.specs.Tree.{Located, item_of, extent_of}
use Rattle.rnix_green.specs.Relatives.{parent_of}
use Rattle.nix_scopes.specs.declared.resolution.Binding.{Binding}
use Rattle.nix_scopes.specs.declared.resolution.Reference.{Reference}
use Rattle.nix_scopes.specs.declared.resolution.Resolution.{Resolution}
use Rattle.nix_scopes.specs.Bound.{bound_of, resolved_of, bindings_of, references_of, AreFirst}
use Rattle.nix_scopes.specs.Occurrences.{is_number}
use Rattle.nix_scopes.specs.Resolved.{bindings_in, resolved_in}
use Rattle.nix_scopes.specs.Scopes.{Bound, Resolved, number_in}
use Rattle.nix_diagnostics.specs.declared.code.Code.TheVariants as code
use Rattle.nix_lints.specs.declared.unused.UnusedName.{UnusedName}
use Rattle.nix_lints.specs.Found.{Found, found_at}

-- whether a name is marked as unused on purpose: it starts with `_`
abbrev pub is_ignored : List ℕ → Bool
is_ignored text = starts_with nat_eq text (codes "_")

-- whether a binding is the value of a legacy `let`
abbrev pub is_body : Bound → Bool
is_body bound = same_kind (item_of bound.scope).kind k.NODE_LEGACY_LET && bytes_eq bound.text (codes "body")

-- whether a binding is reported if it is not used: it is not an attribute of a set, the value of a legacy `let`, or marked as unused on purpose
abbrev pub is_reportable : Bound → Bool
is_reportable bound = not (same_kind (item_of bound.scope).kind k.NODE_ATTR_SET) && (not (is_body bound) && not (is_ignored bound.text))

-- whether a reference refers to the binding with a number
abbrev pub refers : ℕ → Resolved → Bool
refers number name = is_number number name.binding

-- whether a node with this parent names a whole pattern, as `args` does in `args@{ a }`
abbrev pub names_pattern : Option Located → Bool
names_pattern None = false
names_pattern (Some parent) = same_kind (item_of parent).kind k.NODE_PAT_BIND

-- whether a binding is the name of a whole pattern
abbrev pub is_pattern_name : Bound → Bool
is_pattern_name bound = names_pattern (parent_of bound.node)

-- where the scope of a binding starts
abbrev pub scope_start : Bound → ℕ
scope_start bound = (extent_of bound.scope).start

-- whether a binding is the name of the whole pattern of the function that starts at an offset, and is referred to
abbrev pub is_used_pattern_name : List Resolved → ℕ → ℕ → Bound → Bool
is_used_pattern_name names start number bound = list_any (refers number) names && (is_pattern_name bound && (start == scope_start bound))

-- whether one of these bindings, numbered from `number` on, is such a name: through it, each argument of the function may be used
abbrev pub has_used_pattern_name : List Resolved → ℕ → ℕ → List Bound → Bool
has_used_pattern_name names start number [] = false
has_used_pattern_name names start number (bound ∷ more) = is_used_pattern_name names start number bound || has_used_pattern_name names start (number + 1) more

-- whether a binding is used: it is referred to, or it may be through the name of its whole pattern
abbrev pub is_used : List Bound → List Resolved → ℕ → Bound → Bool
is_used bindings names number bound = list_any (refers number) names || has_used_pattern_name names (scope_start bound) 0 bindings

-- whether a binding is unused: it is the first of its name in its scope, should be reported, and is not used
abbrev pub is_unused : List Bound → List Resolved → ℕ → Bound → Bool
is_unused bindings names number bound =
    is_number number (number_in bindings bound.text bound.scope) && (is_reportable bound && not (is_used bindings names number bound))

-- a name and the node that writes it
abbrev pub Written : Type 0
Written = List ℕ × Located

-- the name that a binding writes
abbrev pub written : Bound → Written
written bound = (bound.text, bound.node)

-- the unused ones among these bindings, numbered from `number` on
abbrev pub unused_from : List Bound → List Resolved → ℕ → List Bound → List Written
unused_from bindings names number [] = []
unused_from bindings names number (bound ∷ more) =
    (if is_unused bindings names number bound then written bound ∷ [] else []) ++ unused_from bindings names (number + 1) more

-- the unused names of a text
abbrev pub unused_in : Located → List Written
unused_in root = unused_from (bindings_in root) (resolved_in root) 0 (bindings_in root)

-- a name of the program
abbrev pub written_name : UnusedName → Written
written_name name = (cow_str_bytes name.text, name.node)

-- the finding on an unused name
abbrev pub unused_found : Written → Found
unused_found name = found_at code.UnusedName name.1

-- these are the bindings and the references of a text
pub record Resolves (root : Located) (names : Resolution) : Type 0 where
  pub bindings : map bound_of (bindings_of names) ≡ bindings_in root
  pub firsts : AreFirst (bindings_of names)
  pub resolved : map resolved_of (references_of names) ≡ resolved_in root

-- the marks, with that of the given number set, if there is one
abbrev pub marked : List Bool → ℕ → List Bool
marked marks number = set marks number true

-- there are `count` marks, and each says whether a reference refers to the binding with its number
pub record AreMarked (count : ℕ) (references : List Reference) (marks : List Bool) : Type 0 where
  pub count_is : length marks ≡ count
  pub marks_are : (number : ℕ) (d : Bool) → number < count → get_or marks number d ≡ list_any (refers number) (map resolved_of references)

-- whether a binding is marked and is the name of the whole pattern of the function that starts at an offset
abbrev pub is_marked_pattern_name : List Bool → ℕ → ℕ → Binding → Bool
is_marked_pattern_name marks start number binding =
    get_or marks number false && (is_pattern_name (bound_of binding) && (start == scope_start (bound_of binding)))

-- whether one of these bindings, numbered from `number` on, is such a name
abbrev pub has_marked_pattern_name : List Bool → ℕ → ℕ → List Binding → Bool
has_marked_pattern_name marks start number [] = false
has_marked_pattern_name marks start number (binding ∷ more) =
    is_marked_pattern_name marks start number binding || has_marked_pattern_name marks start (number + 1) more

-- whether an offset is in a set
abbrev pub has_offset : BTreeSet ℕ → ℕ → Bool
has_offset offsets start = contains nat_cmp offsets start

-- a binding, if it is the first of its name, should be reported, is not marked, and its scope does not start at one of the offsets
abbrev pub unmarked : List Bool → BTreeSet ℕ → ℕ → Binding → List Written
unmarked marks patterns number binding =
    if nat_eq binding.first number
    && (is_reportable (bound_of binding) && not (get_or marks number true || has_offset patterns (scope_start (bound_of binding))))
    then written (bound_of binding) ∷ [] else []

-- the bindings for which this holds, numbered from `number` on
abbrev pub unmarked_from : List Bool → BTreeSet ℕ → ℕ → List Binding → List Written
unmarked_from marks patterns number [] = []
unmarked_from marks patterns number (binding ∷ more) = unmarked marks patterns number binding ++ unmarked_from marks patterns (number + 1) more
