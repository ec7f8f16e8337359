-- When the names in a text mean the same in another text that lacks one of its entries.
use Rattle.std.specs.Prelude.{◌≡◌, ℕ, ◌+◌, ◌-◌, nat_lt, nat_le, ◌||◌, ◌&&◌, bytes_eq, Bool, false, List, Option, Some, None, filter, slice_get, if◌then◌else◌}
use Rattle.std.specs.List.{All, AllZip, list_any}
use Rattle.std.specs.Cow.{cow_str_bytes}
use Rattle.rnix_green.specs.Range.{Extent}
use Rattle.rnix_green.specs.Tree.{Located, item_of}
use Rattle.nix_scopes.specs.declared.resolution.Binding.{Binding}
use Rattle.nix_scopes.specs.declared.resolution.Reference.{Reference}
use Rattle.nix_scopes.specs.declared.resolution.Resolution.{Resolution}
use Rattle.nix_scopes.specs.Alike.{IsResolution}
use Rattle.nix_scopes.specs.Bound.{bindings_of, references_of}
use Rattle.nix_update.specs.declared.meaning.Change.{Change}

-- the offset in the shorter text for an offset of the longer one, unless that is in the entry
abbrev pub shifted : Change → ℕ → Option ℕ
shifted change offset =
    if nat_lt offset change.start then Some offset
    else (if nat_lt offset change.end then None
    else (if nat_le change.longer (offset + change.shorter) then Some (offset + change.shorter - change.longer) else None))

-- where a node begins
abbrev pub start_of : Located → ℕ
start_of e = (item_of e).start

-- whether a reference is outside the entry
abbrev pub is_outside : Change → Reference → Bool
is_outside change reference = nat_lt (start_of reference.node) change.start || nat_le change.end (start_of reference.node)

-- the binding with a number, if there is one
abbrev pub binding_at : Resolution → Option ℕ → Option Binding
binding_at names None = None
binding_at names (Some number) = slice_get (bindings_of names) number

-- two bindings, one of each text, are in the same scope; or neither exists
abbrev pub AreInSameScope : Change → Option Binding → Option Binding → Type 0
AreInSameScope change (Some longer) (Some shorter) = shifted change (start_of longer.scope) ≡ Some (start_of shorter.scope)
AreInSameScope change None None = Unit {0}
AreInSameScope change _ _ = ⊥

-- a reference is the same one in the shorter text: its name is bound in the same scope, or by nothing in the text
pub record IsSameReference (change : Change) (longer shorter : Resolution) (reference other : Reference) : Type 0 where
  pub text : cow_str_bytes reference.text ≡ cow_str_bytes other.text
  pub is_inherited : reference.is_inherited ≡ other.is_inherited
  pub is_open : reference.is_open ≡ other.is_open
  pub scope : AreInSameScope change (binding_at longer reference.binding) (binding_at shorter other.binding)

-- the references outside the entry are those of the shorter text, one for one, and each means the same
abbrev pub HaveSameMeaning : Change → Resolution → Resolution → Type 0
HaveSameMeaning change longer shorter =
    AllZip (IsSameReference change longer shorter) (filter (is_outside change) (references_of longer)) (references_of shorter)

-- whether a reference begins outside a range
abbrev pub begins_outside : Extent → Reference → Bool
begins_outside range reference = nat_lt (start_of reference.node) range.start || nat_le range.end (start_of reference.node)

-- whether a reference outside a range may come from a `with`, and has one of these names
abbrev pub is_open_among : Extent → List (List ℕ) → Reference → Bool
is_open_among range names reference =
    begins_outside range reference && (reference.is_open && list_any (λ name. bytes_eq name (cow_str_bytes reference.text)) names)

-- no reference in a text that begins outside a range and may come from a `with` has one of these names
pub record HasNoOpenName (root : Located) (range : Extent) (names : List (List ℕ)) : Type 0 where
  pub found : Resolution
  pub is_found : IsResolution root found
  pub none : All (λ (reference : Reference). is_open_among range names reference ≡ false) (references_of found)

-- the empty range at the start of a text: all references begin outside it
abbrev pub no_range : Extent
no_range = record { start = 0; end = 0 }
