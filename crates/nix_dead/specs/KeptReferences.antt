-- When the names that are left after some removals mean the same as before.
use Rattle.std.specs.Prelude.{◌≡◌, ℕ, ◌+◌, ◌&&◌, nat_lt, nat_le, not, Bool, true, false, List, [], ◌∷◌, codes, Option, Some, None, slice_get, if◌then◌else◌}
use Rattle.std.specs.Bool.{beq}
use Rattle.std.specs.List.{list_any}
use Rattle.std.specs.Cow.{cow_str_bytes}
use Rattle.std.specs.Str.{bytes_eq}
use Rattle.rnix_green.specs.Tree.{Located}
use Rattle.rnix_text.specs.Changes.{Change}
use Rattle.nix_scopes.specs.declared.resolution.Binding.{Binding}
use Rattle.nix_scopes.specs.declared.resolution.Reference.{Reference}
use Rattle.nix_scopes.specs.declared.resolution.Resolution.{Resolution}
use Rattle.nix_scopes.specs.Alike.{IsResolution}
use Rattle.nix_scopes.specs.Bound.{bindings_of, references_of}
use Rattle.nix_scopes.specs.Occurrences.{is_number}
use Rattle.nix_dead.specs.Removal.{change_of, start_at}
use Rattle.nix_dead.specs.declared.removal.Removal.{Removal}

-- a change removes what begins at an offset; a name that is called `_` stays
abbrev pub removes : ℕ → Change → Bool
removes offset change = not (bytes_eq change.new (codes "_")) && (nat_le change.start offset && nat_lt offset change.end)

-- one of some removals removes what begins at an offset
abbrev pub is_removed : List Removal → ℕ → Bool
is_removed removals offset = list_any (λ removal. removes offset (change_of removal)) removals

-- the number of each binding among those that are left, if it is left; `next` is the number of the first one that is left
abbrev pub moved_numbers : List Removal → ℕ → List Binding → List (Option ℕ)
moved_numbers removals next [] = []
moved_numbers removals next (binding ∷ more) =
    if is_removed removals (start_at binding.node) then None ∷ moved_numbers removals next more else Some next ∷ moved_numbers removals (next + 1) more

-- the new number of the binding with a number, if it is left
abbrev pub number_in : Option (Option ℕ) → Option ℕ
number_in None = None
number_in (Some moved) = moved

abbrev pub number_at : List (Option ℕ) → ℕ → Option ℕ
number_at numbers number = number_in (slice_get numbers number)

-- the binding with the first number is the one that has the second number among those that are left; or there is none
abbrev pub same_number : List (Option ℕ) → Option ℕ → Option ℕ → Bool
same_number numbers None None = true
same_number numbers (Some old) (Some new) = is_number new (number_at numbers old)
same_number numbers None (Some new) = false
same_number numbers (Some old) None = false

-- two references have the same name, which means the same
abbrev pub same_reference : List (Option ℕ) → Reference → Reference → Bool
same_reference numbers old new =
    bytes_eq (cow_str_bytes old.text) (cow_str_bytes new.text)
    && (beq old.is_inherited new.is_inherited && (beq old.is_open new.is_open && same_number numbers old.binding new.binding))

-- the references that are left are the new ones, one for one, and each means the same; `more` compares those after the next one
abbrev pub is_next_alike : List (Option ℕ) → Reference → (List Reference → Bool) → List Reference → Bool
is_next_alike numbers old more [] = false
is_next_alike numbers old more (new ∷ news) = same_reference numbers old new && more news

abbrev pub is_nothing : List Reference → Bool
is_nothing [] = true
is_nothing (new ∷ news) = false

abbrev pub are_alike : List Removal → List (Option ℕ) → List Reference → List Reference → Bool
are_alike removals numbers [] news = is_nothing news
are_alike removals numbers (old ∷ olds) news =
    if is_removed removals (start_at old.node) then are_alike removals numbers olds news
    else is_next_alike numbers old (are_alike removals numbers olds) news

-- whether the names that are left after some removals mean the same in the new text, which has this root
pub record IsCompared (names : Resolution) (removals : List Removal) (root : Located) (is_kept : Bool) : Type 0 where
  pub others : Resolution
  pub found : IsResolution root others
  pub is : is_kept ≡ are_alike removals (moved_numbers removals 0 (bindings_of names)) (references_of names) (references_of others)
