-- Names that are added one after another to the sets to which they belong.
use Rattle.std.proofs.Common.{◌≡◌, ◌∙◌, ℕ, List, [], ◌∷◌, ◌++◌, map, Bool, true, false, Option, Some, None, refl, ap, sym, subst, arith, append_assoc, append-nil}
use Rattle.std.proofs.lemmas.Bool.{Decides.nat_tests}
use Rattle.std.specs.Prelude.{◌==◌, ◌&&◌, not, flat_map, if◌then◌else◌}
use Rattle.rnix_green.specs.Tree.{Located}
use Rattle.nix_attributes.specs.Repeated.{home_in}
use Rattle.nix_scopes.specs.declared.added.Added.{Added}
use Rattle.std.specs.{BTreeMap.is_at, Map.lookup, Ordering.nat_cmp}
use Rattle.nix_scopes.specs.AddedNames.{names_in_list, names_for, AddsOwned}
use Rattle.nix_scopes.specs.Merged.{Owned, added_if}
use Rattle.nix_scopes.specs.Names.{Named, named_if}

-- what is made of two lists is made of each
flat_both : {X Y : Type 0} (f : X → List Y) (xs ys : List X) → flat_map f (xs ++ ys) ≡ flat_map f xs ++ flat_map f ys
flat_both f [] ys = refl
flat_both f (x ∷ xs) ys = ap (λ zs. f x ++ zs) (flat_both f xs ys) ∙ sym (append_assoc (f x) (flat_map f xs) (flat_map f ys))

-- adding no names
pub adds_nothing : (root : Located) (added : Added) (owned : List Owned) → owned ≡ [] → AddsOwned root added added owned
adds_nothing root added owned none set =
    sym (ap (λ os. names_for added set ++ flat_map (added_if root set) os) none ∙ append-nil (names_for added set))

-- adding names, and then others
adds_both : (root : Located) (old mid new : Added) (owned more : List Owned) → AddsOwned root old mid owned → AddsOwned root mid new more →
    AddsOwned root old new (owned ++ more)
adds_both root old mid new owned more one two set =
    two set ∙ ap (λ names. names ++ flat_map (added_if root set) more) (one set)
    ∙ append_assoc (names_for old set) (flat_map (added_if root set) owned) (flat_map (added_if root set) more)
    ∙ ap (λ names. names_for old set ++ names) (sym (flat_both (added_if root set) owned more))

-- some of all names have been added, and others remain
pub record AddsMost (root : Located) (old new : Added) (remaining all : List Owned) : Type 0 where
  pub done : List Owned
  pub are : AddsOwned root old new done
  pub whole : done ++ remaining ≡ all

pub most_begun : (root : Located) (added : Added) (remaining all : List Owned) → remaining ≡ all → AddsMost root added added remaining all
most_begun root added remaining all is = record { done = []; are = adds_nothing root added [] refl; whole = is }

pub most_next : (root : Located) (old mid new : Added) (remaining owned after all : List Owned) → AddsMost root old mid remaining all →
    remaining ≡ owned ++ after → AddsOwned root mid new owned → AddsMost root old new after all
most_next root old mid new remaining owned after all some first more = record {
  done = some.done ++ owned;
  are = adds_both root old mid new some.done owned some.are more;
  whole = append_assoc some.done owned after ∙ ap (λ rest. some.done ++ rest) (sym first) ∙ some.whole;
}

pub most_all : (root : Located) (old new : Added) (remaining all : List Owned) → AddsMost root old new remaining all → remaining ≡ [] →
    AddsOwned root old new all
most_all root old new remaining all some none =
    subst (AddsOwned root old new) (sym (append-nil some.done) ∙ ap (λ rest. some.done ++ rest) (sym none) ∙ some.whole) some.are

-- the names of an owner that is its own home are added to no set
pub none_added : (root : Located) (added : Added) (owner : ℕ) (attr : Located) (text : Option (List ℕ)) → home_in root owner ≡ owner →
    AddsOwned root added added (map (λ name. (owner, name)) (named_if attr text))
none_added root added owner attr None own set = adds_nothing root added [] refl set
none_added root added owner attr (Some text) own set =
    sym (ap (λ names. names_for added set ++ (names ++ [])) (nothing (home_in root owner == set) (owner == set)
    record { text = text; node = attr } (ap (λ h. h == set) own))
    ∙ append-nil (names_for added set))
  where
    nothing : (a b : Bool) (name : Named) → a ≡ b → (if a && not b then name ∷ [] else []) ≡ []
    nothing true true name is = refl
    nothing false b name is = refl
    nothing true false name is = absurd (cc)

-- the name of an owner that has another home is added to this home
pub one_added : (root : Located) (old new : Added) (owner home : ℕ) (name : Named) → home ≡ home_in root owner → (home == owner) ≡ false →
    ((other : ℕ) → names_for new other ≡ names_for old other ++ (if home == other then name ∷ [] else [])) → AddsOwned root old new ((owner, name) ∷ [])
one_added root old new owner home name is other adds set =
    adds set
    ∙ ap (λ names. names_for old set ++ names)
    (chosen (home == set) (owner == set) (λ one two. grind (arith, nat_tests, one, two, other))
    ∙ ap (λ h. (if (h == set) && not (owner == set) then name ∷ [] else []) ++ []) is)
  where
    chosen : (a b : Bool) → (a ≡ true → b ≡ true → ⊥) → (if a then name ∷ [] else []) ≡ (if a && not b then name ∷ [] else []) ++ []
    chosen true true both = absurd (both refl refl)
    chosen true false both = refl
    chosen false b both = refl

-- no names are for any set
pub none_for : (added : Added) (set : ℕ) → added.names.entries ≡ [] → names_for added set ≡ []
none_for added set none = ap (λ es. names_in_list (lookup (is_at (nat_cmp set)) es)) none
