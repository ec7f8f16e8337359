-- The nodes around a node by Nix's rules, and what a walk knows about them.
use Rattle.std.proofs.Common.{◌≡◌, ◌∙◌, ℕ, zero, suc, ◌+◌, ◌-◌, ◌<◌, ◌≤◌, List, [], ◌∷◌, ◌++◌, Bool, true, false, Option, Some, None, refl, ap, sym, subst, arith}
use Rattle.std.proofs.lemmas.{Bool.{Decides.nat_tests}, Option.none-some, List.{append-nil, Elements.{All-nil, All-cons}}}
use Rattle.std.specs.Prelude.{if◌then◌else◌, ◌&&◌, nat_le, nat_lt, flat_map, option_and_then, option_to_list, unwrap_or, slice_get}
use Rattle.std.specs.List.{All}
use Rattle.rnix_green.specs.Tree.{Located, item, item_of}
use Rattle.rnix_green.specs.Relatives.{parent_of}
use Rattle.nix_scopes.specs.declared.name_maps.NameMaps.{NameMaps}
use Rattle.nix_scopes.specs.declared.places.Place.{Place}
use Rattle.nix_scopes.specs.NameMaps.{number_in_map, IsNameMap}
use Rattle.nix_scopes.specs.Scopes.{Bound}
use Rattle.nix_scopes.specs.Owners.{number_around, around_below, if_before, outer_of, around_from, merged_around}
use Rattle.nix_scopes.specs.NodePlaces.{nowhere, place_at, place_before, place_around, IsPlace, IsPlaceOf, ArePlaces}

-- the outer node begins before the inner one
pub record IsOuter (root e outer : Located) : Type 0 where
  pub tree : outer.tree ≡ e.tree
  pub low : root.number ≤ outer.number
  pub before : outer.number < e.number
  pub is_node : (item_of outer).is_node ≡ true

outer_if : (root e o outer : Located) (a b c : Bool) → nat_le root.number o.number ≡ a → nat_lt o.number e.number ≡ b → (item_of o).is_node ≡ c
    → o.tree ≡ e.tree → (if a && (b && c) then Some o else None) ≡ Some outer → IsOuter root e outer
outer_if root e o outer true true true low before node tree is =
    let same : o ≡ outer = ap (λ x. unwrap_or x o) is in
    subst (IsOuter root e) same record {
      tree = tree;
      low = grind (arith, nat_tests, low);
      before = grind (arith, nat_tests, before);
      is_node = node;
    }
outer_if root e o outer true true false low before node tree is = absurd (none-some outer is)
outer_if root e o outer true false c low before node tree is = absurd (none-some outer is)
outer_if root e o outer false b c low before node tree is = absurd (none-some outer is)

outer_in : (root e outer : Located) (parent : Option Located) →
    option_and_then (λ p. if_before root e (around_below root p e)) parent ≡ Some outer → IsOuter root e outer
outer_in root e outer None is = absurd (none-some outer is)
outer_in root e outer (Some p) is =
    let o = around_below root p e in
    outer_if root e o outer (nat_le root.number o.number) (nat_lt o.number e.number) (item_of o).is_node refl refl refl refl is

pub outer_is : (root e outer : Located) → outer_of root e ≡ Some outer → IsOuter root e outer
outer_is root e outer is = outer_in root e outer (parent_of e) is

-- enough nodes are all nodes
around_enough : (n m : ℕ) (root e : Located) → e.number < n → e.number < m → around_from n root e ≡ around_from m root e
around_enough zero m root e low high = absurd (omega (arith, low))
around_enough (suc n) zero root e low high = absurd (omega (arith, high))
around_enough (suc n) (suc m) root e low high = ap (λ es. e ∷ es) (outer (outer_of root e) refl (λ x one two. around_enough n m root x one two))
  where
    outer : (o : Option Located) → outer_of root e ≡ o →
        ((x : Located) → x.number < n → x.number < m → around_from n root x ≡ around_from m root x) →
        flat_map (around_from n root) (option_to_list o) ≡ flat_map (around_from m root) (option_to_list o)
    outer None is less = refl
    outer (Some x) is less =
        let before = (outer_is root e x is).before in
        ap (λ es. es ++ []) (less x (omega (arith, before, low)) (omega (arith, before, high)))

-- a node with a node around it
pub around_some : (root e outer : Located) → outer_of root e ≡ Some outer → merged_around root e ≡ e ∷ merged_around root outer
around_some root e outer is =
    let h = outer_is root e outer is in
    around_enough (e.number + 1) (suc e.number) root e (omega arith) (omega arith)
    ∙ ap (λ o. e ∷ flat_map (around_from e.number root) (option_to_list o)) is
    ∙ ap (λ es. e ∷ es) (append-nil (around_from e.number root outer)
    ∙ around_enough e.number (outer.number + 1) root outer h.before (omega arith))

-- a node with no node around it
pub around_none : (root e : Located) → outer_of root e ≡ None → merged_around root e ≡ e ∷ []
around_none root e is =
    around_enough (e.number + 1) (suc e.number) root e (omega arith) (omega arith)
    ∙ ap (λ o. e ∷ flat_map (around_from e.number root) (option_to_list o)) is

-- the nodes around a node begin before it
around_below_n : (n count : ℕ) (root e : Located) → e.number < n → All (λ (a : Located). a.number < n) (around_from count root e)
around_below_n n zero root e low = All-nil (λ (a : Located). a.number < n)
around_below_n n (suc count) root e low =
    All-cons (λ (a : Located). a.number < n) e _ low (outer (outer_of root e) refl (λ x l. around_below_n n count root x l))
  where
    outer : (o : Option Located) → outer_of root e ≡ o →
        ((x : Located) → x.number < n → All (λ (a : Located). a.number < n) (around_from count root x)) →
        All (λ (a : Located). a.number < n) (flat_map (around_from count root) (option_to_list o))
    outer None is less = All-nil (λ (a : Located). a.number < n)
    outer (Some x) is less =
        subst (All (λ (a : Located). a.number < n)) (sym (append-nil (around_from count root x)))
        (less x (omega (arith, low, (outer_is root e x is).before)))

pub around_low : (n : ℕ) (root e : Located) → e.number < n → All (λ (a : Located). a.number < n) (merged_around root e)
around_low n root e low = around_below_n n (e.number + 1) root e low

-- the place around a node is that of the nodes around it
pub record IsPlaceAround (root : Located) (bindings : List Bound) (maps : NameMaps) (place : Place) (e : Located) : Type 0 where
  pub rest : List Located
  pub around : merged_around root e ≡ e ∷ rest
  pub place_is : IsPlace root bindings maps place rest
  pub below : All (λ (a : Located). a.number < e.number) rest

-- nothing is in scope outside all nodes
nowhere_is : (root : Located) (bindings : List Bound) (maps : NameMaps) → IsNameMap maps 0 → ((text : List ℕ) → number_in_map maps 0 text ≡ None) →
    IsPlace root bindings maps nowhere []
nowhere_is root bindings maps is none = record {
  inside = record { is_map = is; names = none };
  outside = record { is_map = is; names = none };
  below = refl;
}

module _ (root : Located) (bindings : List Bound) (maps : NameMaps) (places : List (Option Place)) (e : Located) (tree : e.tree ≡ root.tree)
    (high : root.number ≤ e.number) (are : ArePlaces root bindings maps places e.number) (empty : IsNameMap maps 0)
    (none : (text : List ℕ) → number_in_map maps 0 text ≡ None) where
  -- the place of a node that begins before, if it is inside the root
  found_place : (p : Located) (n : ℕ) (a b : Bool) (o : Option Place) → nat_le root.number n ≡ a → nat_lt n e.number ≡ b → n ≡ number_around root p e →
      outer_of root e ≡ (if a && (b && (item e.tree n).is_node) then Some record { tree = e.tree; number = n } else None) →
      (if b then (if a then o else None) else None) ≡ place_before places root.number e.number n → (a ≡ true → b ≡ true → o ≡ place_at places root.number n) →
      IsPlaceAround root bindings maps (unwrap_or (if b then (if a then o else None) else None) nowhere) e
  found_place p n true true (Some place) low before is outer same at =
      let own = subst (λ x. IsPlaceOf root bindings maps x n) (sym (at refl refl))
      (are.are n (grind (arith, nat_tests, low)) (grind (arith, nat_tests, before))) in
      let node : (item e.tree n).is_node ≡ true = ap (λ t. (item t n).is_node) tree ∙ own.0 in
      let x : Located = record { tree = e.tree; number = n } in
      let some : outer_of root e ≡ Some x = outer ∙ ap (λ b. if b then Some x else None) node in
      record {
        rest = merged_around root x;
        around = around_some root e x some;
        place_is = subst (λ t. IsPlace root bindings maps place (merged_around root record { tree = t; number = n })) (sym tree) own.1;
        below = around_low e.number root x (grind (arith, nat_tests, before));
      }
  found_place p n true true None low before is outer same at =
      let own = subst (λ x. IsPlaceOf root bindings maps x n) (sym (at refl refl))
      (are.are n (grind (arith, nat_tests, low)) (grind (arith, nat_tests, before))) in
      let token : (item e.tree n).is_node ≡ false = ap (λ t. (item t n).is_node) tree ∙ own in
      alone (outer ∙ ap (λ b. if b then Some record { tree = e.tree; number = n } else None) token)
    where
      alone : outer_of root e ≡ None → IsPlaceAround root bindings maps nowhere e
      alone is = record { rest = []; around = around_none root e is; place_is = nowhere_is root bindings maps empty none; below = All-nil _ }
  found_place p n false true o low before is outer same at =
      record { rest = []; around = around_none root e outer; place_is = nowhere_is root bindings maps empty none; below = All-nil _ }
  found_place p n true false o low before is outer same at =
      record { rest = []; around = around_none root e outer; place_is = nowhere_is root bindings maps empty none; below = All-nil _ }
  found_place p n false false o low before is outer same at =
      record { rest = []; around = around_none root e outer; place_is = nowhere_is root bindings maps empty none; below = All-nil _ }

  found_below : (parent : Option Located) → parent_of e ≡ parent →
      IsPlaceAround root bindings maps
      (unwrap_or (option_and_then (λ p. place_before places root.number e.number (number_around root p e)) parent) nowhere) e
  found_below None is = record {
    rest = [];
    around = around_none root e (ap (option_and_then (λ p. if_before root e (around_below root p e))) is);
    place_is = nowhere_is root bindings maps empty none;
    below = All-nil _;
  }
  found_below (Some p) is =
      let n = number_around root p e in
      found_place p n (nat_le root.number n) (nat_lt n e.number) (unwrap_or (slice_get places (n - root.number)) None) refl refl refl
      (ap (option_and_then (λ p. if_before root e (around_below root p e))) is) refl
      (λ low before. sym (ap (λ b. if b then unwrap_or (slice_get places (n - root.number)) None else None) low))

  pub place_found : IsPlaceAround root bindings maps (place_around places root.number root e) e
  place_found = found_below (parent_of e) refl
