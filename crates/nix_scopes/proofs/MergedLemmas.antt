-- What has been found so far while a text is resolved in which entries may add to scopes.
use Rattle.std.proofs.Common.{◌≡◌, ◌∙◌, ℕ, zero, suc, ◌+◌, ◌-◌, ◌<◌, ◌≤◌, List, [], ◌∷◌, ◌++◌, length, map, drop, Bool, true, false, Option, Some, None, refl, ap, sym, subst, arith, inl, inr, append_assoc}
use Rattle.std.proofs.lemmas.{Bool.{cases_lt, le-leb}, List.{length_push, Elements.{All-append, All-map, All-filter, All-drop}}}
use Rattle.std.specs.Prelude.{◌||◌, if◌then◌else◌, nat_le, filter, flat_map, unwrap_or, slice_get}
use Rattle.std.specs.List.{All, list_any}
use Rattle.rnix_kinds.specs.declared.kinds.SyntaxKind.TheVariants as k
use Rattle.rnix_green.specs.Equality.{same_kind}
use Rattle.rnix_green.specs.Tree.{Tree, Located, item, item_of}
use Rattle.rnix_green.specs.Walk.{Spot, spot_at, counted, nodes_in, elements_of}
use Rattle.rnix_tree.specs.InsideCounts.{inside_count}
use Rattle.nix_scopes.specs.declared.name_maps.NameMaps.{NameMaps}
use Rattle.nix_scopes.specs.declared.places.Place.{Place}
use Rattle.nix_scopes.specs.declared.resolution.{Binding.Binding, Reference.Reference}
use Rattle.nix_scopes.specs.NameMaps.{number_in_map, HaveKeys, IsNameMap, AreEmpty}
use Rattle.nix_scopes.specs.Names.{Named}
use Rattle.nix_scopes.specs.References.{references_at}
use Rattle.nix_scopes.specs.Resolving.{last_in}
use Rattle.nix_scopes.specs.Bound.{bound_of, resolved_of, AreFirst}
use Rattle.nix_scopes.specs.Scopes.{Bound, bound_in, innermost, is_with_body, resolved}
use Rattle.nix_scopes.specs.Owners.{merged_around}
use Rattle.nix_scopes.specs.Merged.{is_merged_scope, merged_names, merged_bindings_at, merged_bindings, merged_among, merged_at, merged_references}
use Rattle.nix_scopes.specs.NodePlaces.{place_at, place_around, Sees, IsPlace, IsPlaceOf, ArePlaces, KeepsMaps, EntersScope, referring_at, referring_of}
use Rattle.nix_scopes.proofs.NumberLemmas.{get_kept, get_last}
use Rattle.nix_scopes.proofs.SymbolTableLemmas.{innermost_kept}
use Rattle.nix_scopes.proofs.WalkLemmas.{IsTaken, taken}
use Rattle.nix_scopes.proofs.OpeningLemmas.{sees_kept}
use Rattle.nix_scopes.proofs.PlaceLemmas.{around_low, IsPlaceAround, place_found}

-- one more place
places_push : (root : Located) (bindings : List Bound) (maps : NameMaps) (places : List (Option Place)) (number : ℕ) (place : Option Place) →
    ArePlaces root bindings maps places number → IsPlaceOf root bindings maps place number → ArePlaces root bindings maps (places ++ place ∷ []) (number + 1)
places_push root bindings maps places number place h is = record {
  count = omega (arith, h.count, length_push places place);
  are = λ n high low. elim (cases_lt n number) [
    | inl before ↦
        let old : place_at (places ++ place ∷ []) root.number n ≡ place_at places root.number n =
        ap (λ o. if nat_le root.number n then unwrap_or o None else None)
        (get_kept places (place ∷ []) (n - root.number) (omega (arith, h.count, before, high))) in
        subst (λ o. IsPlaceOf root bindings maps o n) (sym old) (h.are n high before)
    | inr after ↦
        let same : n ≡ number = omega (arith, low, after) in
        let last : n - root.number ≡ length places = omega (arith, h.count, same) in
        let new : place_at (places ++ place ∷ []) root.number n ≡ place =
        ap (λ b. if b then unwrap_or (slice_get (places ++ place ∷ []) (n - root.number)) None else None) (le-leb root.number n high)
        ∙ ap (λ m. unwrap_or (slice_get (places ++ place ∷ []) m) None) last ∙ ap (λ o. unwrap_or o None) (get_last places place) in
        subst (λ o. IsPlaceOf root bindings maps o n) (sym new) (subst (IsPlaceOf root bindings maps place) (sym same) is)
  ];
}

-- places stay as they are when a later scope binds names
module _ (root : Located) (bindings names : List Bound) (old new : NameMaps) (number : ℕ) (keys : HaveKeys old) (kept : KeepsMaps old new)
    (later : All (λ (b : Bound). number ≤ b.scope.number) names) where
  place_kept : (place : Place) (nodes : List Located) → All (λ (a : Located). a.number < number) nodes → IsPlace root bindings old place nodes →
      IsPlace root (bindings ++ names) new place nodes
  place_kept place nodes low h = record {
    inside = sees_kept bindings names old new place.inside number _ keys kept
        (All-filter (is_merged_scope root) (λ (a : Located). a.number < number) nodes low) later h.inside;
    outside = sees_kept bindings names old new place.outside number _ keys kept
        (All-filter (is_merged_scope root) (λ (a : Located). a.number < number) (drop 1 nodes)
        (All-drop (λ (a : Located). a.number < number) 1 nodes low)) later
        h.outside;
    below = h.below;
  }

  place_of_kept : (place : Option Place) (n : ℕ) → n < number → IsPlaceOf root bindings old place n → IsPlaceOf root (bindings ++ names) new place n
  place_of_kept None n low h = h
  place_of_kept (Some place) n low h =
      let e : Located = record { tree = root.tree; number = n } in
      (h.0, place_kept place (merged_around root e) (around_low number root e low) h.1)

  places_kept : (places : List (Option Place)) → ArePlaces root bindings old places number → ArePlaces root (bindings ++ names) new places number
  places_kept places h = record {
    count = h.count;
    are = λ n high low. place_of_kept (place_at places root.number n) n low (h.are n high low);
  }

-- the bindings of a node have the node as their scope
own_scopes : (root e : Located) → All (λ (b : Bound). b.scope.number ≡ e.number) (merged_bindings_at root e)
own_scopes root e = chosen (is_merged_scope root e)
  where
    chosen : (b : Bool) → All (λ (b : Bound). b.scope.number ≡ e.number) (if b then map (bound_in e) (merged_names root e) else [])
    chosen true = All-map (λ (b : Bound). b.scope.number ≡ e.number) (bound_in e) (merged_names root e) (λ k d l. refl)
    chosen false = λ k d l. absurd (omega (arith, l))

-- the bindings of the elements from n on have scopes from n on
scopes_later : (root : Located) (t : Tree) (n count : ℕ) →
    All (λ (b : Bound). n ≤ b.scope.number) (flat_map (merged_bindings_at root) (nodes_in (map (spot_at t) (counted n count))))
scopes_later root t n zero = λ k d l. absurd (omega (arith, l))
scopes_later root t n (suc count) = chosen (item t n).is_node (λ k d l. omega (arith, scopes_later root t (n + 1) count k d l))
  where
    others : List Located
    others = nodes_in (map (spot_at t) (counted (n + 1) count))

    chosen : (b : Bool) → All (λ (b : Bound). n ≤ b.scope.number) (flat_map (merged_bindings_at root) others) →
        All (λ (b : Bound). n ≤ b.scope.number) (flat_map (merged_bindings_at root) (if b then record { tree = t; number = n } ∷ others else others))
    chosen true later =
        All-append (λ (b : Bound). n ≤ b.scope.number) (merged_bindings_at root record { tree = t; number = n }) (flat_map (merged_bindings_at root) others)
        (λ k d l. omega (arith, own_scopes root (record { tree = t; number = n }) k d l)) later
    chosen false later = later

-- what has been found before the remaining elements of a walk
pub record IsWalked (root : Located) (bindings : List Binding) (references : List Reference) (maps : NameMaps) (places : List (Option Place))
    (spots : List Spot) : Type 0 where
  pub number : ℕ
  pub inside : root.number ≤ number
  pub walk : spots ≡ map (spot_at root.tree) (counted number (suc (last_in root) - number))
  pub keys : HaveKeys maps
  pub empty : IsNameMap maps 0
  pub none : (text : List ℕ) → number_in_map maps 0 text ≡ None
  pub are_places : ArePlaces root (map bound_of bindings) maps places number
  pub low : All (λ (b : Bound). b.scope.number < number) (map bound_of bindings)
  pub bound : map bound_of bindings ++ flat_map (merged_bindings_at root) (nodes_in spots) ≡ merged_bindings root
  pub listing : map resolved_of references ++ flat_map (merged_at root) (nodes_in spots) ≡ merged_references root
  pub firsts : AreFirst bindings

-- before the walk nothing has been found
pub walked_begun : (root : Located) (bindings : List Binding) (references : List Reference) (maps : NameMaps) (places : List (Option Place))
    (spots : List Spot) → spots ≡ elements_of root → bindings ≡ [] → references ≡ [] → places ≡ [] → AreEmpty maps
    → IsWalked root bindings references maps places spots
walked_begun root bindings references maps places spots is none no_references no_places empty =
    let all : 1 + inside_count root ≡ suc (last_in root) - root.number = omega arith in
    record {
      number = root.number;
      inside = omega arith;
      walk = is ∙ ap (λ k. map (spot_at root.tree) (counted root.number k)) all;
      keys = empty.keys;
      empty = empty.map;
      none = empty.names;
      are_places = record {
        count = omega (arith, ap length no_places);
        are = λ n high low. absurd (omega (arith, high, low));
      };
      low = subst (λ bs. All (λ (b : Bound). b.scope.number < root.number) (map bound_of bs)) (sym none) (λ k d l. absurd (omega (arith, l)));
      bound = ap (λ bs. map bound_of bs ++ flat_map (merged_bindings_at root) (nodes_in spots)) none
          ∙ ap (λ es. flat_map (merged_bindings_at root) (nodes_in es)) is;
      listing = ap (λ rs. map resolved_of rs ++ flat_map (merged_at root) (nodes_in spots)) no_references
          ∙ ap (λ es. flat_map (merged_at root) (nodes_in es)) is;
      firsts = subst AreFirst (sym none) (λ k d l. absurd (omega (arith, l)));
    }

one_less : (last n others : ℕ) → suc last - n ≡ suc others → others ≡ suc last - (n + 1)
one_less last n others is = omega (arith, is)

-- passing a token
pub walked_token : (root : Located) (bindings : List Binding) (references : List Reference) (maps : NameMaps) (places more : List (Option Place))
    (spots later : List Spot) (e : Located) → IsWalked root bindings references maps places spots → spots ≡ (false, e) ∷ later → more ≡ places ++ None ∷ [] →
    IsWalked root bindings references maps more later
walked_token root bindings references maps places more spots later e h is pushed =
    let first = taken root.tree h.number (suc (last_in root) - h.number) spots (false, e) later h.walk is in
    let nodes_are : nodes_in spots ≡ nodes_in later = ap nodes_in is in
    record {
      number = h.number + 1;
      inside = omega (arith, h.inside);
      walk = first.are ∙ ap (λ k. map (spot_at root.tree) (counted (h.number + 1) k)) (one_less (last_in root) h.number first.others first.one_more);
      keys = h.keys;
      empty = h.empty;
      none = h.none;
      are_places = subst (λ ps. ArePlaces root (map bound_of bindings) maps ps (h.number + 1)) (sym pushed)
          (places_push root (map bound_of bindings) maps places h.number None h.are_places (sym (ap (λ (s : Spot). s.0) first.first)));
      low = λ k d l. omega (arith, h.low k d l);
      bound = ap (λ es. map bound_of bindings ++ flat_map (merged_bindings_at root) es) (sym nodes_are) ∙ h.bound;
      listing = ap (λ es. map resolved_of references ++ flat_map (merged_at root) es) (sym nodes_are) ∙ h.listing;
      firsts = h.firsts;
    }

map_alike : {X Y : Type 0} (f g : X → Y) → ((x : X) → f x ≡ g x) → (xs : List X) → map f xs ≡ map g xs
map_alike f g same [] = refl
map_alike f g same (x ∷ xs) = ap (λ y. y ∷ map f xs) (same x) ∙ ap (λ ys. g x ∷ ys) (map_alike f g same xs)

-- adding the list of the next element
more_listed : {X Y : Type 0} (f : X → List Y) (so_far new all : List Y) (x : X) (xs : List X) → so_far ++ flat_map f (x ∷ xs) ≡ all →
    new ≡ so_far ++ f x → new ++ flat_map f xs ≡ all
more_listed f so_far new all x xs is added = ap (λ ys. ys ++ flat_map f xs) added ∙ append_assoc so_far (f x) (flat_map f xs) ∙ is

module _ (root e : Located) (bound more all : List Bound) (maps : NameMaps) (around own : Place) (rest : List Located) (n : ℕ) (all_is : all ≡ bound ++ more)
    (later : All (λ (b : Bound). n ≤ b.scope.number) more) (low : All (λ (a : Located). a.number < n) (e ∷ rest))
    (own_is : IsPlace root bound maps own (e ∷ rest)) (around_is : IsPlace root bound maps around rest) where
  -- a map has the innermost of all bindings
  seen_in_all : (seen : ℕ) (nodes : List Located) (text : List ℕ) → All (λ (a : Located). a.number < n) nodes →
      Sees bound maps seen (filter (is_merged_scope root) nodes) → number_in_map maps seen text ≡ innermost all text (filter (is_merged_scope root) nodes)
  seen_in_all seen nodes text below h =
      h.names text
      ∙ sym (ap (λ bs. innermost bs text (filter (is_merged_scope root) nodes)) all_is
      ∙ innermost_kept bound more text n (filter (is_merged_scope root) nodes)
      (All-filter (is_merged_scope root) (λ (a : Located). a.number < n) nodes below) later)

  -- a name of the node refers to the same binding as in the whole text
  refers : (name : Named) → referring_of maps around own e name ≡ merged_among root all (e ∷ rest) e name
  refers name = chosen (same_kind k.NODE_INHERIT (item_of e).kind)
    where
      rest_low : All (λ (a : Located). a.number < n) rest
      rest_low = All-drop (λ (a : Located). a.number < n) 1 (e ∷ rest) low

      chosen : (b : Bool) →
          (if b then referring_at maps around.outside own.is_below_with true name else referring_at maps own.inside own.is_below_with false name)
          ≡ resolved b (list_any is_with_body (e ∷ rest)) (innermost all name.text (filter (is_merged_scope root) (drop (if b then 2 else 0) (e ∷ rest)))) name
      chosen true =
          ap (λ w. resolved true w (number_in_map maps around.outside name.text) name) own_is.below
          ∙ ap (λ o. resolved true (list_any is_with_body (e ∷ rest)) o name)
          (seen_in_all around.outside (drop 1 rest) name.text (All-drop (λ (a : Located). a.number < n) 1 rest rest_low) around_is.outside)
      chosen false =
          ap (λ w. resolved false w (number_in_map maps own.inside name.text) name) own_is.below
          ∙ ap (λ o. resolved false (list_any is_with_body (e ∷ rest)) o name) (seen_in_all own.inside (e ∷ rest) name.text low own_is.inside)

-- visiting a node
module _ (root : Located) (bindings more : List Binding) (references others : List Reference) (old new : NameMaps) (places : List (Option Place))
    (spots later : List Spot) (e : Located) (h : IsWalked root bindings references old places spots) (is : spots ≡ (true, e) ∷ later)
    (around own : Place) (made : ℕ) (around_is : around ≡ place_around places root.number root e) (inside_is : own.inside ≡ made)
    (outside_is : own.outside ≡ around.inside) (below_is : own.is_below_with ≡ (is_with_body e || around.is_below_with))
    (enters : EntersScope root e around.inside made old new bindings more)
    (referred : map resolved_of others ≡ map resolved_of references ++ map (referring_of new around own e) (references_at e)) where
  abbrev n : ℕ
  n = h.number

  abbrev bs : List Bound
  bs = map bound_of bindings

  abbrev names : List Bound
  names = merged_bindings_at root e

  next : IsTaken root.tree n (suc (last_in root) - n) (true, e) later
  next = taken root.tree n (suc (last_in root) - n) spots (true, e) later h.walk is

  here : e ≡ record { tree = root.tree; number = n }
  here = ap (λ (s : Spot). s.1) next.first

  number : e.number ≡ n
  number = ap (λ (x : Located). x.number) here

  around_e : IsPlaceAround root bs old around e
  around_e = subst (λ p. IsPlaceAround root bs old p e) (sym around_is)
      (place_found root bs old places e (ap (λ (x : Located). x.tree) here) (omega (arith, number, h.inside))
      (subst (ArePlaces root bs old places) (sym number) h.are_places) h.empty h.none)

  below : All (λ (a : Located). a.number < e.number) (filter (is_merged_scope root) around_e.rest)
  below = All-filter (is_merged_scope root) (λ (a : Located). a.number < e.number) around_e.rest around_e.below

  below_n : All (λ (a : Located). a.number < n) around_e.rest
  below_n = λ k d l. omega (arith, around_e.below k d l, number)

  low_e : All (λ (b : Bound). b.scope.number < e.number) bs
  low_e = λ k d l. omega (arith, h.low k d l, number)

  names_later : All (λ (b : Bound). n ≤ b.scope.number) names
  names_later = λ k d l. omega (arith, own_scopes root e k d l, number)

  own_place : IsPlace root (map bound_of more) new own (e ∷ around_e.rest)
  own_place = record {
    inside = subst (λ m. Sees (map bound_of more) new m (filter (is_merged_scope root) (e ∷ around_e.rest))) (sym inside_is)
        (enters.sees h.keys (filter (is_merged_scope root) around_e.rest) low_e below around_e.place_is.inside);
    outside = subst (λ m. Sees (map bound_of more) new m (filter (is_merged_scope root) around_e.rest)) (sym outside_is)
        (subst (λ all. Sees all new around.inside (filter (is_merged_scope root) around_e.rest)) (sym enters.bound)
        (sees_kept bs names old new around.inside e.number (filter (is_merged_scope root) around_e.rest) h.keys enters.kept below
        (λ k d l. omega (arith, own_scopes root e k d l)) around_e.place_is.inside));
    below = below_is ∙ ap (λ b. is_with_body e || b) around_e.place_is.below;
  }

  around_place : IsPlace root (map bound_of more) new around around_e.rest
  around_place = subst (λ all. IsPlace root all new around around_e.rest) (sym enters.bound)
      (place_kept root bs names old new n h.keys enters.kept names_later around around_e.rest below_n around_e.place_is)

  new_places : ArePlaces root (map bound_of more) new (places ++ Some own ∷ []) (n + 1)
  new_places = places_push root (map bound_of more) new places n (Some own)
      (subst (λ all. ArePlaces root all new places n) (sym enters.bound)
      (places_kept root bs names old new n h.keys enters.kept names_later places h.are_places)) (
        sym (ap (λ (s : Spot). s.0) next.first),
        subst (λ x. IsPlace root (map bound_of more) new own (merged_around root x)) here
            (subst (IsPlace root (map bound_of more) new own) (sym around_e.around) own_place),
      )

  low_all : All (λ (a : Located). a.number < n + 1) (e ∷ around_e.rest)
  low_all = subst (All (λ (a : Located). a.number < n + 1)) around_e.around (around_low (n + 1) root e (omega (arith, number)))

  walk_next : later ≡ map (spot_at root.tree) (counted (n + 1) (suc (last_in root) - (n + 1)))
  walk_next = next.are ∙ ap (λ k. map (spot_at root.tree) (counted (n + 1) k)) (one_less (last_in root) n next.others next.one_more)

  nodes_are : nodes_in spots ≡ e ∷ nodes_in later
  nodes_are = ap nodes_in is

  bound_next : map bound_of more ++ flat_map (merged_bindings_at root) (nodes_in later) ≡ merged_bindings root
  bound_next = more_listed (merged_bindings_at root) bs (map bound_of more) (merged_bindings root) e (nodes_in later)
      (ap (λ es. bs ++ flat_map (merged_bindings_at root) es) (sym nodes_are) ∙ h.bound) enters.bound

  bound_later : All (λ (b : Bound). n + 1 ≤ b.scope.number) (flat_map (merged_bindings_at root) (nodes_in later))
  bound_later = subst (λ es. All (λ (b : Bound). n + 1 ≤ b.scope.number) (flat_map (merged_bindings_at root) (nodes_in es))) (sym walk_next)
      (scopes_later root root.tree (n + 1) (suc (last_in root) - (n + 1)))

  refers_all : (name : Named) → referring_of new around own e name ≡ merged_among root (merged_bindings root) (merged_around root e) e name
  refers_all name =
      refers root e (map bound_of more) (flat_map (merged_bindings_at root) (nodes_in later)) (merged_bindings root) new around own around_e.rest (n + 1)
      (sym bound_next) bound_later low_all own_place around_place name
      ∙ ap (λ ns. merged_among root (merged_bindings root) ns e name) (sym around_e.around)

  low_more : All (λ (b : Bound). b.scope.number < n + 1) (map bound_of more)
  low_more = subst (All (λ (b : Bound). b.scope.number < n + 1)) (sym enters.bound)
      (All-append (λ (b : Bound). b.scope.number < n + 1) bs names (λ k d l. omega (arith, h.low k d l))
      (λ k d l. omega (arith, own_scopes root e k d l, number)))

  pub walked_node : (places_more : List (Option Place)) → places_more ≡ places ++ Some own ∷ [] → IsWalked root more others new places_more later
  walked_node places_more pushed =
      let empty_kept = enters.kept.maps h.keys 0 h.empty in
      record {
        number = n + 1;
        inside = omega (arith, h.inside);
        walk = walk_next;
        keys = enters.kept.keys h.keys;
        empty = empty_kept.0;
        none = λ text. empty_kept.1 text ∙ h.none text;
        are_places = subst (λ ps. ArePlaces root (map bound_of more) new ps (n + 1)) (sym pushed) new_places;
        low = low_more;
        bound = bound_next;
        listing = more_listed (merged_at root) (map resolved_of references) (map resolved_of others) (merged_references root) e (nodes_in later)
            (ap (λ es. map resolved_of references ++ flat_map (merged_at root) es) (sym nodes_are) ∙ h.listing)
            (referred ∙ ap (λ rs. map resolved_of references ++ rs)
            (map_alike (referring_of new around own e) (merged_among root (merged_bindings root) (merged_around root e) e) refers_all (references_at e)));
        firsts = enters.firsts h.keys (filter (is_merged_scope root) around_e.rest) low_e below around_e.place_is.inside h.firsts;
      }

-- equal bindings, references, maps and places have been found, too
pub walked_same : (root : Located) (bindings others : List Binding) (references alike : List Reference) (maps same : NameMaps)
    (places : List (Option Place)) (spots : List Spot) → others ≡ bindings → alike ≡ references → same ≡ maps →
    IsWalked root bindings references maps places spots → IsWalked root others alike same places spots
walked_same root bindings others references alike maps same places spots bindings_are references_are maps_are h =
    subst (λ bs. IsWalked root bs alike same places spots) (sym bindings_are)
    (subst (λ rs. IsWalked root bindings rs same places spots) (sym references_are)
    (subst (λ ms. IsWalked root bindings references ms places spots) (sym maps_are) h))
