-- What comes into scope when a scope binds its names one by one.
use Rattle.std.proofs.Common.{◌≡◌, ◌∙◌, ℕ, ◌<◌, ◌≤◌, List, [], ◌∷◌, ◌++◌, length, map, append_assoc, append-nil, Bool, true, false, Option, Some, None, refl, ap, sym, subst, arith}
use Rattle.std.proofs.lemmas.{Bool.{le-leb, lt-leb}, Slice.Eq.bytes_eq-Decides, Option.none-some, List.{length_push, length-map, map-append, Elements.{All-map}}}
use Rattle.std.specs.Prelude.{if◌then◌else◌}
use Rattle.std.specs.{List.All, Option.option_or, Str.bytes_eq}
use Rattle.rnix_green.specs.Tree.{Located}
use Rattle.nix_scopes.specs.declared.name_maps.NameMaps.{NameMaps}
use Rattle.nix_scopes.specs.NameMaps.{number_in_map, HaveKeys, IsBound}
use Rattle.nix_scopes.specs.declared.resolution.Binding.{Binding}
use Rattle.nix_scopes.specs.Names.{Named}
use Rattle.nix_scopes.specs.Binders.{names_bound}
use Rattle.nix_scopes.specs.Bound.{bound_of, AreFirst}
use Rattle.nix_scopes.specs.Merged.{is_merged_scope, merged_names, added_to}
use Rattle.nix_scopes.specs.NodePlaces.{own_if, Sees, IsOpening, KeepsMaps, EntersScope}
use Rattle.nix_scopes.specs.Scopes.{Bound, bound_in, number_in, innermost}
use Rattle.nix_scopes.proofs.NumberLemmas.{some_same, none_below, number_bound}
use Rattle.nix_scopes.proofs.SymbolTableLemmas.{innermost_low, innermost_kept}

-- maps that stay as they are
pub keeps_same : (maps : NameMaps) → KeepsMaps maps maps
keeps_same maps = record { keys = λ h. h; maps = λ h seen is. (is, λ text. refl) }

pub keeps_twice : (old mid new : NameMaps) → KeepsMaps old mid → KeepsMaps mid new → KeepsMaps old new
keeps_twice old mid new one two = record {
  keys = λ h. two.keys (one.keys h);
  maps = λ h seen is.
      let first = one.maps h seen is in
      let second = two.maps (one.keys h) seen first.0 in
      (second.0, λ text. second.1 text ∙ first.1 text);
}

pub keeps_bound : (old new : NameMaps) (view : ℕ) (text : List ℕ) (number made : ℕ) → IsBound old new view text number made → KeepsMaps old new
keeps_bound old new view text number made h = record { keys = h.have; maps = h.others }

-- a name with a number in its scope has this number
module _ (outer : List ℕ → Option ℕ) (bindings : List Bound) (maps : NameMaps) (view first : ℕ) (scope : Located)
    (h : IsOpening outer bindings maps view first scope) where
  own_found : (text : List ℕ) (n : ℕ) (o : Option ℕ) → own_if first (number_in_map maps view text) ≡ Some n → number_in bindings text scope ≡ o → o ≡ Some n
  own_found text n None own is = absurd (none-some n (sym (outside (outer text) refl) ∙ shown))
    where
      shown : own_if first (outer text) ≡ Some n
      shown = ap (own_if first) (sym (h.names text ∙ ap (λ x. option_or x (outer text)) is)) ∙ own

      outside : (p : Option ℕ) → outer text ≡ p → own_if first p ≡ None
      outside None at = refl
      outside (Some m) at = ap (λ b. if b then Some m else None) (lt-leb first m (h.before text m at))
  own_found text n (Some m) own is =
      sym (ap (λ b. if b then Some m else None) (le-leb first m (h.within text m is).0))
      ∙ ap (own_if first) (sym (h.names text ∙ ap (λ x. option_or x (outer text)) is)) ∙ own

  none_found : (text : List ℕ) (o : Option ℕ) → own_if first (number_in_map maps view text) ≡ None → number_in bindings text scope ≡ o → o ≡ None
  none_found text None none is = refl
  none_found text (Some m) none is =
      absurd (none-some m (sym none ∙ ap (own_if first) (h.names text ∙ ap (λ x. option_or x (outer text)) is)
      ∙ ap (λ b. if b then Some m else None) (le-leb first m (h.within text m is).0)))

  module _ (b : Bound) (same : b.scope.number ≡ scope.number) where
    -- the numbers of one more binding, where its name has a number
    number_known : (n : ℕ) → number_in bindings b.text scope ≡ Some n → (text : List ℕ)
        → number_in (bindings ++ b ∷ []) text scope ≡ number_in bindings text scope
    number_known n known text = number_bound bindings text scope b same ∙ chosen (bytes_eq b.text text) refl (number_in bindings text scope) refl
      where
        chosen : (e : Bool) → bytes_eq b.text text ≡ e → (o : Option ℕ) → number_in bindings text scope ≡ o →
            option_or o (if e then Some (length bindings) else None) ≡ o
        chosen e test (Some m) is = refl
        chosen false test None is = refl
        chosen true test None is =
            absurd (none-some n (sym is ∙ ap (λ t. number_in bindings t scope) (sym ((bytes_eq-Decides b.text text).0 test)) ∙ known))

    -- the scope binds a name again
    pub opening_again : (n : ℕ) → own_if first (number_in_map maps view b.text) ≡ Some n →
        IsOpening outer (bindings ++ b ∷ []) maps view first scope × (number_in (bindings ++ b ∷ []) b.text scope ≡ Some n)
    opening_again n own =
        let known : number_in bindings b.text scope ≡ Some n = own_found b.text n (number_in bindings b.text scope) own refl in (
          record {
            keys = h.keys;
            is_map = h.is_map;
            names = λ text. h.names text ∙ ap (λ o. option_or o (outer text)) (sym (number_known n known text));
            before = h.before;
            within = λ text m is.
                let inside = h.within text m (sym (number_known n known text) ∙ is) in
                (inside.0, omega (arith, inside.1, length_push bindings b));
            few = omega (arith, h.few, length_push bindings b);
          },
          number_known n known b.text ∙ known,
        )

    -- the scope binds a new name
    pub opening_new : (new : NameMaps) (made : ℕ) → own_if first (number_in_map maps view b.text) ≡ None →
        IsBound maps new view b.text (length bindings) made →
        IsOpening outer (bindings ++ b ∷ []) new made first scope × (number_in (bindings ++ b ∷ []) b.text scope ≡ Some (length bindings))
    opening_new new made none bound = (
      record {
        keys = bound.have h.keys;
        is_map = bound.is_map h.keys h.is_map;
        names = λ text.
            bound.names h.keys h.is_map text ∙ chosen text (bytes_eq b.text text) refl
            ∙ sym (ap (λ o. option_or o (outer text)) (number_bound bindings text scope b same));
        before = h.before;
        within = λ text m is. inside text m (number_in bindings text scope) (bytes_eq b.text text) refl (sym (number_bound bindings text scope b same) ∙ is);
        few = omega (arith, h.few, length_push bindings b);
      },
      number_bound bindings b.text scope b same
          ∙ ap (λ o. option_or o (if bytes_eq b.text b.text then Some (length bindings) else None)) free
          ∙ ap (λ e. if e then Some (length bindings) else None) ((bytes_eq-Decides b.text b.text).1 refl),
    )
      where
        free : number_in bindings b.text scope ≡ None
        free = none_found b.text (number_in bindings b.text scope) none refl

        chosen : (text : List ℕ) (e : Bool) → bytes_eq b.text text ≡ e → (if e then Some (length bindings) else number_in_map maps view text)
            ≡ option_or (option_or (number_in bindings text scope) (if e then Some (length bindings) else None)) (outer text)
        chosen text true test =
            sym (ap (λ o. option_or (option_or o (Some (length bindings))) (outer text))
            (ap (λ t. number_in bindings t scope) (sym ((bytes_eq-Decides b.text text).0 test)) ∙ free))
        chosen text false test = h.names text ∙ ap (λ o. option_or o (outer text)) (sym (or_nothing (number_in bindings text scope)))
          where
            or_nothing : (o : Option ℕ) → option_or o None ≡ o
            or_nothing None = refl
            or_nothing (Some m) = refl

        inside : (text : List ℕ) (m : ℕ) (o : Option ℕ) (e : Bool) → number_in bindings text scope ≡ o →
            option_or o (if e then Some (length bindings) else None) ≡ Some m → (first ≤ m) × (m < length (bindings ++ b ∷ []))
        inside text m (Some n) e at is =
            let low = h.within text m (at ∙ is) in
            (low.0, omega (arith, low.1, length_push bindings b))
        inside text m None true at is =
            let end : length bindings ≡ m = some_same _ _ is in
            (omega (arith, end, h.few), omega (arith, end, length_push bindings b))
        inside text m None false at is = absurd (none-some m is)

-- a scope that is entered has bound nothing yet
pub opening_begun : (bindings : List Bound) (maps : NameMaps) (view : ℕ) (scopes : List Located) (scope : Located) → HaveKeys maps →
    All (λ (b : Bound). b.scope.number < scope.number) bindings → Sees bindings maps view scopes →
    IsOpening (λ text. innermost bindings text scopes) bindings maps view (length bindings) scope
opening_begun bindings maps view scopes scope keys low sees = record {
  keys = keys;
  is_map = sees.is_map;
  names = λ text. sees.names text ∙ sym (ap (λ o. option_or o (innermost bindings text scopes)) (none_below bindings text scope low));
  before = λ text n is. innermost_low bindings text scopes n is;
  within = λ text n is. absurd (none-some n (sym (none_below bindings text scope low) ∙ is));
  few = omega arith;
}

-- a scope that has bound its names is the innermost
pub opening_done : (bindings names : List Bound) (new : NameMaps) (made first : ℕ) (scopes : List Located) (scope : Located) →
    All (λ (s : Located). s.number < scope.number) scopes → All (λ (b : Bound). scope.number ≤ b.scope.number) names →
    IsOpening (λ text. innermost bindings text scopes) (bindings ++ names) new made first scope → Sees (bindings ++ names) new made (scope ∷ scopes)
opening_done bindings names new made first scopes scope below later h = record {
  is_map = h.is_map;
  names = λ text. h.names text
      ∙ ap (option_or (number_in (bindings ++ names) text scope)) (sym (innermost_kept bindings names text scope.number scopes below later));
}

-- what is in scope stays so when later scopes bind names
pub sees_kept : (bindings names : List Bound) (old new : NameMaps) (view n : ℕ) (scopes : List Located) → HaveKeys old → KeepsMaps old new →
    All (λ (s : Located). s.number < n) scopes → All (λ (b : Bound). n ≤ b.scope.number) names → Sees bindings old view scopes
    → Sees (bindings ++ names) new view scopes
sees_kept bindings names old new view n scopes keys kept below later sees =
    let same = kept.maps keys view sees.is_map in
    record {
      is_map = same.0;
      names = λ text. same.1 text ∙ sees.names text ∙ sym (innermost_kept bindings names text n scopes below later);
    }

-- a node that is no scope binds nothing
pub not_entered : (root e : Located) (around : ℕ) (maps : NameMaps) (bindings : List Binding) → is_merged_scope root e ≡ false →
    EntersScope root e around around maps maps bindings bindings
not_entered root e around maps bindings none = record {
  bound = sym (ap (λ b. map bound_of bindings ++ (if b then map (bound_in e) (merged_names root e) else [])) none ∙ append-nil (map bound_of bindings));
  kept = keeps_same maps;
  sees = λ keys scopes low below sees.
      subst (Sees (map bound_of bindings) maps around) (sym (ap (λ b. if b then e ∷ scopes else scopes) none)) sees;
  firsts = λ keys scopes low below sees firsts. firsts;
}

-- a scope that is entered binds its own names, and then those that are added to it
pub entered : (root e : Located) (around own made first : ℕ) (old mid new : NameMaps) (bindings some more : List Binding) (names added : List Named) →
    is_merged_scope root e ≡ true → names ≡ names_bound e → added ≡ added_to root e.number →
    map bound_of some ≡ map bound_of bindings ++ map (bound_in e) names → map bound_of more ≡ map bound_of some ++ map (bound_in e) added →
    first ≡ length bindings → KeepsMaps old mid → KeepsMaps mid new →
    ((outer : List ℕ → Option ℕ) → IsOpening outer (map bound_of bindings) old around first e → IsOpening outer (map bound_of some) mid own first e) →
    ((outer : List ℕ → Option ℕ) → IsOpening outer (map bound_of some) mid own first e → IsOpening outer (map bound_of more) new made first e) →
    ((outer : List ℕ → Option ℕ) → IsOpening outer (map bound_of bindings) old around first e → AreFirst bindings → AreFirst some) →
    ((outer : List ℕ → Option ℕ) → IsOpening outer (map bound_of some) mid own first e → AreFirst some → AreFirst more) →
    EntersScope root e around made old new bindings more
entered root e around own made first old mid new bindings some more names added scope names_are added_are bound also count one two open_own open_added
    first_own first_added =
    let bs = map bound_of bindings in
    let all : map bound_of more ≡ bs ++ map (bound_in e) (merged_names root e) =
    also ∙ ap (λ xs. xs ++ map (bound_in e) added) bound ∙ append_assoc bs (map (bound_in e) names) (map (bound_in e) added)
    ∙ ap (λ xs. bs ++ xs) (sym (map-append (bound_in e) names added))
    ∙ (λ q. bs ++ map (bound_in e) (names_are q ++ added_are q)) in
    let begun : HaveKeys old → (scopes : List Located) → All (λ (b : Bound). b.scope.number < e.number) bs → Sees bs old around scopes →
    IsOpening (λ text. innermost bs text scopes) bs old around first e =
    λ keys scopes low sees. subst (λ n. IsOpening (λ text. innermost bs text scopes) bs old around n e) (length-map bindings bound_of ∙ sym count)
    (opening_begun bs old around scopes e keys low sees) in
    record {
      bound = all ∙ sym (ap (λ b. bs ++ (if b then map (bound_in e) (merged_names root e) else [])) scope);
      kept = keeps_twice old mid new one two;
      sees = λ keys scopes low below sees.
          subst (Sees (map bound_of more) new made) (sym (ap (λ b. if b then e ∷ scopes else scopes) scope))
          (subst (λ xs. Sees xs new made (e ∷ scopes)) (sym all)
          (opening_done bs (map (bound_in e) (merged_names root e)) new made first scopes e below
          (All-map (λ (b : Bound). e.number ≤ b.scope.number) (bound_in e) (merged_names root e) (λ k d l. omega arith))
          (subst (λ xs. IsOpening (λ text. innermost bs text scopes) xs new made first e) all
          (open_added (λ text. innermost bs text scopes) (open_own (λ text. innermost bs text scopes) (begun keys scopes low sees))))));
      firsts = λ keys scopes low below sees firsts.
          let outer : List ℕ → Option ℕ = λ text. innermost bs text scopes in
          first_added outer (open_own outer (begun keys scopes low sees)) (first_own outer (begun keys scopes low sees) firsts);
    }
