-- Each name that is read in JSON differs from the names that its set already has.
use Rattle.std.proofs.Common.{◌≡◌, ◌∙◌, ℕ, ◌+◌, ◌-◌, ◌<◌, Bool, true, false, List, [], ◌∷◌, ◌++◌, length, map, Option, Some, None, ⊎_elim, sym, refl, ap, subst, arith, append-nil}
use Rattle.std.specs.Prelude.{slice_get}
use Rattle.std.proofs.lemmas.Bool.{cases_Bool, cases_eq, cond-true, cond-false}
use Rattle.std.proofs.lemmas.List.{length-append}
use Rattle.std.proofs.lemmas.Option.{none-some, slice_get_within, get_or_from_slice_get}
use Rattle.nix_values.specs.declared.json_reader.State.{State}
use Rattle.nix_values.specs.declared.json_reader.State.TheVariants as state
use Rattle.nix_values.specs.declared.json_reader.Frame.{Frame}
use Rattle.nix_values.specs.declared.json_reader.Reading.{Reading}
use Rattle.nix_values.specs.Contents.{Plain, null, Entry, entry_of}
use Rattle.nix_values.specs.Json.{Part}
use Rattle.nix_values.specs.JsonNames.{next_entry}
use Rattle.nix_values.specs.RepeatedNames.{entry_key, entry_keys, HasDistinctNames}
use Rattle.nix_values.specs.JsonLocations.{last_frame, set_of, in_set}
use Rattle.nix_values.specs.JsonReading.{more_of, rest_of, parts_in, IsState, name_of, entries_in, is_value_next, is_colon_next, state_behind, opened, IsInside, IsPlacedIn, IsFree, IsNextFree, IsDistinct, IsNotTaken, IsAdded}
use Rattle.nix_values.proofs.JsonStateLemmas.{some_inside, inside_last, one_sort, behind_comma}
use Rattle.nix_values.proofs.BuiltLemmas.{get_last}
use Rattle.nix_values.proofs.RepeatedNameLemmas.{key_front, key_added, key_within}
use Rattle.nix_values.proofs.JsonLocationLemmas.{next_key}

-- ---- a value is added

distinct_more : (es : List Entry) (e : Entry) (set : Option ℕ) → HasDistinctNames es → entry_key es (length es) e ≡ in_set set e.name →
    ((number : ℕ) (key : ℕ × List ℕ) → in_set set e.name ≡ Some key → entry_keys es number ≡ Some key → ⊥) → HasDistinctNames (es ++ e ∷ [])
distinct_more es e set distinct is free again =
    let all = es ++ e ∷ [] in
    let key : ℕ × List ℕ = (again.set, again.name) in
    let len : length all ≡ length es + 1 = length-append es (e ∷ []) in
    let within : again.second < length all = key_within all again.second key again.other in
    let before : again.first < length es = omega (arith, again.apart, within, len) in
    let one : entry_keys es again.first ≡ Some key = sym (key_front es (e ∷ []) again.first before) ∙ again.one in
    ⊎_elim
    (λ last. free again.first key (sym is ∙ sym (key_added es e) ∙ ap (entry_keys all) (sym last) ∙ again.other) one)
    (λ other.
    let inside : again.second < length es = omega (arith, within, len, other) in
    distinct (record {
      first = again.first;
      second = again.second;
      set = again.set;
      name = again.name;
      apart = again.apart;
      one = one;
      other = sym (key_front es (e ∷ []) again.second inside) ∙ again.other;
    }))
    (cases_eq again.second (length es))

value_free : (s : State) (r : Reading) → is_value_next s ≡ true → IsNextFree s r → IsFree r (name_of r.name)
value_free state.Value r next free = free
value_free state.ValueOrClose r next free = free
value_free _ r next free = absurd (cc)

pub distinct_added : (old mid : Reading) (p : Plain) → IsPlacedIn old → IsDistinct old → is_value_next old.state ≡ true → IsAdded old p mid →
    HasDistinctNames (entries_in mid)
distinct_added old mid p placed distinct next added =
    let e : Entry = record { depth = length old.frames.items; name = name_of old.name; plain = p } in
    subst HasDistinctNames (sym added.entries)
    (distinct_more (entries_in old) e (set_of (last_frame old.frames.items)) distinct.distinct
    (next_key old.found old.attributes old.frames.items e placed refl) (value_free old.state old next distinct.free))

-- ---- what comes next

pub behind_free : (fs : List Frame) (r : Reading) → IsNextFree (state_behind fs) r
behind_free [] r = tt
behind_free (f ∷ fs) r = tt

-- a value in a list is not an attribute
list_free : (r : Reading) (f : Frame) (name : List ℕ) → last_frame r.frames.items ≡ Some f → f.is_set ≡ false → IsFree r name
list_free r f name last is number key next there =
    none-some key (sym (ap (λ o. in_set (set_of o) name) last ∙ ap (λ o. in_set o name) (cond-false f.is_set (Some f.node) None is)) ∙ next)

last_pushed : (fs : List Frame) (f : Frame) → last_frame (fs ++ f ∷ []) ≡ Some f
last_pushed fs f =
    let len : length (fs ++ f ∷ []) ≡ length fs + 1 = length-append fs (f ∷ []) in
    let index_is : length (fs ++ f ∷ []) - 1 ≡ length fs = omega (arith, len) in
    ap (slice_get (fs ++ f ∷ [])) index_is ∙ get_last fs f

pub opened_free : (b : Bool) (r : Reading) (fs : List Frame) (f : Frame) → f.is_set ≡ b → r.frames.items ≡ fs ++ f ∷ [] → IsNextFree (opened b) r
opened_free true r fs f is frames = tt
opened_free false r fs f is frames = list_free r f (name_of r.name) (ap last_frame frames ∙ last_pushed fs f) is

-- whether the innermost open list or set is a set
pub last_sort : (b : Bool) (fs : List Frame) (f : Frame) → last_frame fs ≡ Some f → IsInside b fs → f.is_set ≡ b
last_sort b fs f last inside =
    let some : length fs - 1 < length fs = slice_get_within fs (length fs - 1) f last in
    let len : length fs ≡ length fs - 1 + 1 = omega (arith, some) in
    one_sort f.is_set b fs (inside_last fs (length fs - 1) f len (sym (get_or_from_slice_get fs (length fs - 1) f f last))) inside

pub comma_free : (b : Bool) (r : Reading) → IsInside b r.frames.items → IsNextFree (behind_comma b) r
comma_free true r inside = tt
comma_free false r inside = λ number key next there. by (last_frame r.frames.items) refl number key next there
  where
    by : (o : Option Frame) → last_frame r.frames.items ≡ o → IsFree r (name_of r.name)
    by None is = λ number key next there. none-some key (sym (ap (λ x. in_set (set_of x) (name_of r.name)) is) ∙ next)
    by (Some f) is = list_free r f (name_of r.name) is (last_sort false r.frames.items f is inside)

pub colon_free : (s : State) (r : Reading) → is_colon_next s ≡ true → IsNextFree s r → IsFree r (name_of r.name)
colon_free state.Colon r next free = free
colon_free _ r next free = absurd (cc)

-- a name that is not taken is free
pub name_free : (r : Reading) (name : List ℕ) → IsPlacedIn r → IsNotTaken r name → IsFree r name
name_free r name placed none number key next there = by (last_frame r.frames.items) refl
  where
    by : (o : Option Frame) → last_frame r.frames.items ≡ o → ⊥
    by None is = none-some key (sym (ap (λ x. in_set (set_of x) name) is) ∙ next)
    by (Some f) is =
        ⊎_elim
        (λ set.
        let same : ◌≡◌ {A = Option (ℕ × List ℕ)} (Some (f.node, name)) (Some key) =
        sym (ap (λ x. in_set (set_of x) name) is ∙ ap (λ o. in_set o name) (cond-true f.is_set (Some f.node) None set)) ∙ next in
        none f number is (placed.keys number ∙ there ∙ sym same))
        (λ list. list_free r f name is list number key next there)
        (cases_Bool f.is_set)

pub behind_next : (r : Reading) (s : State) (fs : List Frame) → s ≡ state_behind fs → IsNextFree s r
behind_next r s fs e = subst (λ t. IsNextFree t r) (sym e) (behind_free fs r)

pub opened_next : (b : Bool) (r : Reading) (s : State) (fs : List Frame) (f : Frame) → s ≡ opened b → f.is_set ≡ b → r.frames.items ≡ fs ++ f ∷ [] →
    IsNextFree s r
opened_next b r s fs f e is frames = subst (λ t. IsNextFree t r) (sym e) (opened_free b r fs f is frames)

pub comma_next : (b : Bool) (r : Reading) (s : State) → s ≡ behind_comma b → IsInside b r.frames.items → IsNextFree s r
comma_next b r s e inside = subst (λ t. IsNextFree t r) (sym e) (comma_free b r inside)

-- nothing has been read
pub begun_distinct : (r : Reading) → r.found.items.items ≡ [] → r.state ≡ state.Value → IsDistinct r
begun_distinct r items is = record {
  distinct = λ again. none again.second (again.set, again.name) again.other;
  free = subst (λ s. IsNextFree s r) (sym is) (λ number key next there. none number key there);
}
  where
    none : (number : ℕ) (key : ℕ × List ℕ) → entry_keys (entries_in r) number ≡ Some key → ⊥
    none number key e =
        let within : number < length (entries_in r) = key_within (entries_in r) number key e in
        let empty : length (entries_in r) ≡ 0 = ap (λ xs. length (map entry_of xs)) items in
        absurd (omega (arith, within, empty))

-- nothing is known about the next value
none_next : (es next : List Entry) → next ≡ [] → HasDistinctNames es → HasDistinctNames (es ++ next)
none_next es next none distinct = subst (λ ys. HasDistinctNames (es ++ ys)) (sym none) (subst HasDistinctNames (sym (append-nil es)) distinct)

more_next : (b : Bool) (d : ℕ) (ps : List Part) → next_entry (more_of b d ∷ ps) ≡ []
more_next true d ps = refl
more_next false d ps = refl

-- no set has a name twice, even with the name of the next value
pub distinct_next : (s : State) (r : Reading) → IsState s r.frames.items (name_of r.name) → IsPlacedIn r → HasDistinctNames (entries_in r) → IsNextFree s r →
    HasDistinctNames (entries_in r ++ next_entry (parts_in s r.frames.items (name_of r.name)))
distinct_next state.Value r sound placed distinct free =
    let e : Entry = record { depth = length r.frames.items; name = name_of r.name; plain = null } in
    distinct_more (entries_in r) e (set_of (last_frame r.frames.items)) distinct (next_key r.found r.attributes r.frames.items e placed refl) free
distinct_next state.Colon r sound placed distinct free =
    let e : Entry = record { depth = length r.frames.items; name = name_of r.name; plain = null } in
    distinct_more (entries_in r) e (set_of (last_frame r.frames.items)) distinct (next_key r.found r.attributes r.frames.items e placed refl) free
distinct_next state.ValueOrClose r sound placed distinct free = none_next (entries_in r) [] refl distinct
distinct_next state.Name r sound placed distinct free = none_next (entries_in r) [] refl distinct
distinct_next state.NameOrClose r sound placed distinct free = none_next (entries_in r) [] refl distinct
distinct_next state.CommaOrClose r sound placed distinct free =
    let fs : List Frame = r.frames.items in
    let inside = some_inside fs sound.0 in
    none_next (entries_in r) (next_entry (rest_of fs)) (ap next_entry inside.1 ∙ more_next inside.0 (length fs) _) distinct
distinct_next state.End r sound placed distinct free =
    none_next (entries_in r) (next_entry (rest_of r.frames.items)) (ap (λ fs. next_entry (rest_of fs)) sound.0) distinct
