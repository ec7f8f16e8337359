-- The offsets at which the reader of JSON found the names of attributes.
use Rattle.std.proofs.Common.{◌≡◌, ◌∙◌, ℕ, zero, suc, ◌+◌, ◌-◌, ◌<◌, ◌≤◌, Bool, true, false, List, [], ◌∷◌, ◌++◌, length, get_or, Option, Some, None, ⊎_elim, sym, refl, ap, ap₂, subst, arith, string_bytes}
use Rattle.std.specs.Prelude.{slice_get, option_map, option_and_then, String}
use Rattle.std.proofs.lemmas.Bool.{cases_eq, cases_Bool, both_ways, cond-true, cond-false}
use Rattle.std.proofs.lemmas.Option.{none-some, same_Some, slice_get_within, get_or_from_slice_get}
use Rattle.nix_values.specs.declared.data.Item.{Item}
use Rattle.nix_values.specs.declared.json_found.Found.{Found}
use Rattle.nix_values.specs.declared.json_found.Location.{Location}
use Rattle.nix_values.specs.declared.json_reader.State.{State}
use Rattle.nix_values.specs.declared.json_reader.State.TheVariants as state
use Rattle.nix_values.specs.declared.json_reader.Frame.{Frame}
use Rattle.nix_values.specs.declared.json_reader.Reading.{Reading}
use Rattle.nix_values.specs.Contents.{Entry}
use Rattle.nix_values.specs.Json.{Token, string, is_space, Part}
use Rattle.nix_values.specs.JsonNames.{IsTokenAt, IsReadTo, past_space, IsNameAt}
use Rattle.nix_values.specs.FoundKeys.{found_keys, offset_of}
use Rattle.nix_values.specs.RepeatedNames.{entry_keys, last_outside, HasDistinctNames}
use Rattle.nix_values.specs.JsonLocations.{last_frame, set_of, in_set}
use Rattle.nix_values.specs.JsonReading.{rest_of, parts_remaining, name_of, IsInside, IsState, IsSound, is_value_next, is_name_next, is_colon_next, opened, state_behind, entries_in, IsPlacedIn, IsBegun, IsNamed, HasNextName, IsNextLocated, IsStringAt, IsLocated, KeepsLocated, next_offset, AddsLocation}
use Rattle.nix_values.proofs.JsonStateLemmas.{inside_last, one_sort, name_fits, behind_comma}
use Rattle.nix_values.proofs.BuiltLemmas.{get_last, get_before}

-- ---- the innermost set

-- a frame is a set
set_frame : (f : Frame) (s : ℕ) → set_of (Some f) ≡ Some s → (f.is_set ≡ true) × (f.node ≡ s)
set_frame f s e =
    ⊎_elim
    (λ is. (is, same_Some f.node s (sym (cond-true f.is_set (Some f.node) None is) ∙ e)))
    (λ other. absurd (none-some s (sym (cond-false f.is_set (Some f.node) None other) ∙ e)))
    (cases_Bool f.is_set)

some_frame : (o : Option Frame) (s : ℕ) → set_of o ≡ Some s → (f : Frame) × (o ≡ Some f) × (f.is_set ≡ true) × (f.node ≡ s)
some_frame None s e = absurd (none-some s e)
some_frame (Some f) s e = let both = set_frame f s e in (f, refl, both.0, both.1)

-- a list is not a set
list_no_set : (fs : List Frame) (s : ℕ) → IsInside false fs → set_of (last_frame fs) ≡ Some s → ⊥
list_no_set fs s inside e =
    let f = some_frame (last_frame fs) s e in
    let n : ℕ = length fs - 1 in
    let some : n < length fs = slice_get_within fs n f.0 f.1 in
    let len : length fs ≡ n + 1 = omega (arith, some) in
    let is : f.0.is_set ≡ false = one_sort f.0.is_set false fs (inside_last fs n f.0 len (sym (get_or_from_slice_get fs n f.0 f.0 f.1))) inside in
    both_ways f.0.is_set is f.2

-- ---- names

-- the next name in a set begins at an offset
pub name_here : (r : Reading) (text t : List ℕ) (at len : ℕ) (f : Frame) → is_name_next r.state ≡ true → IsSound r → IsPlacedIn r →
    last_frame r.frames.items ≡ Some f → IsReadTo text at (parts_remaining r) (entries_in r) → IsTokenAt text at (string t) len →
    (name : IsNameAt text at f.node t) × (HasDistinctNames (entries_in r) → HasDistinctNames name.entries)
name_here r text t at len f next sound placed last read token =
    let fs : List Frame = r.frames.items in
    let some : length fs - 1 < length fs = slice_get_within fs (length fs - 1) f last in
    let deep : length fs - 1 + 1 ≡ length fs = omega (arith, some) in (
      record {
        parts = parts_remaining r;
        entries = entries_in r;
        read = read;
        len = len;
        token = token;
        depth = length fs;
        more = rest_of fs;
        member = name_fits r.state fs (name_of r.name) t next sound;
        inside = subst (λ d. last_outside (entries_in r) (length (entries_in r)) d ≡ Some f.node) deep (placed.outside (length fs - 1) f last);
      },
      λ distinct. distinct,
    )

-- each attribute has an offset
pub offset_found : (found : Found) (i : ℕ) (key : ℕ × List ℕ) → found_keys found i ≡ Some key → (o : ℕ) × (offset_of found i ≡ Some o)
offset_found found i key e = by (slice_get found.locations.items i) refl
  where
    by : (l : Option Location) → slice_get found.locations.items i ≡ l → (o : ℕ) × (offset_of found i ≡ Some o)
    by (Some l) is = (l.offset, ap (option_map (λ (x : Location). x.offset)) is)
    by None is =
        absurd (none-some key (sym (ap (λ (x : Option Location). option_and_then {U = ℕ × List ℕ} (λ location. option_and_then
        (λ item. option_map (λ s. (s, string_bytes item.name)) location.set) (slice_get found.items.items i)) x) is) ∙ e))

-- ---- what is kept

-- names keep their offsets while more is read
named_later : {Z : Type 0} (text : List ℕ) (at next s : ℕ) (n : Option (String Z × ℕ)) → at ≤ next → IsNamed text at s n → IsNamed text next s n
named_later text at next s None more h = h
named_later text at next s (Some n) more h = let less : n.1 < next = omega (arith, h.0, more) in (less, h.1)

next_later : (st : State) (text : List ℕ) (at next : ℕ) (r : Reading) → at ≤ next → IsNextLocated st text at r → IsNextLocated st text next r
next_later state.Value text at next r more h = λ s is. named_later text at next s r.name more (h s is)
next_later state.Colon text at next r more h = λ s is. named_later text at next s r.name more (h s is)
next_later state.ValueOrClose text at next r more h = h
next_later state.Name text at next r more h = h
next_later state.NameOrClose text at next r more h = h
next_later state.CommaOrClose text at next r more h = h
next_later state.End text at next r more h = h

pub located_later : (text : List ℕ) (at next : ℕ) (r : Reading) → at ≤ next → IsLocated text at r → IsLocated text next r
located_later text at next r more h = record {
  found = λ i s o name key off. let is = h.found i s o name key off in let less : o < next = omega (arith, is.0, more) in (less, is.1);
  next = next_later r.state text at next r more h.next;
}

-- nothing has been read
pub located_begun : (text : List ℕ) (at : ℕ) (r : Reading) → IsBegun r → IsPlacedIn r → IsLocated text at r
located_begun text at r begun placed = record {
  found = λ i s o name key off.
      absurd (none-some {A = ℕ × List ℕ} (s, name) (sym (placed.keys i ∙ ap (λ es. entry_keys es i) begun.no_entries) ∙ key));
  next = subst (λ st. IsNextLocated st text at r) (sym begun.is_state)
      (λ s is. absurd (none-some s (sym (ap (λ fs. set_of (last_frame fs)) begun.no_frames) ∙ is)));
}

-- a state in which the next name is unknown
behind_located : (s : State) (fs : List Frame) (text : List ℕ) (at : ℕ) (r : Reading) → s ≡ state_behind fs → IsNextLocated s text at r
behind_located s [] text at r is = subst (λ st. IsNextLocated st text at r) (sym is) tt
behind_located s (f ∷ fs) text at r is = subst (λ st. IsNextLocated st text at r) (sym is) tt

opened_located : (s : State) (b : Bool) (text : List ℕ) (at : ℕ) (r : Reading) → s ≡ opened b → IsNextLocated s text at r
opened_located s true text at r is = subst (λ st. IsNextLocated st text at r) (sym is) tt
opened_located s false text at r is = subst (λ st. IsNextLocated st text at r) (sym is) tt

-- the values stay the same, and the state changes
pub keeps_found : (old new : Reading) (t : Token) (at : ℕ) → new.found ≡ old.found →
    ((text : List ℕ) (len : ℕ) → 0 < len → IsStringAt text at t len → IsReadTo text at (parts_remaining old) (entries_in old) → IsLocated text at old →
    IsNextLocated new.state text (at + len) new) → KeepsLocated old t at new
keeps_found old new t at same next text len some token read h =
    let more : at ≤ at + len = omega arith in
    let later = located_later text at (at + len) old more h in
    record {
      found = λ i s o name key off. later.found i s o name (ap (λ f. found_keys f i) (sym same) ∙ key) (ap (λ f. offset_of f i) (sym same) ∙ off);
      next = next text len some token read h;
    }

-- the end of a list or a set, a comma, a colon and a name
pub keeps_close : (old new : Reading) (t : Token) (at : ℕ) (fs : List Frame) → new.found ≡ old.found → new.state ≡ state_behind fs → KeepsLocated old t at new
keeps_close old new t at fs same is = keeps_found old new t at same (λ text len some token read h. behind_located new.state fs text (at + len) new is)

pub keeps_comma : (old new : Reading) (t : Token) (at : ℕ) (b : Bool) → new.found ≡ old.found → new.state ≡ behind_comma b →
    IsInside b new.frames.items → KeepsLocated old t at new
keeps_comma old new t at true same is inside =
    keeps_found old new t at same (λ text len some token read h. subst (λ st. IsNextLocated st text (at + len) new) (sym is) tt)
keeps_comma old new t at false same is inside =
    keeps_found old new t at same (λ text len some token read h. subst (λ st. IsNextLocated st text (at + len) new) (sym is)
    (λ s set. absurd (list_no_set new.frames.items s inside set)))

colon_named : (st : State) (text : List ℕ) (at : ℕ) (r : Reading) → is_colon_next st ≡ true → IsNextLocated st text at r → HasNextName text at r
colon_named state.Colon text at r next h = h
colon_named _ text at r next h = absurd (cc)

pub keeps_colon : (old new : Reading) (t : Token) (at : ℕ) → new.found ≡ old.found → is_colon_next old.state ≡ true → new.state ≡ state.Value →
    new.frames.items ≡ old.frames.items → new.name ≡ old.name → KeepsLocated old t at new
keeps_colon old new t at same next is frames name =
    keeps_found old new t at same (λ text len some token read h. subst (λ st. IsNextLocated st text (at + len) new) (sym is)
    (λ s set.
    let more : at ≤ at + len = omega arith in
    subst (IsNamed text (at + len) s) (sym name)
    (named_later text at (at + len) s old.name more
    (colon_named old.state text at old next h.next s (ap (λ fs. set_of (last_frame fs)) (sym frames) ∙ set)))))

pub keeps_name : (old new : Reading) (t : List ℕ) (at : ℕ) → IsSound old → IsPlacedIn old → is_name_next old.state ≡ true →
    new.found ≡ old.found → new.state ≡ state.Colon → new.frames.items ≡ old.frames.items →
    ((text : List ℕ) (next s : ℕ) → at < next → IsNameAt text at s t → IsNamed text next s new.name) → KeepsLocated old (string t) at new
keeps_name old new t at sound placed next same is frames named =
    keeps_found old new (string t) at same (λ text len some token read h. subst (λ st. IsNextLocated st text (at + len) new) (sym is)
    (λ s set.
    let f = some_frame (last_frame old.frames.items) s (ap (λ fs. set_of (last_frame fs)) (sym frames) ∙ set) in
    let more : at < at + len = omega (arith, some) in
    named text (at + len) s more (subst (λ n. IsNameAt text at n t) f.3 (name_here old text t at len f.0 next sound placed f.1 read token).0)))

-- ---- a value is added

-- the name of the added value
added_named : {Z : Type 0} (n : Option (String Z × ℕ)) (text name : List ℕ) (at s o : ℕ) → IsNamed text at s n → name_of n ≡ name → next_offset n at ≡ o →
    (o < at) × IsNameAt text o s name
added_named None text name at s o h name_is off = absurd h
added_named (Some n) text name at s o h name_is off =
    let less : o < at = omega (arith, h.0, off) in
    (less, subst (λ m. IsNameAt text o s m) name_is (subst (λ k. IsNameAt text k s (string_bytes n.0)) off h.1))

value_named : (st : State) (text : List ℕ) (at s : ℕ) (r : Reading) → is_value_next st ≡ true → IsState st r.frames.items (name_of r.name) →
    IsNextLocated st text at r → set_of (last_frame r.frames.items) ≡ Some s → IsNamed text at s r.name
value_named state.Value text at s r next sound h set = h s set
value_named state.ValueOrClose text at s r next sound h set = absurd (list_no_set r.frames.items s sound.0 set)
value_named _ text at s r next sound h set = absurd (cc)

key_set : (set : Option ℕ) (n name : List ℕ) (s : ℕ) → in_set set n ≡ Some (s, name) → (set ≡ Some s) × (n ≡ name)
key_set None n name s e = absurd (none-some {A = ℕ × List ℕ} (s, name) e)
key_set (Some k) n name s e =
    let pair : ◌≡◌ {A = ℕ × List ℕ} (k, n) (s, name) = same_Some {A = ℕ × List ℕ} (k, n) (s, name) e in
    (ap Some (ap (λ p. p.0) pair), ap (λ p. p.1) pair)

keeps_added : (old mid new : Reading) (t : Token) (at : ℕ) → is_value_next old.state ≡ true → IsSound old → AddsLocation old at mid → new.found ≡ mid.found →
    ((text : List ℕ) (next : ℕ) → IsNextLocated new.state text next new) → KeepsLocated old t at new
keeps_added old mid new t at value sound adds same next text len some token read h =
    let more : at ≤ at + len = omega arith in
    let later = located_later text at (at + len) old more h in
    let n : ℕ = length old.found.items.items in
    record {
      found = λ i s o name key off.
          let key_mid : found_keys mid.found i ≡ Some (s, name) = ap (λ f. found_keys f i) (sym same) ∙ key in
          let off_mid : offset_of mid.found i ≡ Some o = ap (λ f. offset_of f i) (sym same) ∙ off in
          ⊎_elim
          (λ here.
          let both = key_set (set_of (last_frame old.frames.items)) (name_of old.name) name s
          (sym adds.key_new ∙ ap (found_keys mid.found) (sym here) ∙ key_mid) in
          let place : next_offset old.name at ≡ o =
          same_Some (next_offset old.name at) o (sym adds.offset_new ∙ ap (offset_of mid.found) (sym here) ∙ off_mid) in
          let is = added_named old.name text name at s o (value_named old.state text at s old value sound h.next both.0) both.1 place in
          let less : o < at + len = omega (arith, is.0) in
          (less, is.1))
          (λ other. later.found i s o name (sym (adds.key_same i other) ∙ key_mid) (sym (adds.offset_same i other) ∙ off_mid))
          (cases_eq i n);
      next = next text (at + len);
    }

pub keeps_scalar : (old mid new : Reading) (t : Token) (at : ℕ) (fs : List Frame) → is_value_next old.state ≡ true → IsSound old → AddsLocation old at mid →
    new.found ≡ mid.found → new.state ≡ state_behind fs → KeepsLocated old t at new
keeps_scalar old mid new t at fs value sound adds same is =
    keeps_added old mid new t at value sound adds same (λ text next. behind_located new.state fs text next new is)

pub keeps_open : (old mid new : Reading) (t : Token) (at : ℕ) (b : Bool) → is_value_next old.state ≡ true → IsSound old → AddsLocation old at mid →
    new.found ≡ mid.found → new.state ≡ opened b → KeepsLocated old t at new
keeps_open old mid new t at b value sound adds same is =
    keeps_added old mid new t at value sound adds same (λ text next. opened_located new.state b text next new is)

-- the offset of the added value
module _ (old mid : Reading) (item : Item) (location : Location) (at : ℕ) (placed : IsPlacedIn old)
    (items : mid.found.items.items ≡ old.found.items.items ++ item ∷ []) (locations : mid.found.locations.items ≡ old.found.locations.items ++ location ∷ [])
    (name : string_bytes item.name ≡ name_of old.name) (set : location.set ≡ set_of (last_frame old.frames.items))
    (offset : location.offset ≡ next_offset old.name at) where
  abbrev key_from : Option Location → Option Item → Option (ℕ × List ℕ)
  key_from p i = option_and_then {U = ℕ × List ℕ} (λ q. option_and_then (λ j. option_map (λ s. (s, string_bytes j.name)) q.set) i) p

  location_same : (i : ℕ) → (i ≡ length old.found.items.items → ⊥) → slice_get mid.found.locations.items i ≡ slice_get old.found.locations.items i
  location_same i other = ap (λ x. slice_get x i) locations ∙ get_before old.found.locations.items location i (λ is. other (is ∙ placed.count))

  location_new : slice_get mid.found.locations.items (length old.found.items.items) ≡ Some location
  location_new =
      ap (λ x. slice_get x (length old.found.items.items)) locations ∙ ap (slice_get (old.found.locations.items ++ location ∷ [])) (sym placed.count)
      ∙ get_last old.found.locations.items location

  pub location_added : AddsLocation old at mid
  location_added = record {
    key_same = λ i other.
        ap₂ key_from (location_same i other) (ap (λ x. slice_get x i) items ∙ get_before old.found.items.items item i other);
    key_new =
        ap₂ key_from location_new (ap (λ x. slice_get x (length old.found.items.items)) items ∙ get_last old.found.items.items item)
        ∙ ap₂ in_set set name;
    offset_same = λ i other. ap (option_map (λ (l : Location). l.offset)) (location_same i other);
    offset_new = ap (option_map (λ (l : Location). l.offset)) location_new ∙ ap Some offset;
  }

-- ---- a text that is read

-- reading white space
pub read_spaces : (text : List ℕ) (at n next : ℕ) (parts : List Part) (es : List Entry) → next ≡ at + n → next ≤ length text →
    ((i : ℕ) → at ≤ i → i < next → is_space (get_or text i 0) ≡ true) → IsReadTo text at parts es → IsReadTo text next parts es
read_spaces text at zero next parts es is within spaces h = let e : at ≡ next = omega (arith, is) in subst (λ k. IsReadTo text k parts es) e h
read_spaces text at (suc n) next parts es is within spaces h =
    let last : at + n + 1 ≡ next = omega (arith, is) in
    let there : at + n < length text = omega (arith, is, within) in
    let past : at + n ≤ length text = omega (arith, there) in
    let inside : at + n < next = omega (arith, last) in
    let from : at ≤ at + n = omega arith in
    subst (λ k. IsReadTo text k parts es) last
    (past_space (at + n) parts es
    (read_spaces text at n (at + n) parts es refl past (λ i low high. let before : i < next = omega (arith, high, last) in spaces i low before) h)
    there (spaces (at + n) from inside))
