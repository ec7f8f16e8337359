-- The position of the reader of JSON after each token.
use Rattle.std.proofs.Common.{◌≡◌, ◌∙◌, ℕ, zero, suc, ◌+◌, ◌-◌, ◌<◌, ◌≤◌, Bool, true, false, cond, List, [], ◌∷◌, ◌++◌, length, get_or, take, map, Option, Some, None, ⊎_elim, inl, inr, sym, refl, ap, ap₂, subst, arith, ◌⊎◌, string_bytes, option_map}
use Rattle.std.specs.Prelude.{slice_get, option_and_then, if◌then◌else◌}
use Rattle.std.proofs.lemmas.Bool.{cases_Bool, cases_eq, cases_lt, both_ways, cond-true, cond-false, le-ltb}
use Rattle.std.proofs.lemmas.List.{length-append, length-map, map-append}
use Rattle.std.proofs.lemmas.Option.{slice_get_past, slice_get_within, slice_get-get_or, same_Some, none-some}
use Rattle.nix_values.specs.declared.data.Item.{Item}
use Rattle.nix_values.specs.declared.json_found.Found.{Found}
use Rattle.nix_values.specs.declared.json_found.Location.{Location}
use Rattle.nix_values.specs.declared.json_reader.Frame.{Frame}
use Rattle.nix_values.specs.declared.attributes.Attributes.{Attributes}
use Rattle.nix_values.specs.Contents.{Entry, entry_of}
use Rattle.nix_values.specs.Built.{is_set_plain}
use Rattle.nix_values.specs.FoundKeys.{found_keys}
use Rattle.nix_values.specs.IndexedAttributes.{found_in, IsConsistent, IsInserted}
use Rattle.nix_values.proofs.AttributeLemmas.{key_yes, same_key}
use Rattle.nix_values.specs.RepeatedNames.{is_outside, last_outside, is_set_entry, entry_key, entry_keys}
use Rattle.nix_values.specs.declared.json_reader.Reading.{Reading}
use Rattle.nix_values.specs.JsonReading.{opened_plain, name_of, entries_in, IsPlacedIn, IsAdded}
use Rattle.nix_values.specs.Attached.{IsAttached}
use Rattle.nix_values.specs.JsonLocations.{entries_of, last_frame, set_of, IsPlaced, in_set}
use Rattle.nix_values.proofs.AttributeInsertLemmas.{Extends, later_sound, later_finds}
use Rattle.nix_values.proofs.BuiltLemmas.{get_last, get_before}
use Rattle.nix_values.proofs.RepeatedNameLemmas.{get_front, outside_below, key_front, key_added, outside_same, outside_added}

-- ---- nothing has been read

pub placed_begun : (found : Found) (a : Attributes) (frames : List Frame) → found.items.items ≡ [] → found.locations.items ≡ [] → frames ≡ [] →
    IsConsistent (found_keys found) a → IsPlaced found a frames
placed_begun found a frames items locations none sound = record {
  sound = sound;
  count = ap length locations ∙ sym (ap length items);
  keys = λ i. keys_none i ∙ sym (entries_none i);
  complete = λ i s n key none_found. none-some {A = ℕ × List ℕ} (s, n) (sym (keys_none i) ∙ key);
  outside = λ depth frame e. absurd (frame_none depth frame e);
  kinds = λ depth frame e. absurd (frame_none depth frame e);
}
  where
    keys_none : (i : ℕ) → found_keys found i ≡ None
    keys_none i =
        ap (λ ps. option_and_then {U = ℕ × List ℕ} (λ location. option_and_then (λ item. option_map (λ s. (s, string_bytes item.name)) location.set)
        (slice_get found.items.items i))
        (slice_get ps i)) locations

    entries_none : (i : ℕ) → entry_keys (entries_of found) i ≡ None
    entries_none i = ap (λ xs. entry_keys (map entry_of xs) i) items

    frame_none : (depth : ℕ) (frame : Frame) → slice_get frames depth ≡ Some frame → ⊥
    frame_none depth frame e = let wrong : ◌≡◌ {A = Option Frame} None (Some frame) = sym (ap (λ fs. slice_get fs depth) none) ∙ e in absurd (cc)

-- ---- which attribute the next value is

outside_none : (es : List Entry) (i : ℕ) → last_outside es i 0 ≡ None
outside_none es zero = refl
outside_none es (suc i) = cond-false (is_outside (slice_get es i) 0) (Some i) (last_outside es i 0) (by (slice_get es i)) ∙ outside_none es i
  where
    by : (o : Option Entry) → is_outside o 0 ≡ false
    by None = refl
    by (Some e) = le-ltb e.depth 0 (omega arith)

pub last_cases : (frames : List Frame) → ((length frames ≡ 0) × (last_frame frames ≡ None))
    ⊎ ((frame : Frame) × (last_frame frames ≡ Some frame) × (0 < length frames))
last_cases [] = inl (refl, refl)
last_cases (f ∷ fs) = inr (get_or (f ∷ fs) (length (f ∷ fs) - 1) f, slice_get-get_or (f ∷ fs) (length (f ∷ fs) - 1) f (omega arith), omega arith)

-- the set and the name of a value with a parent
abbrev key_under : List Entry → List ℕ → Option ℕ → Option (ℕ × List ℕ)
key_under es name parent = option_and_then {U = ℕ × List ℕ} (λ p. if is_set_entry (slice_get es p) then Some (p, name) else None) parent

key_kind : (es : List Entry) (name : List ℕ) (f : Frame) → is_set_entry (slice_get es f.node) ≡ f.is_set →
    key_under es name (Some f.node) ≡ in_set (set_of (Some f)) name
key_kind es name f kind = ap (λ b. cond {A = Option (ℕ × List ℕ)} b (Some (f.node, name)) None) kind ∙ by f.is_set
  where
    by : (b : Bool) → cond {A = Option (ℕ × List ℕ)} b (Some (f.node, name)) None ≡ in_set (cond {A = Option ℕ} b (Some f.node) None) name
    by true = refl
    by false = refl

pub next_key : (found : Found) (a : Attributes) (frames : List Frame) (e : Entry) → IsPlaced found a frames → e.depth ≡ length frames →
    entry_key (entries_of found) (length (entries_of found)) e ≡ in_set (set_of (last_frame frames)) e.name
next_key found a frames e placed deep =
    let es : List Entry = entries_of found in
    ⊎_elim
    (λ none.
    ap (key_under es e.name) (ap (last_outside es (length es)) (deep ∙ none.0) ∙ outside_none es (length es))
    ∙ sym (ap (λ o. in_set (set_of o) e.name) none.1))
    (λ some.
    let last : length frames - 1 + 1 ≡ length frames = omega (arith, some.2) in
    ap (key_under es e.name) (ap (last_outside es (length es)) (deep ∙ sym last) ∙ placed.outside (length frames - 1) some.0 some.1)
    ∙ key_kind es e.name some.0 (placed.kinds (length frames - 1) some.0 some.1)
    ∙ sym (ap (λ o. in_set (set_of o) e.name) some.1))
    (last_cases frames)

-- ---- a value is added

module _ (found new : Found) (a b : Attributes) (frames : List Frame) (item : Item) (location : Location) (e : Entry) (placed : IsPlaced found a frames)
    (items : new.items.items ≡ found.items.items ++ item ∷ []) (locations : new.locations.items ≡ found.locations.items ++ location ∷ [])
    (entry : entry_of item ≡ e) (deep : e.depth ≡ length frames) (set : location.set ≡ set_of (last_frame frames))
    (attached : IsAttached (found_keys found) a (set_of (last_frame frames)) e.name (length found.items.items) b) where
  abbrev es : List Entry
  es = entries_of found

  more_entries : entries_of new ≡ es ++ e ∷ []
  more_entries = ap (map entry_of) items ∙ map-append entry_of found.items.items (item ∷ []) ∙ ap (λ x. es ++ x ∷ []) entry

  len_entries : length es ≡ length found.items.items
  len_entries = length-map found.items.items entry_of

  abbrev key_of : Option Location → Option Item → Option (ℕ × List ℕ)
  key_of p i = option_and_then {U = ℕ × List ℕ} (λ q. option_and_then (λ j. option_map (λ s. (s, string_bytes j.name)) q.set) i) p

  keys_same : (i : ℕ) → (i ≡ length found.items.items → ⊥) → found_keys new i ≡ found_keys found i
  keys_same i other =
      ap₂ key_of
      (ap (λ x. slice_get x i) locations ∙ get_before found.locations.items location i (λ is. other (is ∙ placed.count)))
      (ap (λ x. slice_get x i) items ∙ get_before found.items.items item i other)

  keys_new : found_keys new (length found.items.items) ≡ in_set (set_of (last_frame frames)) e.name
  keys_new =
      ap₂ key_of
      (ap (λ x. slice_get x (length found.items.items)) locations ∙ ap (slice_get (found.locations.items ++ location ∷ [])) (sym placed.count)
      ∙ get_last found.locations.items location)
      (ap (λ x. slice_get x (length found.items.items)) items ∙ get_last found.items.items item)
      ∙ ap₂ in_set set (ap (λ x. x.name) entry)

  keys_past : found_keys found (length found.items.items) ≡ None
  keys_past = ap (λ p. key_of p (slice_get found.items.items (length found.items.items)))
      (slice_get_past found.locations.items (length found.items.items) (omega (arith, placed.count)))

  keys_extend : Extends (found_keys found) (found_keys new)
  keys_extend i key is =
      ⊎_elim
      (λ here. let wrong : ◌≡◌ {A = Option (ℕ × List ℕ)} None (Some key) = sym keys_past ∙ ap (found_keys found) (sym here) ∙ is in absurd (cc))
      (λ other. keys_same i other ∙ is)
      (cases_eq i (length found.items.items))

  sound_new : IsConsistent (found_keys new) b
  sound_new = by (set_of (last_frame frames)) refl
    where
      by : (o : Option ℕ) → set_of (last_frame frames) ≡ o → IsConsistent (found_keys new) b
      by None is =
          let same : b ≡ a = subst (λ x. IsAttached (found_keys found) a x e.name (length found.items.items) b) is attached in
          subst (λ x. IsConsistent (found_keys new) x) (sym same) (later_sound (found_keys found) (found_keys new) a placed.sound keys_extend)
      by (Some s) is =
          let inserted : IsInserted (found_keys found) a s e.name (length found.items.items) b =
          subst (λ x. IsAttached (found_keys found) a x e.name (length found.items.items) b) is attached in
          (inserted (found_keys new) keys_extend (keys_new ∙ ap (λ x. in_set x e.name) is)).sound

  -- all earlier attributes are found, and so is the new value
  complete_new : (i s : ℕ) (n : List ℕ) → found_keys new i ≡ Some (s, n) → found_in b (found_keys new) s n ≡ None → ⊥
  complete_new i s n key none = by (set_of (last_frame frames)) refl
    where
      before : found_in a (found_keys new) s n ≡ None → (i ≡ length found.items.items → ⊥) → ⊥
      before is other =
          placed.complete i s n (sym (keys_same i other) ∙ key) (sym (later_finds (found_keys found) (found_keys new) a placed.sound keys_extend s n) ∙ is)

      by : (o : Option ℕ) → set_of (last_frame frames) ≡ o → ⊥
      by None is =
          let same : b ≡ a = subst (λ x. IsAttached (found_keys found) a x e.name (length found.items.items) b) is attached in
          before (ap (λ x. found_in x (found_keys new) s n) (sym same) ∙ none)
          (λ here. none-some {A = ℕ × List ℕ} (s, n) (sym (ap (λ x. in_set x e.name) is) ∙ sym keys_new ∙ ap (found_keys new) (sym here) ∙ key))
      by (Some t) is =
          let inserted : IsInserted (found_keys found) a t e.name (length found.items.items) b =
          subst (λ x. IsAttached (found_keys found) a x e.name (length found.items.items) b) is attached in
          let new_key : found_keys new (length found.items.items) ≡ Some (t, e.name) = keys_new ∙ ap (λ x. in_set x e.name) is in
          let with_it = inserted (found_keys new) keys_extend new_key in
          ⊎_elim
          (λ same.
          none-some (length found.items.items)
          (sym none ∙ with_it.finds s n ∙ cond-true (same_key t e.name s n) (Some (length found.items.items)) (found_in a (found_keys new) s n) same))
          (λ apart.
          before (sym (cond-false (same_key t e.name s n) (Some (length found.items.items)) (found_in a (found_keys new) s n) apart)
          ∙ sym (with_it.finds s n) ∙ none)
          (λ here. both_ways (same_key t e.name s n) apart
          (key_yes (Some (t, e.name)) s n (sym new_key ∙ ap (found_keys new) (sym here) ∙ key))))
          (cases_Bool (same_key t e.name s n))

  keys_placed : (i : ℕ) → found_keys new i ≡ entry_keys (entries_of new) i
  keys_placed i =
      ⊎_elim
      (λ here.
      ap (found_keys new) here ∙ keys_new ∙ sym (next_key found a frames e placed deep) ∙ sym (key_added es e)
      ∙ ap (entry_keys (es ++ e ∷ [])) (len_entries ∙ sym here) ∙ ap (λ x. entry_keys x i) (sym more_entries))
      (λ other. keys_same i other ∙ placed.keys i ∙ by (λ is. other (is ∙ len_entries)) ∙ ap (λ x. entry_keys x i) (sym more_entries))
      (cases_eq i (length found.items.items))
    where
      by : (i ≡ length es → ⊥) → entry_keys es i ≡ entry_keys (es ++ e ∷ []) i
      by other =
          ⊎_elim
          (λ less. sym (key_front es (e ∷ []) i less))
          (λ more.
          let past : length (es ++ e ∷ []) ≤ i = omega (arith, length-append es (e ∷ []), other, more) in
          ap (option_and_then (entry_key es i)) (slice_get_past es i more)
          ∙ sym (ap (option_and_then (entry_key (es ++ e ∷ []) i)) (slice_get_past (es ++ e ∷ []) i past)))
          (cases_lt i (length es))

  len_new : length (entries_of new) ≡ length es + 1
  len_new = ap length more_entries ∙ length-append es (e ∷ [])

  pub placed_added : IsPlaced new b frames
  placed_added = record {
    sound = sound_new;
    count =
        let one : length new.locations.items ≡ length found.locations.items + 1 = ap length locations ∙ length-append found.locations.items (location ∷ []) in
        let two : length new.items.items ≡ length found.items.items + 1 = ap length items ∙ length-append found.items.items (item ∷ []) in
        omega (arith, one, two, placed.count);
    keys = keys_placed;
    complete = complete_new;
    outside = λ depth frame is.
        let inside : depth < length frames = slice_get_within frames depth frame is in
        ap₂ (λ x n. last_outside x n (depth + 1)) more_entries len_new
        ∙ outside_same es e (depth + 1) (omega (arith, inside, deep))
        ∙ placed.outside depth frame is;
    kinds = λ depth frame is.
        let before : frame.node < length es = outside_below es (length es) (depth + 1) frame.node (placed.outside depth frame is) in
        ap is_set_entry (ap (λ x. slice_get x frame.node) more_entries ∙ get_front es (e ∷ []) frame.node before) ∙ placed.kinds depth frame is;
  }

-- ---- a list or a set begins, or ends

get_other : {X : Type 0} (xs : List X) (y z : X) (i : ℕ) → slice_get (xs ++ y ∷ []) i ≡ Some z → ((i ≡ length xs) × (y ≡ z)) ⊎ (slice_get xs i ≡ Some z)
get_other xs y z i e =
    ⊎_elim
    (λ here. inl (here, same_Some y z (sym (get_last xs y) ∙ ap (slice_get (xs ++ y ∷ [])) (sym here) ∙ e)))
    (λ other. inr (sym (get_before xs y i other) ∙ e))
    (cases_eq i (length xs))

pub placed_opened : (found : Found) (a : Attributes) (frames new : List Frame) (f : Frame) (es : List Entry) (e : Entry) → IsPlaced found a frames →
    new ≡ frames ++ f ∷ [] → entries_of found ≡ es ++ e ∷ [] → e.depth ≡ length frames → f.node ≡ length es → is_set_plain e.plain ≡ f.is_set →
    IsPlaced found a new
placed_opened found a frames new f es e placed is entries deep node kind = record {
  sound = placed.sound;
  count = placed.count;
  keys = placed.keys;
  complete = placed.complete;
  outside = λ depth frame at. ⊎_elim
      (λ here.
      let len : length (entries_of found) ≡ length es + 1 = ap length entries ∙ length-append es (e ∷ []) in
      ap₂ (λ x n. last_outside x n (depth + 1)) entries len
      ∙ outside_added es e (depth + 1) (omega (arith, deep, here.0))
      ∙ ap Some (sym node) ∙ ap (λ x. Some x.node) here.1)
      (λ there. placed.outside depth frame there)
      (get_other frames f frame depth (sym (ap (λ x. slice_get x depth) is) ∙ at));
  kinds = λ depth frame at. ⊎_elim
      (λ here.
      ap (λ x. is_set_entry (slice_get (entries_of found) x.node)) (sym here.1)
      ∙ ap₂ (λ x n. is_set_entry (slice_get x n)) entries node
      ∙ ap is_set_entry (get_last es e) ∙ kind ∙ ap (λ x. x.is_set) here.1)
      (λ there. placed.kinds depth frame there)
      (get_other frames f frame depth (sym (ap (λ x. slice_get x depth) is) ∙ at));
}

get_taken : {X : Type 0} (n : ℕ) (xs : List X) (x : X) (i : ℕ) → slice_get (take n xs) i ≡ Some x → slice_get xs i ≡ Some x
get_taken zero xs x i e = absurd (none-some x e)
get_taken (suc n) [] x i e = absurd (none-some x e)
get_taken (suc n) (y ∷ ys) x zero e = e
get_taken (suc n) (y ∷ ys) x (suc i) e = get_taken n ys x i e

pub placed_closed : (found : Found) (a : Attributes) (frames new : List Frame) (n : ℕ) → IsPlaced found a frames → new ≡ take n frames → IsPlaced found a new
placed_closed found a frames new n placed is = record {
  sound = placed.sound;
  count = placed.count;
  keys = placed.keys;
  complete = placed.complete;
  outside = λ depth frame at. placed.outside depth frame (get_taken n frames frame depth (sym (ap (λ x. slice_get x depth) is) ∙ at));
  kinds = λ depth frame at. placed.kinds depth frame (get_taken n frames frame depth (sym (ap (λ x. slice_get x depth) is) ∙ at));
}

opened_kind : (b : Bool) → is_set_plain (opened_plain b) ≡ b
opened_kind true = refl
opened_kind false = refl

pub placed_open : (old mid : Reading) (b : Bool) (f : Frame) (frames : List Frame) → IsPlacedIn mid → IsAdded old (opened_plain b) mid → f.is_set ≡ b →
    f.node ≡ length (entries_in old) → frames ≡ mid.frames.items ++ f ∷ [] → IsPlaced mid.found mid.attributes frames
placed_open old mid b f frames placed added is node more =
    placed_opened mid.found mid.attributes mid.frames.items frames f (entries_in old)
    (record { depth = length old.frames.items; name = name_of old.name; plain = opened_plain b }) placed more added.entries
    (ap length (sym added.frames)) node (opened_kind b ∙ sym is)
