-- What the reader of JSON does with each token.
use Rattle.std.proofs.Common.{◌≡◌, ◌∙◌, ◌-◌, ◌<◌, true, false, Bool, List, [], ◌∷◌, ◌++◌, length, take, ap, sym, refl, subst, arith, append-nil, inl, inr, ⊎_elim, ℕ, Some, None, Result}
use Rattle.std.specs.Prelude.{Ok, Err, option_and_then}
use Rattle.std.proofs.lemmas.Bool.{cases_lt}
use Rattle.std.proofs.lemmas.List.{nil_from_length}
use Rattle.std.proofs.lemmas.Option.{none-some}
use Rattle.nix_values.specs.declared.json_reader.TheConstants.{MOST_DEPTH}
use Rattle.nix_values.specs.declared.json_reader.State.{State}
use Rattle.nix_values.specs.declared.json_reader.State.TheVariants as state
use Rattle.nix_values.specs.declared.json_reader.Frame.{Frame}
use Rattle.nix_values.specs.declared.json_reader.Reading.{Reading}
use Rattle.nix_values.specs.declared.json_error.JsonStop.{JsonStop}
use Rattle.nix_values.specs.declared.json_error.JsonStop.TheVariants.{Memory, Refused}
use Rattle.nix_values.specs.Contents.{Plain, text, Entry}
use Rattle.nix_values.specs.Json.{Token, Part, in_front, parts_from, values_of, json_values, opening, closing, comma, colon, string, scalar, entry}
use Rattle.nix_values.specs.JsonReading.{parts_in, parts_remaining, name_of, IsInside, IsState, IsSound, is_value_next, is_name_next, is_close_next, is_comma_next, is_colon_next, opened, opened_plain, state_behind, entries_in, IsPlacedIn, IsDistinct, IsAdded, KeepsLocated, Takes, IfRefused, IfStopped, IsTokenError, RepeatsWith, RepeatsIn, TakesOrNot}
use Rattle.nix_values.specs.JsonErrors.{error_at, unfitting}
use Rattle.nix_values.proofs.JsonReasonLemmas.{plain_unfit}
use Rattle.nix_values.proofs.JsonStateLemmas.{rest_pop, parts_behind, state_sound, scalar_fits, name_fits, string_scalar, opened_sound, open_fits, close_fits, behind_comma, comma_fits, comma_sound, colon_fits, none_inside}

-- what a refusal of a token says
pub stopped : (stop : JsonStop) (old : Reading) (token : Token) (at : ℕ) → parts_from (parts_remaining old) token ≡ None →
    stop ≡ Refused (error_at (unfitting (parts_remaining old) token) at) →
    IfStopped stop (parts_from (parts_remaining old) token ≡ None) (RepeatsWith old token) × IsTokenError stop old token at
stopped Memory old token at h is = (tt, tt)
stopped (Refused error) old token at h is = (
  (λ other. h, λ rest more e. absurd (none-some more (sym (ap (λ taken. option_and_then (λ r. in_front r.1 (values_of r.0 rest)) taken) h) ∙ e))),
  inl (h, cc is),
)

pub stopped_text : (stop : JsonStop) (bytes : List ℕ) → json_values bytes ≡ None → IfStopped stop (json_values bytes ≡ None) (RepeatsIn bytes)
stopped_text Memory bytes h = tt
stopped_text (Refused error) bytes h = (λ other. h, λ found e. absurd (none-some found (sym h ∙ e)))

pub refused : (stop : JsonStop) (none : Type 0) → none → IfRefused stop none
refused Memory none h = tt
refused (Refused error) none h = h

-- no name is known in a state that needs none
no_name : (s : State) (fs : List Frame) (name : List ℕ) → is_close_next s ≡ true → IsState s fs name → name ≡ []
no_name state.ValueOrClose fs name next h = h.1
no_name state.NameOrClose fs name next h = h.1
no_name state.CommaOrClose fs name next h = h.1
no_name _ fs name next h = absurd (cc)

-- the remaining parts and the soundness of a reading, given its state, its frames and its name
pub remaining_in : (r : Reading) (s : State) (fs : List Frame) (name : List ℕ) → r.state ≡ s → r.frames.items ≡ fs → name_of r.name ≡ name →
    parts_in s fs name ≡ parts_remaining r
remaining_in r s fs name s_is fs_is name_is =
    sym (ap (λ t. parts_in t r.frames.items (name_of r.name)) s_is ∙ ap (λ gs. parts_in s gs (name_of r.name)) fs_is ∙ ap (parts_in s fs) name_is)

pub sound_in : (r : Reading) (s : State) (fs : List Frame) (name : List ℕ) → r.state ≡ s → r.frames.items ≡ fs → name_of r.name ≡ name →
    IsState s fs name → IsSound r
sound_in r s fs name s_is fs_is name_is h =
    subst (λ t. IsState t r.frames.items (name_of r.name)) (sym s_is)
    (subst (λ gs. IsState s gs (name_of r.name)) (sym fs_is) (subst (IsState s fs) (sym name_is) h))

-- a value that contains no others
pub takes_scalar : (old mid new : Reading) (at : ℕ) (p : Plain) → IsSound old → is_value_next old.state ≡ true → IsAdded old p mid →
    new.state ≡ state_behind mid.frames.items → new.frames.items ≡ mid.frames.items → name_of new.name ≡ name_of mid.name →
    entries_in new ≡ entries_in mid → IsPlacedIn new → IsDistinct new → KeepsLocated old (scalar p) at new → Takes old (scalar p) at new
takes_scalar old mid new at p sound next added s_is fs_is name_is es_is placed distinct located =
    let fs : List Frame = old.frames.items in
    let st : new.state ≡ state_behind fs = s_is ∙ ap state_behind added.frames in
    let frames : new.frames.items ≡ fs = fs_is ∙ added.frames in
    let name : name_of new.name ≡ [] = name_is ∙ added.no_name in
    let es : List Entry = entry (length fs) (name_of old.name) p in
    record {
      added = es;
      parts = scalar_fits old.state fs (name_of old.name) p next sound
          ∙ ap (λ (ps : List Part). Some (ps, es)) (sym (parts_behind fs []) ∙ remaining_in new (state_behind fs) fs [] st frames name);
      entries = es_is ∙ added.entries;
      sound = sound_in new (state_behind fs) fs [] st frames name (state_sound fs [] refl);
      placed = placed;
      distinct = distinct;
      located = located;
    }

-- the beginning of a list or a set
pub takes_open : (old mid new : Reading) (at : ℕ) (b : Bool) (f : Frame) → IsSound old → is_value_next old.state ≡ true → length old.frames.items < MOST_DEPTH →
    IsAdded old (opened_plain b) mid → f.is_set ≡ b → new.state ≡ opened b → new.frames.items ≡ mid.frames.items ++ f ∷ [] →
    name_of new.name ≡ name_of mid.name → entries_in new ≡ entries_in mid → IsPlacedIn new → IsDistinct new → KeepsLocated old (opening b) at new →
    Takes old (opening b) at new
takes_open old mid new at b f sound next room added is s_is fs_is name_is es_is placed distinct located =
    let fs : List Frame = old.frames.items in
    let frames : new.frames.items ≡ fs ++ f ∷ [] = fs_is ∙ ap (λ gs. gs ++ f ∷ []) added.frames in
    let name : name_of new.name ≡ [] = name_is ∙ added.no_name in
    let es : List Entry = entry (length fs) (name_of old.name) (opened_plain b) in
    record {
      added = es;
      parts = open_fits b old.state fs f (name_of old.name) [] next room sound
          ∙ ap (λ (ps : List Part). Some (ps, es)) (remaining_in new (opened b) (fs ++ f ∷ []) [] s_is frames name);
      entries = es_is ∙ added.entries;
      sound = sound_in new (opened b) (fs ++ f ∷ []) [] s_is frames name (opened_sound b fs f [] is refl);
      placed = placed;
      distinct = distinct;
      located = located;
    }

-- a name
pub takes_name : (old new : Reading) (at : ℕ) (t : List ℕ) → IsSound old → is_name_next old.state ≡ true → new.state ≡ state.Colon →
    new.frames.items ≡ old.frames.items → name_of new.name ≡ t → entries_in new ≡ entries_in old → IsPlacedIn new → IsDistinct new →
    KeepsLocated old (string t) at new → Takes old (string t) at new
takes_name old new at t sound next s_is fs_is name_is es_is placed distinct located =
    let fs : List Frame = old.frames.items in
    let none : List Entry = [] in
    record {
      added = [];
      parts = name_fits old.state fs (name_of old.name) t next sound
          ∙ ap (λ (ps : List Part). Some (ps, none)) (remaining_in new state.Colon fs t s_is fs_is name_is);
      entries = es_is ∙ sym (append-nil (entries_in old));
      sound = sound_in new state.Colon fs t s_is fs_is name_is tt;
      placed = placed;
      distinct = distinct;
      located = located;
    }

-- the end of a list or a set
pub takes_close : (old new : Reading) (at : ℕ) (b : Bool) → IsSound old → is_close_next old.state ≡ true → IsInside b old.frames.items →
    new.state ≡ state_behind new.frames.items → new.frames.items ≡ take (length old.frames.items - 1) old.frames.items →
    name_of new.name ≡ name_of old.name → entries_in new ≡ entries_in old → IsPlacedIn new → IsDistinct new → KeepsLocated old (closing b) at new →
    Takes old (closing b) at new
takes_close old new at b sound next inside s_is fs_is name_is es_is placed distinct located =
    let fs : List Frame = old.frames.items in
    let none : List Entry = [] in
    let some : 0 < length fs = elim (cases_lt 0 (length fs)) [
      | inl more ↦ more
      | inr less ↦
          let zero_len : length fs ≡ 0 = omega (arith, less) in
          absurd (none_inside b fs (nil_from_length fs zero_len) inside)
    ] in
    let name : name_of new.name ≡ [] = name_is ∙ no_name old.state fs (name_of old.name) next sound in
    record {
      added = [];
      parts = close_fits b old.state fs (name_of old.name) next inside sound
          ∙ ap (λ (ps : List Part). Some (ps, none)) (sym (rest_pop fs new.frames.items some fs_is)
          ∙ sym (parts_behind new.frames.items []) ∙ remaining_in new (state_behind new.frames.items) new.frames.items [] s_is refl name);
      entries = es_is ∙ sym (append-nil (entries_in old));
      sound = sound_in new (state_behind new.frames.items) new.frames.items [] s_is refl name (state_sound new.frames.items [] refl);
      placed = placed;
      distinct = distinct;
      located = located;
    }

-- a comma
pub takes_comma : (old new : Reading) (at : ℕ) (b : Bool) → IsSound old → is_comma_next old.state ≡ true → IsInside b old.frames.items →
    new.state ≡ behind_comma b → new.frames.items ≡ old.frames.items → name_of new.name ≡ name_of old.name → entries_in new ≡ entries_in old →
    IsPlacedIn new → IsDistinct new → KeepsLocated old comma at new → Takes old comma at new
takes_comma old new at b sound next inside s_is fs_is name_is es_is placed distinct located =
    let fs : List Frame = old.frames.items in
    let name : List ℕ = name_of old.name in
    let none : List Entry = [] in
    record {
      added = [];
      parts = comma_fits b old.state fs name next inside sound
          ∙ ap (λ (ps : List Part). Some (ps, none)) (remaining_in new (behind_comma b) fs name s_is fs_is name_is);
      entries = es_is ∙ sym (append-nil (entries_in old));
      sound = sound_in new (behind_comma b) fs name s_is fs_is name_is (comma_sound b old.state fs name next inside sound);
      placed = placed;
      distinct = distinct;
      located = located;
    }

-- a colon
pub takes_colon : (old new : Reading) (at : ℕ) → is_colon_next old.state ≡ true → new.state ≡ state.Value →
    new.frames.items ≡ old.frames.items → name_of new.name ≡ name_of old.name → entries_in new ≡ entries_in old → IsPlacedIn new → IsDistinct new →
    KeepsLocated old colon at new → Takes old colon at new
takes_colon old new at next s_is fs_is name_is es_is placed distinct located =
    let fs : List Frame = old.frames.items in
    let name : List ℕ = name_of old.name in
    let none : List Entry = [] in
    record {
      added = [];
      parts = colon_fits old.state fs name next ∙ ap (λ (ps : List Part). Some (ps, none)) (remaining_in new state.Value fs name s_is fs_is name_is);
      entries = es_is ∙ sym (append-nil (entries_in old));
      sound = sound_in new state.Value fs name s_is fs_is name_is tt;
      placed = placed;
      distinct = distinct;
      located = located;
    }

-- if a refusal says P and P implies Q, it says Q
pub refused_map : (stop : JsonStop) (P Q : Type 0) → (P → Q) → IfRefused stop P → IfRefused stop Q
refused_map Memory P Q f h = tt
refused_map (Refused error) P Q f h = f h

pub stopped_map : (stop : JsonStop) (P Q R S : Type 0) → (P → Q) → (R → S) → IfStopped stop P R → IfStopped stop Q S
stopped_map Memory P Q R S f g h = tt
stopped_map (Refused error) P Q R S f g h = (λ other. f (h.0 other), g h.1)

pub stopped_refused : (stop : JsonStop) (P : Type 0) (bytes : List ℕ) → (P → json_values bytes ≡ None) → IfRefused stop P →
    IfStopped stop (json_values bytes ≡ None) (RepeatsIn bytes)
stopped_refused Memory P bytes f h = tt
stopped_refused (Refused error) P bytes f h = stopped_text (Refused error) bytes (f h)

-- the error of a string that is taken as a value is that of the string
text_error : (stop : JsonStop) (old : Reading) (t : List ℕ) (at : ℕ) →
    parts_from (parts_remaining old) (string t) ≡ parts_from (parts_remaining old) (scalar (text t)) → IsTokenError stop old (scalar (text t)) at →
    IsTokenError stop old (string t) at
text_error Memory old t at same h = tt
text_error (Refused error) old t at same h =
    ⊎_elim
    (λ wrong. inl (
      same ∙ wrong.0,
      wrong.1 ∙ ap (λ reason. error_at reason at)
          (plain_unfit (parts_remaining old) (scalar (text t)) refl ∙ sym (plain_unfit (parts_remaining old) (string t) refl)),
    ))
    (λ again. let other : scalar (text t) ≡ string again.name = again.token_is in absurd (cc))
    h

-- a string is a value unless a name comes next
pub text_taken : (r : Result (Unit {0}) JsonStop) (old new : Reading) (t : List ℕ) (at : ℕ) → is_name_next old.state ≡ false → IsSound old →
    TakesOrNot r old (scalar (text t)) at new → TakesOrNot r old (string t) at new
text_taken (Ok x) old new t at next sound h = record {
  added = h.added;
  parts = sym (string_scalar old.state old.frames.items (name_of old.name) t next sound) ∙ h.parts;
  entries = h.entries;
  sound = h.sound;
  placed = h.placed;
  distinct = h.distinct;
  located = λ all len some token read found. h.located all len some tt read found;
}
text_taken (Err stop) old new t at next sound h =
    let same : parts_from (parts_remaining old) (scalar (text t)) ≡ parts_from (parts_remaining old) (string t) =
    string_scalar old.state old.frames.items (name_of old.name) t next sound in (
      stopped_map stop (parts_from (parts_remaining old) (scalar (text t)) ≡ None) (parts_from (parts_remaining old) (string t) ≡ None)
          (RepeatsWith old (scalar (text t))) (RepeatsWith old (string t))
          (λ none. sym same ∙ none)
          (λ repeats rest more e. repeats rest more (ap (λ taken. option_and_then (λ r. in_front r.1 (values_of r.0 rest)) taken) same ∙ e)) h.0,
      text_error stop old t at (sym same) h.1,
    )
