-- The error of a JSON text whose tokens are read one by one.
use Rattle.std.proofs.Common.{◌≡◌, ◌∙◌, ℕ, ◌+◌, ◌-◌, ◌<◌, ◌≤◌, true, false, List, [], ◌∷◌, ◌++◌, length, get_or, drop, ap, ap₂, sym, refl, subst, arith, ⊎_elim, inl, inr, Option, Some, None}
use Rattle.std.specs.Prelude.{option_map, Ok, Err}
use Rattle.nix_values.specs.declared.json_reader.State.TheVariants as state
use Rattle.nix_values.specs.declared.json_reader.Reading.{Reading}
use Rattle.nix_values.specs.declared.json_error.JsonStop.{JsonStop}
use Rattle.nix_values.specs.declared.json_error.JsonStop.TheVariants.{Memory, Refused}
use Rattle.nix_values.specs.declared.json_error.JsonError.{JsonError}
use Rattle.nix_values.specs.declared.json_reader.Frame.{Frame}
use Rattle.nix_values.specs.Json.{Token, opening, closing, comma, colon, string, scalar, is_space, token_at, Part, value}
use Rattle.nix_values.specs.JsonNames.{IsTokenAt, IsReadTo, at_start, past_token, IsNameAt, IsRepeated, IsJsonError}
use Rattle.nix_values.specs.RepeatedNames.{HasDistinctNames}
use Rattle.nix_values.proofs.JsonDistinctLemmas.{distinct_next}
use Rattle.std.proofs.lemmas.List.{drop_all}
use Rattle.nix_values.proofs.JsonNameLemmas.{name_here, offset_found, located_later, located_begun, read_spaces}
use Rattle.nix_values.specs.JsonErrors.{stop_at, error_at, expected, token_error, stop_at_end, stop_in, json_stop, error_of, json_error}
use Rattle.nix_values.specs.JsonReading.{parts_remaining, name_of, entries_in, IsPlacedIn, IsDistinct, IsLocated, IsStringAt, IsRepeat, IsSound, is_end, reason_in, IsBegun, IfRefused, IsRefusal, FoundOrNot, IsTextError}
use Rattle.nix_values.proofs.JsonStateLemmas.{nothing_remaining, something_remaining}
use Rattle.nix_values.proofs.JsonReadingLemmas.{remaining_in}
use Rattle.nix_values.proofs.JsonReasonLemmas.{expected_in}
use Rattle.nix_values.proofs.JsonPlaceLemmas.{completed_text}
use Rattle.nix_values.proofs.JsonErrorLemmas.{spaces_between, no_token_stop, unfit_token_stop, no_token_error, unfit_token_error, fit_token_error, end_of_text}

-- a text stops being JSON where the rest of it does
abbrev pub StopsFrom : List ℕ → ℕ → Reading → Type 0
StopsFrom bytes at r = json_stop bytes ≡ stop_in (parts_remaining r) 0 at (drop at bytes)

-- the bytes between two offsets are white space
abbrev pub AreSpaces : List ℕ → ℕ → ℕ → Type 0
AreSpaces bytes from to = (i : ℕ) → from ≤ i → i < to → is_space (get_or bytes i 0) ≡ true

-- nothing has been read
pub stops_begun : (bytes : List ℕ) (at : ℕ) (r : Reading) → IsBegun r → at ≤ length bytes → AreSpaces bytes 0 at → StopsFrom bytes at r
stops_begun bytes at r begun within spaces =
    let e : at ≡ 0 + at = omega arith in
    spaces_between (value 0 [] ∷ []) bytes 0 at at e within spaces
    ∙ ap (λ ps. stop_in ps 0 at (drop at bytes)) (remaining_in r state.Value [] [] begun.is_state begun.no_frames begun.no_name)

-- a token that is a string begins at its offset
token_string : (text : List ℕ) (at : ℕ) (t : Token) (len : ℕ) → IsTokenAt text at t len → IsStringAt text at t len
token_string text at (string name) len h = h
token_string text at (opening b) len h = tt
token_string text at (closing b) len h = tt
token_string text at comma len h = tt
token_string text at colon len h = tt
token_string text at (scalar p) len h = tt

-- the names begin at their offsets, up to where the text has been read
pub record IsReadIn (text : List ℕ) (at : ℕ) (r : Reading) : Type 0 where
  pub read : IsReadTo text at (parts_remaining r) (entries_in r)
  pub located : IsLocated text at r

pub read_begun_in : (text : List ℕ) (at : ℕ) (r : Reading) → IsBegun r → IsPlacedIn r → at ≤ length text → AreSpaces text 0 at → IsReadIn text at r
read_begun_in text at r begun placed within spaces =
    let e : at ≡ 0 + at = omega arith in
    record {
      read = read_spaces text 0 at at (parts_remaining r) (entries_in r) e within spaces
          (subst (λ es. IsReadTo text 0 (parts_remaining r) es) (sym begun.no_entries)
          (subst (λ ps. IsReadTo text 0 ps []) (remaining_in r state.Value [] [] begun.is_state begun.no_frames begun.no_name) at_start));
      located = located_begun text at r begun placed;
    }

pub read_taken : (found : Option Token) (text : List ℕ) (at end next : ℕ) (old new : Reading) → IsReadIn text at old → at < length text →
    is_space (get_or text at 0) ≡ false → at < end → end ≤ length text →
    token_at (get_or text at 0) (drop (at + 1) text) ≡ option_map (λ t. (t, end - at)) found →
    FoundOrNot (Ok tt) old found at new → end ≤ next → next ≤ length text → AreSpaces text end next → IsReadIn text next new
read_taken None text at end next old new so_far there solid onward past is h more within spaces = absurd h
read_taken (Some t) text at end next old new so_far there solid onward past is takes more within spaces =
    let e : next ≡ end + (next - end) = omega (arith, more) in
    let place : at + (end - at) ≡ end = omega (arith, onward) in
    let some : 0 < end - at = omega (arith, onward) in
    let behind : IsReadTo text (at + (end - at)) (parts_remaining new) (entries_in old ++ takes.added) =
    past_token at (end - at) t (parts_remaining old) (parts_remaining new) (entries_in old) takes.added so_far.read there solid is takes.parts in
    record {
      read = read_spaces text end (next - end) next (parts_remaining new) (entries_in new) e within spaces
          (subst (λ es. IsReadTo text end (parts_remaining new) es) (sym takes.entries)
          (subst (λ k. IsReadTo text k (parts_remaining new) (entries_in old ++ takes.added)) place behind));
      located = located_later text end next new more
          (subst (λ k. IsLocated text k new) place
          (takes.located text (end - at) some (token_string text at t (end - at) is) so_far.read so_far.located));
    }

-- a text stops where it has been read to
stopped_at : (bytes : List ℕ) (at : ℕ) (r : Reading) (error : JsonError) → IsSound r → IsPlacedIn r → IsDistinct r → IsReadIn bytes at r →
    json_stop bytes ≡ Some (stop_at (parts_remaining r) at (drop at bytes)) → json_error bytes ≡ Some error → IsJsonError bytes error
stopped_at bytes at r error sound placed distinct so_far stops is = inl (record {
  error_is = is;
  parts = parts_remaining r;
  offset = at;
  stops = stops;
  entries = entries_in r;
  read = so_far.read;
  distinct = distinct_next r.state r sound placed distinct.distinct distinct.free;
  completed = (completed_text bytes (stop_at (parts_remaining r) at (drop at bytes)) stops).0;
  begins = (completed_text bytes (stop_at (parts_remaining r) at (drop at bytes)) stops).1;
})

-- a name that its set already has
repeats : (t : Token) (text : List ℕ) (at len : ℕ) (r : Reading) (error : JsonError) → IsSound r → IsPlacedIn r → IsDistinct r → IsReadIn text at r →
    IsTokenAt text at t len →
    IsRepeat r t at error → IsRepeated text error
repeats t text at len r error sound placed distinct so_far token again =
    let frame : Frame = again.taken.0 in
    let o = offset_found r.found again.number (frame.node, again.name) again.taken.2 in
    let one = so_far.located.found again.number frame.node o.0 again.name again.taken.2 o.1 in
    let place : at ≡ error.offset = sym (ap (λ e. e.offset) again.error_is) in
    let other : (name : IsNameAt text at frame.node again.name) × (HasDistinctNames (entries_in r) → HasDistinctNames name.entries) =
    name_here r text again.name at len frame again.next sound placed again.taken.1 so_far.read
    (subst (λ u. IsTokenAt text at u len) again.token_is token) in
    let there : (name : IsNameAt text error.offset frame.node again.name) × HasDistinctNames name.entries =
    subst (λ k. (name : IsNameAt text k frame.node again.name) × HasDistinctNames name.entries) place (other.0, other.1 distinct.distinct) in
    record {
      reason = ap (λ e. e.reason) again.error_is;
      first = o.0;
      shown = ap (λ e. e.first) again.error_is ∙ o.1;
      before = subst (λ k. o.0 < k) place one.0;
      set = frame.node;
      name = again.name;
      one = one.1;
      other = there.0;
      distinct = there.1;
    }

-- a token is accepted
pub stops_taken : (found : Option Token) (bytes : List ℕ) (at end next : ℕ) (old new : Reading) → StopsFrom bytes at old → at < length bytes →
    is_space (get_or bytes at 0) ≡ false → at < end → end ≤ length bytes →
    token_at (get_or bytes at 0) (drop (at + 1) bytes) ≡ option_map (λ t. (t, end - at)) found →
    FoundOrNot (Ok tt) old found at new → end ≤ next → next ≤ length bytes → AreSpaces bytes end next → StopsFrom bytes next new
stops_taken None bytes at end next old new so_far there solid onward past is h more within spaces = absurd h
stops_taken (Some t) bytes at end next old new so_far there solid onward past is takes more within spaces =
    let e : next ≡ end + (next - end) = omega (arith, more) in
    so_far ∙ fit_token_error (parts_remaining old) bytes at there solid t end (parts_remaining new) takes.added onward past is takes.parts
    ∙ spaces_between (parts_remaining new) bytes end (next - end) next e within spaces

-- a token does not fit
pub error_wrong : (found : Option Token) (stop : JsonStop) (bytes : List ℕ) (at end : ℕ) (old new : Reading) → StopsFrom bytes at old → IsSound old →
    IsPlacedIn old → IsDistinct old → IsReadIn bytes at old → at < length bytes → is_space (get_or bytes at 0) ≡ false →
    token_at (get_or bytes at 0) (drop (at + 1) bytes) ≡ option_map (λ t. (t, end - at)) found →
    (found ≡ None → (parts : List Part) → token_error parts at (get_or bytes at 0) (drop (at + 1) bytes) ≡ error_at (expected parts) at) →
    FoundOrNot (Err stop) old found at new → IsTextError stop bytes
error_wrong None Memory bytes at end old new so_far sound placed distinct read there solid is other h = tt
error_wrong (Some t) Memory bytes at end old new so_far sound placed distinct read there solid is other h = tt
error_wrong None (Refused error) bytes at end old new so_far sound placed distinct read there solid is other h =
    let parts = parts_remaining old in
    stopped_at bytes at old error sound placed distinct read (so_far ∙ no_token_stop parts bytes at there solid is)
    (ap (option_map error_of) so_far ∙ no_token_error parts bytes at there solid is ∙ ap Some (other refl parts
    ∙ ap (λ reason. error_at reason at) (expected_in old.state old.frames.items (name_of old.name) sound) ∙ sym h))
error_wrong (Some t) (Refused error) bytes at end old new so_far sound placed distinct read there solid is other h =
    ⊎_elim
    (λ wrong.
    stopped_at bytes at old error sound placed distinct read
    (so_far ∙ unfit_token_stop (parts_remaining old) bytes at there solid t (end - at) is wrong.0)
    (ap (option_map error_of) so_far ∙ unfit_token_error (parts_remaining old) bytes at there solid t (end - at) is wrong.0 ∙ ap Some (sym wrong.1)))
    (λ again. inr (repeats t bytes at (end - at) old error sound placed distinct read is again))
    h.1

-- no token begins here
pub error_none : (stop : JsonStop) (bytes : List ℕ) (at : ℕ) (r : Reading) → StopsFrom bytes at r → IsSound r → IsPlacedIn r → IsDistinct r →
    IsReadIn bytes at r → at < length bytes → is_space (get_or bytes at 0) ≡ false →
    IfRefused stop (token_at (get_or bytes at 0) (drop (at + 1) bytes) ≡ None) →
    IsRefusal stop (token_error (parts_remaining r) at (get_or bytes at 0) (drop (at + 1) bytes)) → IsTextError stop bytes
error_none Memory bytes at r so_far sound placed distinct read there solid none is = tt
error_none (Refused error) bytes at r so_far sound placed distinct read there solid none is =
    stopped_at bytes at r error sound placed distinct read (so_far ∙ no_token_stop (parts_remaining r) bytes at there solid none)
    (ap (option_map error_of) so_far ∙ no_token_error (parts_remaining r) bytes at there solid none ∙ ap Some (sym is))

-- the text ends
pub error_ended : (bytes : List ℕ) (at : ℕ) (r : Reading) → StopsFrom bytes at r → IsSound r → length bytes ≤ at → is_end r.state ≡ true →
    json_error bytes ≡ None
error_ended bytes at r so_far sound past done =
    ap (option_map error_of) so_far ∙ ap (option_map error_of) (end_of_text (parts_remaining r) bytes at past)
    ∙ ap (λ ps. option_map error_of (stop_at_end ps at)) (nothing_remaining r.state r.frames.items (name_of r.name) done sound)

pub error_cut : (stop : JsonStop) (bytes : List ℕ) (at : ℕ) (r : Reading) → StopsFrom bytes at r → IsSound r → IsPlacedIn r → IsDistinct r →
    IsReadIn bytes at r → length bytes ≤ at →
    is_end r.state ≡ false → IsRefusal stop (error_at (reason_in r.state r.frames.items) at) → IsTextError stop bytes
error_cut Memory bytes at r so_far sound placed distinct read past more is = tt
error_cut (Refused error) bytes at r so_far sound placed distinct read past more is =
    let remaining = something_remaining r.state r.frames.items (name_of r.name) more sound in
    stopped_at bytes at r error sound placed distinct read
    (so_far ∙ end_of_text (parts_remaining r) bytes at past ∙ ap (λ ps. stop_at_end ps at) remaining.2
    ∙ ap₂ (λ ps rest. Some (stop_at ps at rest)) (sym remaining.2) (sym (drop_all at bytes past)))
    (ap (option_map error_of) so_far ∙ ap (option_map error_of) (end_of_text (parts_remaining r) bytes at past)
    ∙ ap (λ ps. option_map error_of (stop_at_end ps at)) remaining.2
    ∙ ap (λ ps. Some (error_at (expected ps) at)) (sym remaining.2)
    ∙ ap (λ reason. Some (error_at reason at)) (expected_in r.state r.frames.items (name_of r.name) sound) ∙ ap Some (sym is))
