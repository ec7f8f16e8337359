-- A JSON text that is read token by token.
use Rattle.std.proofs.Common.{◌≡◌, ◌∙◌, ℕ, ◌+◌, ◌-◌, ◌<◌, ◌≤◌, true, false, List, [], ◌∷◌, length, get_or, drop, ap, sym, refl, Option, Some, None}
use Rattle.std.specs.Prelude.{option_map, option_and_then, Ok, Err}
use Rattle.nix_values.specs.declared.json_reader.State.TheVariants as state
use Rattle.nix_values.specs.declared.json_reader.Reading.{Reading}
use Rattle.nix_values.specs.declared.json_error.JsonStop.{JsonStop}
use Rattle.nix_values.specs.Contents.{Entry}
use Rattle.nix_values.specs.Json.{Token, is_space, token_at, tokens_behind, value, in_front, parts_from, meaning, values_of, json_values}
use Rattle.nix_values.specs.JsonReading.{parts_remaining, name_of, IsSound, is_end, entries_in, IsPlacedIn, IsDistinct, IsBegun, IfRefused, IfStopped, RepeatsWith, RepeatsIn, FoundOrNot}
use Rattle.nix_values.proofs.JsonTokenLemmas.{fitting_token, repeating_token, wrong_token, no_token, text_end, text_cut}
use Rattle.nix_values.proofs.JsonStateLemmas.{nothing_remaining, something_remaining}
use Rattle.nix_values.proofs.JsonReadingLemmas.{stopped_text, stopped_map, stopped_refused, remaining_in, sound_in}

-- the values so far come before those that the rest of the text means
abbrev pub IsReadUpTo : List ℕ → ℕ → Reading → Type 0
IsReadUpTo bytes at r = json_values bytes ≡ in_front (entries_in r) (values_of (parts_remaining r) (drop at bytes))

-- no values before others change nothing
in_front_none : (es : Option (List Entry)) → in_front [] es ≡ es
in_front_none None = refl
in_front_none (Some es) = refl

-- nothing has been read
pub read_begun : (bytes : List ℕ) (at : ℕ) (r : Reading) → IsBegun r → tokens_behind 0 (drop at bytes) ≡ tokens_behind 0 (drop 0 bytes) →
    IsReadUpTo bytes at r
read_begun bytes at r begun space =
    sym (ap (λ es. in_front es (values_of (parts_remaining r) (drop at bytes))) begun.no_entries
    ∙ in_front_none (values_of (parts_remaining r) (drop at bytes))
    ∙ ap (λ ps. values_of ps (drop at bytes)) (sym (remaining_in r state.Value [] [] begun.is_state begun.no_frames begun.no_name))
    ∙ ap (λ ts. option_and_then (meaning (value 0 [] ∷ [])) ts) space)

pub begun_sound : (r : Reading) → IsBegun r → IsSound r
begun_sound r begun = sound_in r state.Value [] [] begun.is_state begun.no_frames begun.no_name tt

-- a token is accepted
pub read_token : (found : Option Token) (bytes : List ℕ) (at end next : ℕ) (old new : Reading) → IsReadUpTo bytes at old → at < length bytes →
    is_space (get_or bytes at 0) ≡ false → at < end → token_at (get_or bytes at 0) (drop (at + 1) bytes) ≡ option_map (λ t. (t, end - at)) found →
    FoundOrNot (Ok tt) old found at new → tokens_behind 0 (drop next bytes) ≡ tokens_behind 0 (drop end bytes) →
    IsReadUpTo bytes next new × IsSound new × IsPlacedIn new × IsDistinct new
read_token None bytes at end next old new so_far there solid onward is h space = absurd h
read_token (Some t) bytes at end next old new so_far there solid onward is takes space = (
  fitting_token (json_values bytes) (parts_remaining old) (parts_remaining new) bytes at end next t (entries_in old) takes.added (entries_in new)
      so_far there solid onward is takes.parts takes.entries space,
  takes.sound,
  takes.placed,
  takes.distinct,
)

-- a token does not fit
pub read_wrong_token : (found : Option Token) (stop : JsonStop) (bytes : List ℕ) (at end : ℕ) (old new : Reading) → IsReadUpTo bytes at old →
    at < length bytes → is_space (get_or bytes at 0) ≡ false → at < end →
    token_at (get_or bytes at 0) (drop (at + 1) bytes) ≡ option_map (λ t. (t, end - at)) found → FoundOrNot (Err stop) old found at new →
    IfStopped stop (json_values bytes ≡ None) (RepeatsIn bytes)
read_wrong_token None stop bytes at end old new so_far there solid onward is h =
    stopped_text stop bytes (no_token (json_values bytes) (parts_remaining old) bytes at (entries_in old) so_far there solid is)
read_wrong_token (Some t) stop bytes at end old new so_far there solid onward is h =
    stopped_map stop (parts_from (parts_remaining old) t ≡ None) (json_values bytes ≡ None) (RepeatsWith old t) (RepeatsIn bytes)
    (λ wrong. wrong_token (json_values bytes) (parts_remaining old) bytes at end t (entries_in old) so_far there solid onward is wrong)
    (λ repeats. repeating_token (json_values bytes) (parts_remaining old) bytes at end t (entries_in old) so_far there solid onward is repeats) h.0

-- no token begins here
pub read_no_token : (stop : JsonStop) (bytes : List ℕ) (at : ℕ) (r : Reading) → IsReadUpTo bytes at r → at < length bytes →
    is_space (get_or bytes at 0) ≡ false → IfRefused stop (token_at (get_or bytes at 0) (drop (at + 1) bytes) ≡ None) →
    IfStopped stop (json_values bytes ≡ None) (RepeatsIn bytes)
read_no_token stop bytes at r so_far there solid h =
    stopped_refused stop (token_at (get_or bytes at 0) (drop (at + 1) bytes) ≡ None) bytes
    (λ none. no_token (json_values bytes) (parts_remaining r) bytes at (entries_in r) so_far there solid none) h

-- the text ends
pub read_end : (bytes : List ℕ) (at : ℕ) (r : Reading) → IsReadUpTo bytes at r → IsSound r → length bytes ≤ at → is_end r.state ≡ true →
    json_values bytes ≡ Some (entries_in r)
read_end bytes at r so_far sound past done =
    text_end (json_values bytes) (parts_remaining r) bytes at (entries_in r) so_far past (nothing_remaining r.state r.frames.items (name_of r.name) done sound)

pub read_cut : (stop : JsonStop) (bytes : List ℕ) (at : ℕ) (r : Reading) → IsReadUpTo bytes at r → IsSound r → length bytes ≤ at → is_end r.state ≡ false →
    IfStopped stop (json_values bytes ≡ None) (RepeatsIn bytes)
read_cut stop bytes at r so_far sound past more =
    let remaining = something_remaining r.state r.frames.items (name_of r.name) more sound in
    stopped_text stop bytes
    (text_cut (json_values bytes) (parts_remaining r) remaining.1 remaining.0 bytes at (entries_in r) so_far past remaining.2)
