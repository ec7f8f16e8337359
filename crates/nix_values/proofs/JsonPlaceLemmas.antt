-- What precedes the place where a text stops being JSON is the beginning of some JSON text.
use Rattle.std.proofs.Common.{◌≡◌, ◌∙◌, ℕ, zero, suc, ◌+◌, ◌-◌, ◌≤◌, Bool, true, false, List, [], ◌∷◌, ◌++◌, length, take, ap, sym, refl, arith, Option, Some, None}
use Rattle.std.specs.Prelude.{option_map, option_and_then}
use Rattle.std.proofs.lemmas.Option.{none-some, same_Some}
use Rattle.nix_values.specs.Contents.{Entry}
use Rattle.nix_values.specs.Json.{Token, is_space, token_at, tokens_behind, Part, value, Taken, in_front, parts_from, meaning, json_values}
use Rattle.nix_values.specs.JsonErrors.{Stop, stop_at, parts_behind, stop_at_end, stop_in, json_stop}
use Rattle.nix_values.specs.JsonNames.{completion}
use Rattle.nix_values.proofs.JsonTokenLemmas.{before, in_front_twice, tokens_space, tokens_first}
use Rattle.nix_values.proofs.JsonErrorLemmas.{space_first, token_first, behind_token}
use Rattle.nix_values.proofs.JsonCompletionLemmas.{completes}
use Rattle.nix_values.proofs.JsonPrefixLemmas.{cut_at}
use Rattle.nix_values.proofs.JsonTokenPrefixLemmas.{token_kept, token_fits}

-- tokens before others
abbrev all_before : List Token → Option (List Token) → Option (List Token)
all_before front found = option_map (λ ts. front ++ ts) found

-- the tokens of the bytes before the place: they stay the same whatever follows a blank there, and after them the remaining parts are those of the stop
record IsBefore (parts : List Part) (passed at : ℕ) (bytes : List ℕ) (stop : Stop) : Type 0 where
  pub front : List Token
  pub entries : List Entry
  pub low : at + passed ≤ stop.offset
  pub high : stop.offset ≤ at + length bytes
  pub kept : (rest : List ℕ) → tokens_behind passed (cut_at (stop.offset - at) bytes rest) ≡ all_before front (tokens_behind 0 rest)
  pub follows : (more : List Token) → meaning parts (front ++ more) ≡ in_front entries (meaning stop.parts more)

none_before : (found : Option (List Token)) → found ≡ all_before [] found
none_before None = refl
none_before (Some ts) = refl

nothing_front : (found : Option (List Entry)) → found ≡ in_front [] found
nothing_front None = refl
nothing_front (Some es) = refl

all_before_more : (t : Token) (front : List Token) (found : Option (List Token)) → before t (all_before front found) ≡ all_before (t ∷ front) found
all_before_more t front None = refl
all_before_more t front (Some ts) = refl

-- nothing precedes the place
stops_here : (parts : List Part) (at : ℕ) (bytes rest : List ℕ) (stop : Stop) →
    ◌≡◌ {A = Option Stop} (Some (stop_at parts at rest)) (Some stop) → IsBefore parts 0 at bytes stop
stops_here parts at bytes rest stop e =
    let same : stop_at parts at rest ≡ stop = same_Some _ stop e in
    let place : at ≡ stop.offset = ap (λ s. s.offset) same in
    let nothing : stop.offset - at ≡ 0 = omega (arith, place) in
    record {
      front = [];
      entries = [];
      low = omega (arith, place);
      high = omega (arith, place);
      kept = λ more. ap (λ k. tokens_behind 0 (cut_at k bytes more)) nothing ∙ tokens_space 32 more refl ∙ none_before (tokens_behind 0 more);
      follows = λ more. nothing_front (meaning parts more) ∙ ap (λ s. in_front [] (meaning s.parts more)) same;
    }

stops_at_end : (parts : List Part) (at : ℕ) (stop : Stop) → stop_at_end parts at ≡ Some stop → IsBefore parts 0 at [] stop
stops_at_end [] at stop e = absurd (none-some stop e)
stops_at_end (part ∷ parts) at stop e = stops_here (part ∷ parts) at [] [] stop e

-- one more byte precedes it
cut_more : (k at b : ℕ) (bs rest : List ℕ) (offset : ℕ) → offset - at ≡ suc k → cut_at (offset - at) (b ∷ bs) rest ≡ b ∷ cut_at k bs rest
cut_more k at b bs rest offset e = ap (λ n. cut_at n (b ∷ bs) rest) e

passed_more : (parts : List Part) (passed at b : ℕ) (bs : List ℕ) (stop : Stop) → IsBefore parts passed (suc at) bs stop →
    IsBefore parts (suc passed) at (b ∷ bs) stop
unfolding tokens_behind
passed_more parts passed at b bs stop h =
    let count : stop.offset - at ≡ suc (stop.offset - suc at) = omega (arith, h.low) in
    record {
      front = h.front;
      entries = h.entries;
      low = omega (arith, h.low);
      high = omega (arith, h.high);
      kept = λ rest. ap (tokens_behind (suc passed)) (cut_more (stop.offset - suc at) at b bs rest stop.offset count) ∙ h.kept rest;
      follows = h.follows;
    }

space_more : (parts : List Part) (at b : ℕ) (bs : List ℕ) (stop : Stop) → is_space b ≡ true → IsBefore parts 0 (at + 1) bs stop →
    IsBefore parts 0 at (b ∷ bs) stop
space_more parts at b bs stop is h =
    let count : stop.offset - at ≡ suc (stop.offset - (at + 1)) = omega (arith, h.low) in
    record {
      front = h.front;
      entries = h.entries;
      low = omega (arith, h.low);
      high = omega (arith, h.high);
      kept = λ rest.
          ap (tokens_behind 0) (cut_more (stop.offset - (at + 1)) at b bs rest stop.offset count)
          ∙ tokens_space b (cut_at (stop.offset - (at + 1)) bs rest) is ∙ h.kept rest;
      follows = h.follows;
    }

token_more : (parts more : List Part) (added : List Entry) (at b : ℕ) (bs : List ℕ) (t : Token) (n : ℕ) (stop : Stop) → is_space b ≡ false →
    token_at b bs ≡ Some (t, n) → parts_from parts t ≡ Some (more, added) → IsBefore more (n - 1) (suc at) bs stop → IsBefore parts 0 at (b ∷ bs) stop
unfolding meaning
token_more parts more added at b bs t n stop solid found fits h =
    let k : ℕ = stop.offset - suc at in
    let count : stop.offset - at ≡ suc k = omega (arith, h.low) in
    let room : n - 1 ≤ k = omega (arith, h.low) in
    let within : k ≤ length bs = omega (arith, h.high) in
    record {
      front = t ∷ h.front;
      entries = added ++ h.entries;
      low = omega (arith, h.low);
      high = omega (arith, h.high);
      kept = λ rest.
          ap (tokens_behind 0) (cut_more k at b bs rest stop.offset count)
          ∙ tokens_first b (cut_at k bs rest) (Some (t, n)) solid (token_kept b bs k rest (t, n) within room found)
          ∙ ap (before t) (h.kept rest) ∙ all_before_more t h.front (tokens_behind 0 rest);
      follows = λ rest.
          ap (option_and_then (λ (r : List Part × List Entry). in_front r.1 (meaning r.0 (h.front ++ rest)))) fits
          ∙ ap (in_front added) (h.follows rest) ∙ in_front_twice added h.entries (meaning stop.parts rest);
    }

-- ---- a text that stops

abbrev StopsBehind : List ℕ → Type 0
StopsBehind bs = (parts : List Part) (passed at : ℕ) (stop : Stop) → stop_in parts passed at bs ≡ Some stop → passed ≤ length bs →
    IsBefore parts passed at bs stop

by_parts : (parts : List Part) (at b : ℕ) (bs : List ℕ) (t : Token) (n : ℕ) (taken : Taken) (stop : Stop) → is_space b ≡ false → token_at b bs ≡ Some (t, n) →
    parts_from parts t ≡ taken → StopsBehind bs → stop_in parts 0 at (b ∷ bs) ≡ Some stop → IsBefore parts 0 at (b ∷ bs) stop
by_parts parts at b bs t n None stop solid found is rest e =
    stops_here parts at (b ∷ bs) (b ∷ bs) stop (sym (token_first parts at b bs None solid (behind_token parts b bs t n None found is)) ∙ e)
by_parts parts at b bs t n (Some r) stop solid found is rest e =
    let behind : stop_in r.0 (n - 1) (suc at) bs ≡ Some stop =
    sym (token_first parts at b bs (Some (r.0, n)) solid (behind_token parts b bs t n (Some r) found is)) ∙ e in
    token_more parts r.0 r.1 at b bs t n stop solid found is (rest r.0 (n - 1) (suc at) stop behind (token_fits b bs (t, n) found))

by_token : (parts : List Part) (at b : ℕ) (bs : List ℕ) (found : Option (Token × ℕ)) (stop : Stop) → is_space b ≡ false → token_at b bs ≡ found →
    StopsBehind bs → stop_in parts 0 at (b ∷ bs) ≡ Some stop → IsBefore parts 0 at (b ∷ bs) stop
by_token parts at b bs (Some r) stop solid is rest e = by_parts parts at b bs r.0 r.1 (parts_from parts r.0) stop solid is refl rest e
by_token parts at b bs None stop solid is rest e =
    let none : parts_behind parts b bs ≡ None =
    ap (option_and_then (λ (x : Token × ℕ). option_map (λ (r : List Part × List Entry). (r.0, x.1)) (parts_from parts x.0))) is in
    stops_here parts at (b ∷ bs) (b ∷ bs) stop (sym (token_first parts at b bs None solid none) ∙ e)

by_space : (parts : List Part) (at b : ℕ) (bs : List ℕ) (gap : Bool) (stop : Stop) → is_space b ≡ gap → StopsBehind bs →
    stop_in parts 0 at (b ∷ bs) ≡ Some stop → IsBefore parts 0 at (b ∷ bs) stop
by_space parts at b bs false stop is rest e = by_token parts at b bs (token_at b bs) stop is refl rest e
by_space parts at b bs true stop is rest e =
    space_more parts at b bs stop is (rest parts 0 (at + 1) stop (sym (space_first parts at b bs is) ∙ e) (omega arith))

stops_behind : (bytes : List ℕ) → StopsBehind bytes
unfolding stop_in
stops_behind [] parts zero at stop e fits = stops_at_end parts at stop e
stops_behind [] parts (suc passed) at stop e fits = absurd (omega (arith, fits))
stops_behind (b ∷ bs) parts (suc passed) at stop e fits =
    passed_more parts passed at b bs stop (stops_behind bs parts passed (suc at) stop e (omega (arith, fits)))
stops_behind (b ∷ bs) parts zero at stop e fits = by_space parts at b bs (is_space b) stop refl (stops_behind bs) e

-- up to the place where a text stops being JSON, with a blank and the completion of the remaining parts, the text is JSON
pub completed_text : (bytes : List ℕ) (stop : Stop) → json_stop bytes ≡ Some stop →
    (entries : List Entry) × (json_values (take stop.offset bytes ++ 32 ∷ completion stop.parts) ≡ Some entries)
completed_text bytes stop e = by (tokens_behind 0 (completion stop.parts)) refl (completes stop.parts).1
  where
    found : IsBefore (value 0 [] ∷ []) 0 0 bytes stop
    found = stops_behind bytes (value 0 [] ∷ []) 0 0 stop e (omega arith)

    whole : stop.offset ≡ stop.offset - 0
    whole = omega arith

    by : (tokens : Option (List Token)) → tokens_behind 0 (completion stop.parts) ≡ tokens →
        option_and_then (meaning stop.parts) tokens ≡ Some (completes stop.parts).0 →
        (entries : List Entry) × (json_values (take stop.offset bytes ++ 32 ∷ completion stop.parts) ≡ Some entries)
    by None is none = absurd (none-some _ none)
    by (Some more) is means = (
      found.entries ++ (completes stop.parts).0,
      ap (λ k. option_and_then (meaning (value 0 [] ∷ [])) (tokens_behind 0 (cut_at k bytes (completion stop.parts)))) whole
          ∙ ap (option_and_then (meaning (value 0 [] ∷ []))) (found.kept (completion stop.parts) ∙ ap (all_before found.front) is)
          ∙ found.follows more ∙ ap (in_front found.entries) means,
    )
