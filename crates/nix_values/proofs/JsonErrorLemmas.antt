-- Where a text that is read token by token stops being JSON.
use Rattle.std.proofs.Common.{◌≡◌, ◌∙◌, ℕ, zero, suc, ◌+◌, ◌-◌, ◌<◌, ◌≤◌, true, false, List, [], ◌∷◌, length, get_or, drop, ap, ap₂, sym, refl, arith, Option, Some, None}
use Rattle.std.proofs.lemmas.List.{drop_more, drop-drop, drop_all, length-drop}
use Rattle.std.proofs.lemmas.Bool.{cond-true, cond-false}
use Rattle.std.specs.Prelude.{option_map, option_and_then}
use Rattle.nix_values.specs.Contents.{Entry}
use Rattle.nix_values.specs.Json.{Token, is_space, token_at, Part, Taken, parts_from}
use Rattle.nix_values.specs.JsonErrors.{stop_at, error_at, if_found, unfitting, token_error, parts_behind, stop_at_end, stop_in, error_of}

-- skipping bytes
stop_after : (parts : List Part) (n at : ℕ) (bytes : List ℕ) → n ≤ length bytes → stop_in parts n at bytes ≡ stop_in parts 0 (at + n) (drop n bytes)
unfolding stop_in
stop_after parts zero at bytes h = let e : at ≡ at + 0 = omega arith in ap (λ k. stop_in parts 0 k bytes) e
stop_after parts (suc n) at [] h = absurd (omega (arith, h))
stop_after parts (suc n) at (b ∷ bytes) h =
    let rest : n ≤ length bytes = omega (arith, h) in
    let e : suc at + n ≡ at + suc n = omega arith in
    stop_after parts n (suc at) bytes rest ∙ ap (λ k. stop_in parts 0 k (drop n bytes)) e

-- skipping white space
pub space_first : (parts : List Part) (at b : ℕ) (bytes : List ℕ) → is_space b ≡ true → stop_in parts 0 at (b ∷ bytes) ≡ stop_in parts 0 (at + 1) bytes
unfolding stop_in
space_first parts at b bytes h = let e : suc at ≡ at + 1 = omega arith in cond-true (is_space b) _ _ h ∙ ap (λ k. stop_in parts 0 k bytes) e

pub spaces_between : (parts : List Part) (bytes : List ℕ) (at n next : ℕ) → next ≡ at + n → next ≤ length bytes →
    ((i : ℕ) → at ≤ i → i < next → is_space (get_or bytes i 0) ≡ true) → stop_in parts 0 at (drop at bytes) ≡ stop_in parts 0 next (drop next bytes)
spaces_between parts bytes at zero next is within spaces = let e : at ≡ next = omega (arith, is) in ap (λ k. stop_in parts 0 k (drop k bytes)) e
spaces_between parts bytes at (suc n) next is within spaces =
    let last : next ≡ at + n + 1 = omega (arith, is) in
    let there : at + n < length bytes = omega (arith, is, within) in
    let past : at + n ≤ length bytes = omega (arith, there) in
    let inside : at + n < next = omega (arith, last) in
    spaces_between parts bytes at n (at + n) refl past (λ i from to. let before : i < next = omega (arith, to, last) in spaces i from before)
    ∙ ap (stop_in parts 0 (at + n)) (drop_more bytes (at + n) 0 there)
    ∙ space_first parts (at + n) (get_or bytes (at + n) 0) (drop (at + n + 1) bytes) (let from : at ≤ at + n = omega arith in spaces (at + n) from inside)
    ∙ ap (λ k. stop_in parts 0 k (drop k bytes)) (sym last)

-- reading a token
pub token_first : (parts : List Part) (at b : ℕ) (bytes : List ℕ) (found : Option (List Part × ℕ)) → is_space b ≡ false → parts_behind parts b bytes ≡ found →
    stop_in parts 0 at (b ∷ bytes) ≡
    if_found (Some (stop_at parts at (b ∷ bytes))) (λ r. stop_in r.0 (r.1 - 1) (suc at) bytes) found
unfolding stop_in
token_first parts at b bytes found solid is =
    cond-false (is_space b) _ _ solid
    ∙ ap (if_found (Some (stop_at parts at (b ∷ bytes))) (λ (r : List Part × ℕ). stop_in r.0 (r.1 - 1) (suc at) bytes)) is

-- what follows a token, given its length
pub behind_token : (parts : List Part) (b : ℕ) (bytes : List ℕ) (t : Token) (n : ℕ) (taken : Taken) → token_at b bytes ≡ Some (t, n) →
    parts_from parts t ≡ taken →
    parts_behind parts b bytes ≡ option_map (λ r. (r.0, n)) taken
behind_token parts b bytes t n taken found is =
    ap (option_and_then (λ (x : Token × ℕ). option_map (λ (r : List Part × List Entry). (r.0, x.1)) (parts_from parts x.0))) found
    ∙ ap (option_map (λ (r : List Part × List Entry). (r.0, n))) is

-- there is no token, or a token that does not fit, or one that fits
module _ (parts : List Part) (bytes : List ℕ) (i : ℕ) (there : i < length bytes) (solid : is_space (get_or bytes i 0) ≡ false) where
  abbrev b : ℕ
  b = get_or bytes i 0

  abbrev bs : List ℕ
  bs = drop (i + 1) bytes

  pub stop_here : parts_behind parts b bs ≡ None → stop_in parts 0 i (drop i bytes) ≡ Some (stop_at parts i (b ∷ bs))
  stop_here none = ap (stop_in parts 0 i) (drop_more bytes i 0 there) ∙ token_first parts i b bs None solid none

  pub no_token_stop : token_at b bs ≡ None → stop_in parts 0 i (drop i bytes) ≡ Some (stop_at parts i (drop i bytes))
  no_token_stop none =
      stop_here (ap (option_and_then (λ (x : Token × ℕ). option_map (λ (r : List Part × List Entry). (r.0, x.1)) (parts_from parts x.0))) none)
      ∙ ap (λ rest. Some (stop_at parts i rest)) (sym (drop_more bytes i 0 there))

  pub unfit_token_stop : (t : Token) (n : ℕ) → token_at b bs ≡ Some (t, n) → parts_from parts t ≡ None →
      stop_in parts 0 i (drop i bytes) ≡ Some (stop_at parts i (drop i bytes))
  unfit_token_stop t n found wrong =
      stop_here (behind_token parts b bs t n None found wrong)
      ∙ ap (λ rest. Some (stop_at parts i rest)) (sym (drop_more bytes i 0 there))

  pub no_token_error : token_at b bs ≡ None → option_map error_of (stop_in parts 0 i (drop i bytes)) ≡ Some (token_error parts i b bs)
  no_token_error none =
      ap (option_map error_of)
      (stop_here (ap (option_and_then (λ (x : Token × ℕ). option_map (λ (r : List Part × List Entry). (r.0, x.1)) (parts_from parts x.0))) none))
      ∙ ap (λ found. Some (if_found (token_error parts i b bs) (λ (t : Token × ℕ). error_at (unfitting parts t.0) i) found)) none

  pub unfit_token_error : (t : Token) (n : ℕ) → token_at b bs ≡ Some (t, n) → parts_from parts t ≡ None →
      option_map error_of (stop_in parts 0 i (drop i bytes)) ≡ Some (error_at (unfitting parts t) i)
  unfit_token_error t n found wrong =
      ap (option_map error_of) (stop_here (behind_token parts b bs t n None found wrong))
      ∙ ap (λ found. Some (if_found (token_error parts i b bs) (λ (t : Token × ℕ). error_at (unfitting parts t.0) i) found)) found

  pub fit_token_error : (t : Token) (end : ℕ) (more : List Part) (added : List Entry) → i < end → end ≤ length bytes → token_at b bs ≡ Some (t, end - i) →
      parts_from parts t ≡ Some (more, added) → stop_in parts 0 i (drop i bytes) ≡ stop_in more 0 end (drop end bytes)
  fit_token_error t end more added onward within found fits =
      let len : length bs ≡ length bytes - (i + 1) = length-drop (i + 1) bytes in
      let enough : end - i - 1 ≤ length bs = omega (arith, len, within, onward) in
      let place : suc i + (end - i - 1) ≡ end = omega (arith, onward) in
      let skip : i + 1 + (end - i - 1) ≡ end = omega (arith, onward) in
      ap (stop_in parts 0 i) (drop_more bytes i 0 there)
      ∙ token_first parts i b bs (Some (more, end - i)) solid (behind_token parts b bs t (end - i) (Some (more, added)) found fits)
      ∙ stop_after more (end - i - 1) (suc i) bs enough
      ∙ ap₂ (stop_in more 0) place (drop-drop (end - i - 1) (i + 1) bytes ∙ ap (λ n. drop n bytes) skip)

-- the text ends
pub end_of_text : (parts : List Part) (bytes : List ℕ) (i : ℕ) → length bytes ≤ i → stop_in parts 0 i (drop i bytes) ≡ stop_at_end parts i
unfolding stop_in
end_of_text parts bytes i past = ap (stop_in parts 0 i) (drop_all i bytes past)
