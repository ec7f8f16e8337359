-- The error of a JSON string that is read run by run.
use Rattle.std.proofs.Common.{◌≡◌, ◌∙◌, ℕ, zero, suc, ◌+◌, ◌-◌, ◌<◌, ◌≤◌, true, false, Bool, List, [], ◌∷◌, length, get_or, drop, ap, ap₂, sym, refl, subst, arith, ne_eqb, Option, Some, None}
use Rattle.std.specs.Prelude.{not, ◌&&◌, ◌==◌, nat_lt, if◌then◌else◌}
use Rattle.std.specs.List.{prefix_len}
use Rattle.std.proofs.lemmas.List.{length-drop}
use Rattle.nix_values.specs.declared.json_error.JsonError.{JsonError}
use Rattle.nix_values.specs.declared.json_error.JsonReason.TheVariants.{OpenString}
use Rattle.nix_values.specs.declared.json_error.JsonStop.{JsonStop}
use Rattle.nix_values.specs.declared.json_error.JsonStop.TheVariants.{Memory, Refused}
use Rattle.nix_values.specs.JsonEscapes.{is_plain}
use Rattle.nix_values.specs.JsonContent.{escape_at}
use Rattle.nix_values.specs.JsonErrors.{error_at, if_found, no_escape, no_character, string_error}
use Rattle.nix_values.specs.JsonReading.{IfRefused, IsRefusal}
use Rattle.nix_values.proofs.JsonContentLemmas.{head_is, run_stops}

-- a refusal with an error is for that error
pub refusal : (stop : JsonStop) (e wanted : JsonError) → stop ≡ Refused e → e ≡ wanted → IsRefusal stop wanted
refusal stop e wanted is same = subst (λ s. IsRefusal s wanted) (sym is) same

-- a refusal that says that nothing was read is for an error, if that is the error then
pub none_refusal : (stop : JsonStop) (none : Type 0) (e wanted : JsonError) → IfRefused stop none → IsRefusal stop e → (none → e ≡ wanted) →
    IsRefusal stop wanted
none_refusal Memory none e wanted h is same = tt
none_refusal (Refused error) none e wanted h is same = is ∙ same h

-- skipping bytes
string_after : (quote n at : ℕ) (bs : List ℕ) → n ≤ length bs → string_error quote n at bs ≡ string_error quote 0 (at + n) (drop n bs)
unfolding string_error
string_after quote zero at bs h = let e : at ≡ at + 0 = omega arith in ap (λ k. string_error quote 0 k bs) e
string_after quote (suc n) at [] h = absurd (omega (arith, h))
string_after quote (suc n) at (b ∷ bs) h =
    let rest : n ≤ length bs = omega (arith, h) in
    let e : suc at + n ≡ at + suc n = omega arith in
    string_after quote n (suc at) bs rest ∙ ap (λ k. string_error quote 0 k (drop n bs)) e

-- if two tests fail, the last of three choices is taken
last_of_three : {A : Type 0} (x y z : Bool) (p q r : A) → not z && (not x && not y) ≡ true → (if y then p else (if z then q else r)) ≡ r
last_of_three x false false p q r h = refl
last_of_three true y false p q r h = absurd (cc)
last_of_three false true false p q r h = absurd (cc)
last_of_three x y true p q r h = absurd (cc)

second_of_three : {A : Type 0} (x y z : Bool) (p q r : A) → not z && (not x && not y) ≡ false → x ≡ false → y ≡ false →
    (if y then p else (if z then q else r)) ≡ q
second_of_three false false true p q r h i j = refl
second_of_three false false false p q r h i j = absurd (cc)
second_of_three true y z p q r h i j = absurd (cc)
second_of_three false true z p q r h i j = absurd (cc)

plain_byte : (quote at b : ℕ) (bs : List ℕ) → is_plain b ≡ true → string_error quote 0 at (b ∷ bs) ≡ string_error quote 0 (suc at) bs
unfolding string_error
plain_byte quote at b bs h = last_of_three (b == 34) (b == 92) (nat_lt b 32) _ _ _ h

control_byte : (quote at b : ℕ) (bs : List ℕ) → is_plain b ≡ false → b == 34 ≡ false → b == 92 ≡ false →
    string_error quote 0 at (b ∷ bs) ≡ error_at (no_character b) at
unfolding string_error
control_byte quote at b bs h no_34 no_92 = second_of_three (b == 34) (b == 92) (nat_lt b 32) _ _ _ h no_34 no_92

-- a backslash
escape_byte : (quote at : ℕ) (bs : List ℕ) (found : Option (ℕ × ℕ)) → escape_at bs ≡ found →
    string_error quote 0 at (92 ∷ bs) ≡ if_found (error_at (no_escape bs) at) (λ e. string_error quote e.1 (suc at) bs) found
unfolding string_error
escape_byte quote at bs found is = ap (if_found (error_at (no_escape bs) at) (λ (e : ℕ × ℕ). string_error quote e.1 (suc at) bs)) is

-- a run of bytes that need no escape
abbrev RunsFrom : ℕ → ℕ → List ℕ → Type 0
RunsFrom quote at bs = string_error quote 0 at bs ≡ string_error quote 0 (at + prefix_len is_plain bs) (drop (prefix_len is_plain bs) bs)

run_front : (quote at b : ℕ) (bs : List ℕ) (e : Bool) → is_plain b ≡ e → RunsFrom quote (suc at) bs → RunsFrom quote at (b ∷ bs)
run_front quote at b bs false h rest = let e : at ≡ at + 0 = omega arith in rw h (ap (λ k. string_error quote 0 k (b ∷ bs)) e)
run_front quote at b bs true h rest = rw h (more (prefix_len is_plain bs) rest)
  where
    more : (n : ℕ) → string_error quote 0 (suc at) bs ≡ string_error quote 0 (suc at + n) (drop n bs) →
        string_error quote 0 at (b ∷ bs) ≡ string_error quote 0 (at + (1 + n)) (drop (1 + n) (b ∷ bs))
    more n tail =
        let place : suc at + n ≡ at + (1 + n) = omega arith in
        let count : suc n ≡ 1 + n = omega arith in
        plain_byte quote at b bs h ∙ tail ∙ ap₂ (λ k m. string_error quote 0 k (drop m (b ∷ bs))) place count

plain_run : (quote at : ℕ) (bs : List ℕ) → RunsFrom quote at bs
plain_run quote at [] = let e : at ≡ at + 0 = omega arith in ap (λ k. string_error quote 0 k []) e
plain_run quote at (b ∷ bs) = run_front quote at b bs (is_plain b) refl (plain_run quote (suc at) bs)

-- ---- the error of a string is that of the rest

abbrev pub HasErrorIn : ℕ → List ℕ → List ℕ → Type 0
HasErrorIn start text rest = (quote : ℕ) → string_error quote 0 start text ≡ string_error quote 0 (start + (length text - length rest)) rest

pub error_begun : (start : ℕ) (text : List ℕ) → HasErrorIn start text text
error_begun start text quote = let e : start ≡ start + (length text - length text) = omega arith in ap (λ k. string_error quote 0 k text) e

pub error_run : (start : ℕ) (text rest remaining : List ℕ) → length rest ≤ length text → remaining ≡ drop (prefix_len is_plain rest) rest →
    prefix_len is_plain rest ≤ length rest → HasErrorIn start text rest → HasErrorIn start text remaining
error_run start text rest remaining within is fits h quote =
    let n : ℕ = prefix_len is_plain rest in
    let len : length remaining ≡ length rest - n = ap length is ∙ length-drop n rest in
    let place : start + (length text - length rest) + n ≡ start + (length text - length remaining) = omega (arith, len, within, fits) in
    h quote ∙ plain_run quote (start + (length text - length rest)) rest ∙ ap₂ (string_error quote 0) place (sym is)

pub error_escape : (start : ℕ) (text remaining bs rest : List ℕ) (c n : ℕ) → length remaining ≤ length text → 0 < length remaining →
    get_or remaining 0 0 ≡ 92 → bs ≡ drop 1 remaining → escape_at bs ≡ Some (c, n) → n ≤ length bs → rest ≡ drop n bs →
    HasErrorIn start text remaining → HasErrorIn start text rest
error_escape start text remaining bs rest c n within some is behind_is found fits rest_is h quote =
    let at : ℕ = start + (length text - length remaining) in
    let front : remaining ≡ 92 ∷ bs = head_is remaining 92 some is ∙ ap (λ l. 92 ∷ l) (sym behind_is) in
    let more : length remaining ≡ suc (length bs) = ap length front in
    let len : length rest ≡ length bs - n = ap length rest_is ∙ length-drop n bs in
    let place : suc at + n ≡ start + (length text - length rest) = omega (arith, len, more, within, fits) in
    h quote ∙ ap (string_error quote 0 at) front ∙ escape_byte quote at bs (Some (c, n)) found ∙ string_after quote n (suc at) bs fits
    ∙ ap₂ (string_error quote 0) place (sym rest_is)

-- the string has no closing quote
pub error_open : (start quote : ℕ) (text remaining : List ℕ) → HasErrorIn start text remaining → remaining ≡ [] →
    error_at OpenString quote ≡ string_error quote 0 start text
unfolding string_error
error_open start quote text remaining h none = sym (h quote ∙ ap (string_error quote 0 (start + (length text - length remaining))) none)

-- a byte that is not allowed
pub error_control : (start quote at : ℕ) (text rest remaining : List ℕ) → HasErrorIn start text remaining → remaining ≡ drop (prefix_len is_plain rest) rest →
    0 < length remaining → (get_or remaining 0 0 ≡ 34 → ⊥) → (get_or remaining 0 0 ≡ 92 → ⊥) → at ≡ start + (length text - length remaining) →
    error_at (no_character (get_or remaining 0 0)) at ≡ string_error quote 0 start text
error_control start quote at text rest remaining h is some no_34 no_92 place =
    let b : ℕ = get_or remaining 0 0 in
    ap (error_at (no_character b)) place
    ∙ sym (h quote ∙ ap (string_error quote 0 (start + (length text - length remaining))) (head_is remaining b some refl)
    ∙ control_byte quote (start + (length text - length remaining)) b (drop 1 remaining) (run_stops rest remaining is some) (ne_eqb b 34 no_34)
    (ne_eqb b 92 no_92))

-- a backslash that begins no escape
pub error_no_escape : (start quote at : ℕ) (text remaining bs : List ℕ) → HasErrorIn start text remaining → 0 < length remaining →
    get_or remaining 0 0 ≡ 92 → bs ≡ drop 1 remaining → escape_at bs ≡ None → at ≡ start + (length text - length remaining) →
    error_at (no_escape bs) at ≡ string_error quote 0 start text
error_no_escape start quote at text remaining bs h some is behind_is none place =
    let there : ℕ = start + (length text - length remaining) in
    ap (error_at (no_escape bs)) place
    ∙ sym (h quote ∙ ap (string_error quote 0 there) (head_is remaining 92 some is ∙ ap (λ l. 92 ∷ l) (sym behind_is))
    ∙ escape_byte quote there bs None none)
