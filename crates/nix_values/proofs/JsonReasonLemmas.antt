-- What is missing if a token does not fit.
use Rattle.std.proofs.Common.{◌≡◌, ◌∙◌, ℕ, ◌+◌, ◌-◌, ◌<◌, true, false, Bool, List, [], ◌∷◌, length, ap, sym, refl, arith, ⊎_elim, Some}
use Rattle.std.proofs.lemmas.Option.{get_or_from_slice_get}
use Rattle.nix_values.specs.declared.json_reader.State.{State}
use Rattle.nix_values.specs.declared.json_reader.State.TheVariants as state
use Rattle.nix_values.specs.declared.json_reader.Frame.{Frame}
use Rattle.nix_values.specs.declared.json_reader.Reading.{Reading}
use Rattle.nix_values.specs.declared.json_error.JsonStop.{JsonStop}
use Rattle.nix_values.specs.declared.json_error.JsonStop.TheVariants.{Refused}
use Rattle.nix_values.specs.Json.{Token, opening, closing, comma, colon, string, scalar, Part, value, first_item, more_items, first_member, more_members, member, named}
use Rattle.nix_values.specs.JsonErrors.{error_at, expected, unfitting}
use Rattle.nix_values.specs.JsonLocations.{last_frame}
use Rattle.nix_values.specs.JsonReading.{more_of, rest_of, parts_in, parts_remaining, name_of, IsInside, IsState, IsSound, is_value_next, comma_reason, reason_in}
use Rattle.nix_values.proofs.JsonStateLemmas.{inside_last}
use Rattle.nix_values.proofs.JsonLocationLemmas.{last_cases}

-- ---- the state determines what is missing

expected_more : (b : Bool) (f : Frame) (d : ℕ) (ps : List Part) → f.is_set ≡ b → expected (more_of b d ∷ ps) ≡ comma_reason (Some f)
expected_more true f d ps is = rw is refl
expected_more false f d ps is = rw is refl

expected_last : (fs : List Frame) → 0 < length fs → expected (rest_of fs) ≡ comma_reason (last_frame fs)
expected_last fs some =
    ⊎_elim
    (λ none. absurd (omega (arith, some, none.0)))
    (λ last.
    let f : Frame = last.0 in
    let n : ℕ = length fs - 1 in
    let len : length fs ≡ n + 1 = omega (arith, some) in
    let inside : IsInside f.is_set fs = inside_last fs n f len (sym (get_or_from_slice_get fs n f f last.1)) in
    ap expected inside ∙ expected_more f.is_set f (length fs) _ refl ∙ sym (ap comma_reason last.1))
    (last_cases fs)

pub expected_in : (s : State) (fs : List Frame) (name : List ℕ) → IsState s fs name → expected (parts_in s fs name) ≡ reason_in s fs
expected_in state.Value fs name h = refl
expected_in state.ValueOrClose fs name h = refl
expected_in state.Name fs name h = refl
expected_in state.NameOrClose fs name h = refl
expected_in state.Colon fs name h = refl
expected_in state.CommaOrClose fs name h = expected_last fs h.0
expected_in state.End fs name h = ap (λ gs. expected (rest_of gs)) h.0

-- ---- tokens that do not fit

abbrev pub is_opening : Token → Bool
is_opening (opening b) = true
is_opening _ = false

pub plain_unfit : (ps : List Part) (t : Token) → is_opening t ≡ false → unfitting ps t ≡ expected ps
plain_unfit [] t h = refl
plain_unfit (value d name ∷ ps) (opening b) h = absurd (cc)
plain_unfit (value d name ∷ ps) (closing b) h = refl
plain_unfit (value d name ∷ ps) comma h = refl
plain_unfit (value d name ∷ ps) colon h = refl
plain_unfit (value d name ∷ ps) (string t) h = refl
plain_unfit (value d name ∷ ps) (scalar p) h = refl
plain_unfit (first_item d ∷ ps) (opening b) h = absurd (cc)
plain_unfit (first_item d ∷ ps) (closing b) h = refl
plain_unfit (first_item d ∷ ps) comma h = refl
plain_unfit (first_item d ∷ ps) colon h = refl
plain_unfit (first_item d ∷ ps) (string t) h = refl
plain_unfit (first_item d ∷ ps) (scalar p) h = refl
plain_unfit (more_items d ∷ ps) t h = refl
plain_unfit (first_member d ∷ ps) t h = refl
plain_unfit (more_members d ∷ ps) t h = refl
plain_unfit (member d ∷ ps) t h = refl
plain_unfit (named d name ∷ ps) t h = refl

open_more : (b : Bool) (d : ℕ) (ps : List Part) (c : Bool) → unfitting (more_of b d ∷ ps) (opening c) ≡ expected (more_of b d ∷ ps)
open_more true d ps c = refl
open_more false d ps c = refl

open_last : (fs : List Frame) (c : Bool) → 0 < length fs → unfitting (rest_of fs) (opening c) ≡ expected (rest_of fs)
open_last fs c some =
    ⊎_elim
    (λ none. absurd (omega (arith, some, none.0)))
    (λ last.
    let f : Frame = last.0 in
    let n : ℕ = length fs - 1 in
    let len : length fs ≡ n + 1 = omega (arith, some) in
    let inside : IsInside f.is_set fs = inside_last fs n f len (sym (get_or_from_slice_get fs n f f last.1)) in
    ap (λ ps. unfitting ps (opening c)) inside ∙ open_more f.is_set (length fs) _ c ∙ sym (ap expected inside))
    (last_cases fs)

open_unfit : (s : State) (fs : List Frame) (name : List ℕ) (c : Bool) → is_value_next s ≡ false → IsState s fs name →
    unfitting (parts_in s fs name) (opening c) ≡ expected (parts_in s fs name)
open_unfit state.Value fs name c next h = absurd (cc)
open_unfit state.ValueOrClose fs name c next h = absurd (cc)
open_unfit state.Name fs name c next h = refl
open_unfit state.NameOrClose fs name c next h = refl
open_unfit state.Colon fs name c next h = refl
open_unfit state.CommaOrClose fs name c next h = open_last fs c h.0
open_unfit state.End fs name c next h = ap (λ gs. unfitting (rest_of gs) (opening c)) h.0 ∙ sym (ap (λ gs. expected (rest_of gs)) h.0)

-- the refusals in each state
pub plain_stop : (stop : JsonStop) (r : Reading) (t : Token) (at : ℕ) → IsSound r → is_opening t ≡ false →
    stop ≡ Refused (error_at (reason_in r.state r.frames.items) at) → stop ≡ Refused (error_at (unfitting (parts_remaining r) t) at)
plain_stop stop r t at sound plain is =
    is ∙ sym (ap (λ reason. Refused (error_at reason at))
    (plain_unfit (parts_remaining r) t plain ∙ expected_in r.state r.frames.items (name_of r.name) sound))

pub open_stop : (stop : JsonStop) (r : Reading) (c : Bool) (at : ℕ) → IsSound r → is_value_next r.state ≡ false →
    stop ≡ Refused (error_at (reason_in r.state r.frames.items) at) → stop ≡ Refused (error_at (unfitting (parts_remaining r) (opening c)) at)
open_stop stop r c at sound next is =
    is ∙ sym (ap (λ reason. Refused (error_at reason at))
    (open_unfit r.state r.frames.items (name_of r.name) c next sound ∙ expected_in r.state r.frames.items (name_of r.name) sound))
