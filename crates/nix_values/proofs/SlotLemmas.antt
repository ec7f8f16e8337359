-- Searches in a hash table, before and after a number is put into a slot.
use Rattle.std.proofs.Common.{◌≡◌, ◌∙◌, ℕ, zero, suc, ◌+◌, ◌-◌, ◌<◌, ◌≤◌, ◌==◌, Bool, true, false, List, length, length-set, drop, Some, None, ⊎_elim, sym, refl, ap, ap₂, subst, arith}
use Rattle.std.specs.Prelude.{Option, nat_le, bit_and}
use Rattle.std.specs.List.{slice_range}
use Rattle.std.proofs.Math.ListN.{set, get_or}
use Rattle.std.proofs.lemmas.List.{get_or-set_same, get_or-set_other, get_or-take, get_or-drop, get_or_default}
use Rattle.std.proofs.lemmas.Bool.{cases_Bool, cases_eq, cond-true, cond-false, eqb-true, eq-eqb, ne_eqb, both_ways, leb-true}
use Rattle.std.proofs.lemmas.Option.{same_Some}
use Rattle.nix_values.specs.declared.slots.TheConstants.{WINDOW}
use Rattle.nix_values.specs.declared.slots.Slot.{Slot}
use Rattle.nix_values.specs.declared.slots.Spot.{Spot}
use Rattle.nix_values.specs.declared.slots.Spot.TheVariants.{Free, Taken, Full}
use Rattle.nix_values.specs.declared.slots.Slots.{Slots}
use Rattle.nix_values.specs.HashSlots.{is_free, free_slot, slot_at, spot_from, spot_in, first_of, spot_of, IsPut}

-- ---- one step of a search

pub turn_free : (n at h : ℕ) (s : List Slot) → is_free (slot_at s at) ≡ true → spot_from (suc n) at h s ≡ Free at
unfolding spot_from
turn_free n at h s e = cond-true (is_free (slot_at s at)) _ _ e

pub turn_taken : (n at h : ℕ) (s : List Slot) → is_free (slot_at s at) ≡ false → ((slot_at s at).hash == h) ≡ true →
    spot_from (suc n) at h s ≡ Taken at (slot_at s at).number
unfolding spot_from
turn_taken n at h s e f = cond-false (is_free (slot_at s at)) _ _ e ∙ cond-true ((slot_at s at).hash == h) _ _ f

pub turn_other : (n at h : ℕ) (s : List Slot) → is_free (slot_at s at) ≡ false → ((slot_at s at).hash == h) ≡ false →
    spot_from (suc n) at h s ≡ spot_from n (at + 1) h s
unfolding spot_from
turn_other n at h s e f = cond-false (is_free (slot_at s at)) _ _ e ∙ cond-false ((slot_at s at).hash == h) _ _ f

pub turn_end : (at h : ℕ) (s : List Slot) → spot_from 0 at h s ≡ Full
unfolding spot_from
turn_end at h s = refl

-- one step of a search, by cases
turn : {P : Type 0} (at h : ℕ) (s : List Slot) → (is_free (slot_at s at) ≡ true → P) →
    (is_free (slot_at s at) ≡ false → ((slot_at s at).hash == h) ≡ true → P) →
    (is_free (slot_at s at) ≡ false → ((slot_at s at).hash == h) ≡ false → P) → P
turn at h s free taken other =
    ⊎_elim free (λ e. ⊎_elim (taken e) (other e) (cases_Bool ((slot_at s at).hash == h))) (cases_Bool (is_free (slot_at s at)))

-- ---- where a search ends

-- the slot at which a search ends
abbrev pub end_of : Spot → Option ℕ
end_of (Free at) = Some at
end_of (Taken at number) = Some at
end_of Full = None

in_window : (n at h : ℕ) (s : List Slot) (i : ℕ) → end_of (spot_from n at h s) ≡ Some i → (at ≤ i) × (i < at + n)
in_window zero at h s i e = let full : None ≡ Some i = sym (ap end_of (turn_end at h s)) ∙ e in absurd (cc)
in_window (suc n) at h s i e =
    turn at h s
    (λ f. let same : at ≡ i = same_Some at i (sym (ap end_of (turn_free n at h s f)) ∙ e) in (omega arith, omega arith))
    (λ f g. let same : at ≡ i = same_Some at i (sym (ap end_of (turn_taken n at h s f g)) ∙ e) in (omega arith, omega arith))
    (λ f g. let more : (at + 1 ≤ i) × (i < at + 1 + n) = in_window n (at + 1) h s i (sym (ap end_of (turn_other n at h s f g)) ∙ e) in
    (omega arith, omega arith))

-- a slot contains a number with this hash
abbrev pub Holds : List Slot → ℕ → ℕ → ℕ → Type 0
Holds s h i m = (is_free (slot_at s i) ≡ false) × ((slot_at s i).hash ≡ h) × ((slot_at s i).number ≡ m)

taken_from : (n at h : ℕ) (s : List Slot) (i m : ℕ) → spot_from n at h s ≡ Taken i m → Holds s h i m
taken_from zero at h s i m e = let full : Full ≡ Taken i m = sym (turn_end at h s) ∙ e in absurd (cc)
taken_from (suc n) at h s i m e =
    turn at h s
    (λ f. let wrong : Free at ≡ Taken i m = sym (turn_free n at h s f) ∙ e in absurd (cc))
    (λ f g.
    let is : Taken at (slot_at s at).number ≡ Taken i m = sym (turn_taken n at h s f g) ∙ e in
    let same : at ≡ i = cc in
    let number : (slot_at s at).number ≡ m = cc in
    subst (λ j. Holds s h j m) same (f, eqb-true _ _ g, number))
    (λ f g. taken_from n (at + 1) h s i m (sym (turn_other n at h s f g) ∙ e))

free_from : (n at h : ℕ) (s : List Slot) (i : ℕ) → spot_from n at h s ≡ Free i → is_free (slot_at s i) ≡ true
free_from zero at h s i e = let full : Full ≡ Free i = sym (turn_end at h s) ∙ e in absurd (cc)
free_from (suc n) at h s i e =
    turn at h s
    (λ f.
    let is : Free at ≡ Free i = sym (turn_free n at h s f) ∙ e in
    let same : at ≡ i = cc in
    subst (λ j. is_free (slot_at s j) ≡ true) same f)
    (λ f g. let wrong : Taken at (slot_at s at).number ≡ Free i = sym (turn_taken n at h s f g) ∙ e in absurd (cc))
    (λ f g. free_from n (at + 1) h s i (sym (turn_other n at h s f g) ∙ e))

-- ---- after a number is put into a slot

pub same_slot : (s : List Slot) (p i : ℕ) (v : Slot) → (i ≡ p → ⊥) → slot_at (set s p v) i ≡ slot_at s i
same_slot s p i v other = get_or-set_other s p i v free_slot other

pub new_slot : (s : List Slot) (p : ℕ) (v : Slot) → p < length s → slot_at (set s p v) p ≡ v
new_slot s p v inside = get_or-set_same s p v free_slot inside

-- the search ends there, at the new number
put_here : (n h : ℕ) (s : List Slot) (at p : ℕ) (v : Slot) → at ≡ p → p < length s → is_free v ≡ false → v.hash ≡ h →
    spot_from (suc n) at h (set s p v) ≡ Taken p v.number
put_here n h s at p v here inside some hash =
    let there : slot_at (set s p v) at ≡ v = ap (slot_at (set s p v)) here ∙ new_slot s p v inside in
    turn_taken n at h (set s p v) (ap is_free there ∙ some) (ap (λ x. x.hash == h) there ∙ eq-eqb v.hash h hash)
    ∙ ap₂ (λ (i m : ℕ). Taken i m) here (ap (λ x. x.number) there)

put_same : (n at h : ℕ) (s : List Slot) (p : ℕ) (v : Slot) → end_of (spot_from n at h s) ≡ Some p → p < length s → is_free v ≡ false → v.hash ≡ h →
    spot_from n at h (set s p v) ≡ Taken p v.number
put_same zero at h s p v e inside some hash = let full : None ≡ Some p = sym (ap end_of (turn_end at h s)) ∙ e in absurd (cc)
put_same (suc n) at h s p v e inside some hash =
    turn at h s
    (λ f. put_here n h s at p v (same_Some at p (sym (ap end_of (turn_free n at h s f)) ∙ e)) inside some hash)
    (λ f g. put_here n h s at p v (same_Some at p (sym (ap end_of (turn_taken n at h s f g)) ∙ e)) inside some hash)
    (λ f g.
    let rest : end_of (spot_from n (at + 1) h s) ≡ Some p = sym (ap end_of (turn_other n at h s f g)) ∙ e in
    let after : at + 1 ≤ p = (in_window n (at + 1) h s p rest).0 in
    let same : slot_at (set s p v) at ≡ slot_at s at = same_slot s p at v (λ is. absurd (omega arith)) in
    turn_other n at h (set s p v) (ap is_free same ∙ f) (ap (λ x. x.hash == h) same ∙ g) ∙ put_same n (at + 1) h s p v rest inside some hash)

-- if the slot was free, a search that ended at no free slot ends as before
put_free : (n at h : ℕ) (s : List Slot) (p : ℕ) (v : Slot) → is_free (slot_at s p) ≡ true → ((i : ℕ) → spot_from n at h s ≡ Free i → ⊥) →
    spot_from n at h (set s p v) ≡ spot_from n at h s
put_free zero at h s p v was none = turn_end at h (set s p v) ∙ sym (turn_end at h s)
put_free (suc n) at h s p v was none =
    let same_here : is_free (slot_at s at) ≡ false → slot_at (set s p v) at ≡ slot_at s at =
    λ f. same_slot s p at v (λ is. both_ways (is_free (slot_at s at)) f (ap (λ i. is_free (slot_at s i)) is ∙ was)) in
    turn at h s
    (λ f. absurd (none at (turn_free n at h s f)))
    (λ f g.
    let same = same_here f in
    turn_taken n at h (set s p v) (ap is_free same ∙ f) (ap (λ x. x.hash == h) same ∙ g)
    ∙ ap (λ x. Taken at x.number) same ∙ sym (turn_taken n at h s f g))
    (λ f g.
    let same = same_here f in
    turn_other n at h (set s p v) (ap is_free same ∙ f) (ap (λ x. x.hash == h) same ∙ g)
    ∙ put_free n (at + 1) h s p v was (λ i e. none i (turn_other n at h s f g ∙ e))
    ∙ sym (turn_other n at h s f g))

-- if the slot had the same hash, a search for another hash ends as before
put_again : (n at g h : ℕ) (s : List Slot) (p : ℕ) (v : Slot) → p < length s → is_free (slot_at s p) ≡ false → (slot_at s p).hash ≡ h →
    is_free v ≡ false → v.hash ≡ h → (h ≡ g → ⊥) → spot_from n at g (set s p v) ≡ spot_from n at g s
put_again zero at g h s p v inside was had some hash other = turn_end at g (set s p v) ∙ sym (turn_end at g s)
put_again (suc n) at g h s p v inside was had some hash other =
    let rest : spot_from n (at + 1) g (set s p v) ≡ spot_from n (at + 1) g s = put_again n (at + 1) g h s p v inside was had some hash other in
    ⊎_elim
    (λ here.
    let there : slot_at (set s p v) at ≡ v = ap (slot_at (set s p v)) here ∙ new_slot s p v inside in
    let before : slot_at s at ≡ slot_at s p = ap (slot_at s) here in
    turn_other n at g (set s p v) (ap is_free there ∙ some) (ap (λ x. x.hash == g) there ∙ ap (λ k. k == g) hash ∙ ne_eqb h g other)
    ∙ rest
    ∙ sym (turn_other n at g s (ap is_free before ∙ was) (ap (λ x. x.hash == g) before ∙ ap (λ k. k == g) had ∙ ne_eqb h g other)))
    (λ apart.
    let same : slot_at (set s p v) at ≡ slot_at s at = same_slot s p at v apart in
    turn at g s
    (λ f. turn_free n at g (set s p v) (ap is_free same ∙ f) ∙ sym (turn_free n at g s f))
    (λ f e.
    turn_taken n at g (set s p v) (ap is_free same ∙ f) (ap (λ x. x.hash == g) same ∙ e)
    ∙ ap (λ x. Taken at x.number) same ∙ sym (turn_taken n at g s f e))
    (λ f e.
    turn_other n at g (set s p v) (ap is_free same ∙ f) (ap (λ x. x.hash == g) same ∙ e)
    ∙ rest ∙ sym (turn_other n at g s f e)))
    (cases_eq at p)

-- ---- the slots of a hash

abbrev fits : List Slot → ℕ → Bool
fits s first = nat_le (first + WINDOW) (length s)

pub open_spot : (s : List Slot) (first h : ℕ) → fits s first ≡ true → spot_in s first h ≡ spot_from WINDOW first h s
open_spot s first h e = cond-true (fits s first) (spot_from WINDOW first h s) Full e

pub no_spot : (s : List Slot) (first h : ℕ) → fits s first ≡ false → spot_in s first h ≡ Full
no_spot s first h e = cond-false (fits s first) (spot_from WINDOW first h s) Full e

-- a search that ends at a slot
ends : (s : List Slot) (first h i : ℕ) → end_of (spot_in s first h) ≡ Some i → fits s first ≡ true
ends s first h i e =
    ⊎_elim (λ f. f) (λ f. let wrong : None ≡ Some i = sym (ap end_of (no_spot s first h f)) ∙ e in absurd (cc)) (cases_Bool (fits s first))

ends_inside : (s : List Slot) (first h i : ℕ) → end_of (spot_in s first h) ≡ Some i → i < length s
ends_inside s first h i e =
    let f : fits s first ≡ true = ends s first h i e in
    let all : first + WINDOW ≤ length s = leb-true _ _ f in
    let window : (first ≤ i) × (i < first + WINDOW) = in_window WINDOW first h s i (sym (ap end_of (open_spot s first h f)) ∙ e) in
    omega arith

fits_put : (s : List Slot) (first p : ℕ) (v : Slot) → fits (set s p v) first ≡ fits s first
fits_put s first p v = ap (λ n. nat_le (first + WINDOW) n) (length-set s p v)

pub taken_in : (s : List Slot) (first h i m : ℕ) → spot_in s first h ≡ Taken i m → Holds s h i m
taken_in s first h i m e =
    let f : fits s first ≡ true = ends s first h i (ap end_of e) in
    taken_from WINDOW first h s i m (sym (open_spot s first h f) ∙ e)

pub free_in : (s : List Slot) (first h i : ℕ) → spot_in s first h ≡ Free i → is_free (slot_at s i) ≡ true
free_in s first h i e =
    let f : fits s first ≡ true = ends s first h i (ap end_of e) in
    free_from WINDOW first h s i (sym (open_spot s first h f) ∙ e)

pub put_same_in : (s : List Slot) (first h p : ℕ) (v : Slot) → end_of (spot_in s first h) ≡ Some p → is_free v ≡ false → v.hash ≡ h →
    spot_in (set s p v) first h ≡ Taken p v.number
put_same_in s first h p v e some hash =
    let f : fits s first ≡ true = ends s first h p e in
    let inside : p < length s = ends_inside s first h p e in
    open_spot (set s p v) first h (fits_put s first p v ∙ f)
    ∙ put_same WINDOW first h s p v (sym (ap end_of (open_spot s first h f)) ∙ e) inside some hash

pub put_free_in : (s : List Slot) (first h p : ℕ) (v : Slot) → is_free (slot_at s p) ≡ true → ((i : ℕ) → spot_in s first h ≡ Free i → ⊥) →
    spot_in (set s p v) first h ≡ spot_in s first h
put_free_in s first h p v was none =
    ⊎_elim
    (λ f.
    open_spot (set s p v) first h (fits_put s first p v ∙ f)
    ∙ put_free WINDOW first h s p v was (λ i e. none i (open_spot s first h f ∙ e))
    ∙ sym (open_spot s first h f))
    (λ f. no_spot (set s p v) first h (fits_put s first p v ∙ f) ∙ sym (no_spot s first h f))
    (cases_Bool (fits s first))

pub put_again_in : (s : List Slot) (first g h p : ℕ) (v : Slot) → p < length s → is_free (slot_at s p) ≡ false → (slot_at s p).hash ≡ h →
    is_free v ≡ false → v.hash ≡ h → (h ≡ g → ⊥) → spot_in (set s p v) first g ≡ spot_in s first g
put_again_in s first g h p v inside was had some hash other =
    ⊎_elim
    (λ f.
    open_spot (set s p v) first g (fits_put s first p v ∙ f)
    ∙ put_again WINDOW first g h s p v inside was had some hash other
    ∙ sym (open_spot s first g f))
    (λ f. no_spot (set s p v) first g (fits_put s first p v ∙ f) ∙ sym (no_spot s first g f))
    (cases_Bool (fits s first))

pub end_inside : (table : Slots) (h p : ℕ) → end_of (spot_of table h) ≡ Some p → p < length table.slots.items
end_inside table h p e = ends_inside table.slots.items (first_of table h) h p e

-- where a search ends in the new table
pub spot_put : (old new : Slots) (at hash number g : ℕ) → IsPut old at hash number new →
    spot_of new g ≡ spot_in (set old.slots.items at (record { hash = hash; number = number })) (first_of old g) g
spot_put old new at hash number g put = ap₂ (λ (s : List Slot) (mask : ℕ). spot_in s (bit_and g mask) g) put.slots put.mask

-- ---- the window of a hash

pub window_slot : (s w : List Slot) (first i : ℕ) (d : Slot) → w ≡ slice_range s first (first + WINDOW) → first + WINDOW ≤ length s → i < WINDOW →
    get_or w i d ≡ slot_at s (first + i)
window_slot s w first i d is all inside =
    let width : i < first + WINDOW - first = omega arith in
    let there : first + i < length s = omega arith in
    ap (λ x. get_or x i d) is ∙ get_or-take (first + WINDOW - first) (drop first s) i d width ∙ get_or-drop first s i d
    ∙ get_or_default s (first + i) d free_slot there

pub window_free : (s : List Slot) (first i h : ℕ) → i < WINDOW → is_free (slot_at s (first + i)) ≡ true →
    spot_from (WINDOW - i) (first + i) h s ≡ Free (first + i)
window_free s first i h inside f =
    let fuel : WINDOW - i ≡ suc (WINDOW - (i + 1)) = omega arith in
    ap (λ n. spot_from n (first + i) h s) fuel ∙ turn_free (WINDOW - (i + 1)) (first + i) h s f

pub window_taken : (s : List Slot) (first i h : ℕ) → i < WINDOW → is_free (slot_at s (first + i)) ≡ false → (slot_at s (first + i)).hash ≡ h →
    spot_from (WINDOW - i) (first + i) h s ≡ Taken (first + i) (slot_at s (first + i)).number
window_taken s first i h inside f g =
    let fuel : WINDOW - i ≡ suc (WINDOW - (i + 1)) = omega arith in
    ap (λ n. spot_from n (first + i) h s) fuel ∙ turn_taken (WINDOW - (i + 1)) (first + i) h s f (eq-eqb _ _ g)

pub window_other : (s : List Slot) (first i h : ℕ) → i < WINDOW → is_free (slot_at s (first + i)) ≡ false → ((slot_at s (first + i)).hash ≡ h → ⊥) →
    spot_from (WINDOW - i) (first + i) h s ≡ spot_from (WINDOW - (i + 1)) (first + (i + 1)) h s
window_other s first i h inside f g =
    let fuel : WINDOW - i ≡ suc (WINDOW - (i + 1)) = omega arith in
    let next : first + i + 1 ≡ first + (i + 1) = omega arith in
    ap (λ n. spot_from n (first + i) h s) fuel ∙ turn_other (WINDOW - (i + 1)) (first + i) h s f (ne_eqb _ _ g)
    ∙ ap (λ at. spot_from (WINDOW - (i + 1)) at h s) next

pub window_full : (s : List Slot) (first i h : ℕ) → WINDOW ≤ i → spot_from (WINDOW - i) (first + i) h s ≡ Full
window_full s first i h past =
    let none : WINDOW - i ≡ 0 = omega arith in
    ap (λ n. spot_from n (first + i) h s) none ∙ turn_end (first + i) h s
