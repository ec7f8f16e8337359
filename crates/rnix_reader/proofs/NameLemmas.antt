-- A set of names with one more.
use Rattle.std.proofs.{Common.{◌≡◌, ℕ, Bool, true, false, List, refl, ap, sym, ◌∙◌, subst, cond}, lemmas.Cmp.{nat_list_eq_equiv, eq_by_cmp_equiv}}
use Rattle.std.{proofs.lemmas.{Cmp.nat_list_cmp_total, Slice.Eq.bytes_eq-Decides, Map.Text.is_eq-slice_cmp}, specs.{BTreeSet.BTreeSet, Borrow.Bor}}
use Rattle.std.specs.{List.list_any, Map.{IsKeyTest, AreApart}, Set.KeepsOthers, Str.bytes_eq, Ordering.{is_eq, nat_cmp}, Cmp.Lexicographic.slice_cmp}
use Rattle.std.proofs.Math.Bool.{not, not-not}
use Rattle.std.specs.BTreeSet as sorted

apart : (bs cs ks : List ℕ) → bytes_eq bs cs ≡ false → is_eq (slice_cmp nat_cmp bs ks) ≡ true → is_eq (slice_cmp nat_cmp cs ks) ≡ false
apart bs cs ks n y = is_eq-slice_cmp cs ks ∙ nat_list_eq_equiv.symm cs ks ∙ sym (nat_list_eq_equiv.congr bs ks cs (sym (is_eq-slice_cmp bs ks) ∙ y)) ∙ n

other_names : {K : Type 0} (eq : K → K → Bool) (test : K → Bool) (old new : List K) → KeepsOthers eq test old new → (other : K → Bool) → IsKeyTest eq other
    → AreApart test other
    → list_any other new ≡ list_any other old
unfolding KeepsOthers
other_names eq test old new h = h

-- a function that is true of one name and agrees with another on all others
by_name : (f g : List ℕ → Bool) (bs : List ℕ) → g bs ≡ true → ((cs : List ℕ) → bytes_eq bs cs ≡ false → g cs ≡ f cs) → (cs : List ℕ)
    → g cs ≡ cond (bytes_eq bs cs) true (f cs)
by_name f g bs here other cs = by (bytes_eq bs cs) (bytes_eq-Decides bs cs).0 (other cs)
  where
    by : (b : Bool) → (b ≡ true → bs ≡ cs) → (b ≡ false → g cs ≡ f cs) → g cs ≡ cond b true (f cs)
    by true y n = subst (λ l. g l ≡ true) (y refl) here
    by false y n = n refl

-- an updated set contains one more name
pub names_updated : (bs : List ℕ) (s n : BTreeSet (Bor (List ℕ)))
    → sorted.UpdatesBy (λ x y. slice_cmp nat_cmp x.now y.now) (λ k. slice_cmp nat_cmp bs k.now) s n true
    → (cs : List ℕ) → sorted.contains_by (λ k. slice_cmp nat_cmp cs k.now) n ≡ cond (bytes_eq bs cs) true
    (sorted.contains_by (λ k. slice_cmp nat_cmp cs k.now) s)
names_updated bs s n h =
    by_name (λ ds. sorted.contains_by (λ k. slice_cmp nat_cmp ds k.now) s) (λ ds. sorted.contains_by (λ k. slice_cmp nat_cmp ds k.now) n) bs h.1
    (λ cs e. other_names _ _ _ _ h.3 _ (λ x y. (eq_by_cmp_equiv nat_list_cmp_total).congr cs x.now y.now) (λ k. apart bs cs k.now e))

-- a name that was not added was in the set before
pub contained : (bs : List ℕ) (s : BTreeSet (Bor (List ℕ))) (added : Bool)
    → added ≡ not (sorted.contains_by (λ k. slice_cmp nat_cmp bs k.now) s) → not added ≡ sorted.contains_by (λ k. slice_cmp nat_cmp bs k.now) s
contained bs s added e = ap not e ∙ not-not (sorted.contains_by (λ k. slice_cmp nat_cmp bs k.now) s)
