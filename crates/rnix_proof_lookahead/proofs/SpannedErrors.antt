-- An error about items before a byte and others after it is the same up to the byte, whatever the others are.
use Rattle.std.proofs.{Common.{◌≡◌, ℕ, ◌≤◌, true, List, [], ◌∷◌, ◌++◌, refl, ap, sym, ◌∙◌, subst, arith, if◌then◌else◌, nat_le, nat_lt}, lemmas.Bool.Decides.nat_tests}
use Rattle.rnix_green.specs.Range.{Extent}
use Rattle.rnix_grammar.specs.{declared.expected_set.ExpectedSet.ExpectedSet, Fault.{Fault, extra, unwanted}, Tables.{is_wanted, wanted_kinds}, UnwantedRun.run_of}
use Rattle.rnix_grammar.specs.{AnnotatedForest.{Token, Unwanted, Extra, end_from, extent_of}, Reports.report}
use Rattle.rnix_proof_lemmas.{specs.Machine.{Machine, dropped}, proofs.Basics.choice}
use Rattle.rnix_proof_prefix.proofs.{Late.AreFrom, Ordered.AreOrdered}
use Rattle.rnix_proof_lookahead.{specs.ErrorsBefore.{up_to, error_if, errors_before}, proofs.LateErrors.{errors_more, more_late}}

-- two machines have the same errors before a byte, and everything left begins there or after it
pub record AreLateAlike (m : ℕ) (now there : Machine) : Type 0 where
  pub faults : errors_before m now.faults ≡ errors_before m there.faults
  pub first : AreFrom m now.remaining
  pub second : AreFrom m there.remaining

-- items that begin after a byte end after it
end_late : (m : ℕ) (ts : List Token) → AreOrdered m ts → m ≤ end_from m ts
end_late m [] o = omega arith
end_late m (t ∷ ts) o = omega (arith, o.0, o.1, end_late t.end ts o.2)

ends_after : (m n : ℕ) (q us : List Token) → end_from n q ≡ m → AreOrdered m us → m ≤ end_from n (q ++ us)
ends_after m n [] us e o = subst (λ z. m ≤ end_from z us) (sym e) (end_late m us o)
ends_after m n (t ∷ q) us e o = ends_after m t.end q us e o

-- a run of items in order is in order
pub ordered_run : (m : ℕ) (until : ExpectedSet) (ts : List Token) → AreOrdered m ts → AreOrdered m (run_of until ts)
ordered_run m until [] o = tt
ordered_run m until (t ∷ ts) o = choice (AreOrdered m) (is_wanted until t.kind) tt (o.0, o.1, ordered_run t.end until ts o.2)

-- a range that ends at the byte or after it is cut off at the byte
cut_end : (m n : ℕ) → m ≤ n → (if nat_le m n then m else n) ≡ m
cut_end m n l = let test : nat_le m n ≡ true = grind (arith, nat_tests, l) in ap (λ z. if z then m else n) test

same_range : (m : ℕ) (t : Token) (q us vs : List Token) → end_from t.end q ≡ m → AreOrdered m us → AreOrdered m vs
    → up_to m (extent_of (t ∷ (q ++ us))) ≡ up_to m (extent_of (t ∷ (q ++ vs)))
same_range m t q us vs e o w =
    ap (λ (z : ℕ). record { start = t.start; end = z })
    (cut_end m (end_from t.end (q ++ us)) (ends_after m t.end q us e o) ∙ sym (cut_end m (end_from t.end (q ++ vs)) (ends_after m t.end q vs e w)))

-- the error about everything left is the same up to the byte
pub same_extra : (m n : ℕ) (q : List Token) (x y : Token) (xs ys : List Token) (es : List Fault) → end_from n q ≡ m
    → AreOrdered m (x ∷ xs) → AreOrdered m (y ∷ ys)
    → errors_before m (es ++ report Extra (q ++ x ∷ xs) ∷ []) ≡ errors_before m (es ++ report Extra (q ++ y ∷ ys) ∷ [])
same_extra m n [] x y xs ys es e o w =
    more_late m es (report Extra (x ∷ xs)) o.0 ∙ sym (more_late m es (report Extra (y ∷ ys)) w.0)
same_extra m n (t ∷ q) x y xs ys es e o w =
    errors_more m es (report Extra (t ∷ (q ++ x ∷ xs)) ∷ [])
    ∙ ap (λ (z : Extent). errors_before m es ++ (error_if (nat_lt t.start m) (extra z) ++ [])) (same_range m t q (x ∷ xs) (y ∷ ys) e o w)
    ∙ sym (errors_more m es (report Extra (t ∷ (q ++ y ∷ ys)) ∷ []))

-- the error of a run is the same up to the byte
pub same_unwanted : (m n : ℕ) (until : ExpectedSet) (q : List Token) (x y : Token) (xs ys : List Token) (es : List Fault) → end_from n q ≡ m
    → AreOrdered m (x ∷ xs) → AreOrdered m (y ∷ ys)
    → errors_before m (es ++ report (Unwanted until) (q ++ x ∷ xs) ∷ []) ≡ errors_before m (es ++ report (Unwanted until) (q ++ y ∷ ys) ∷ [])
same_unwanted m n until [] x y xs ys es e o w =
    more_late m es (report (Unwanted until) (x ∷ xs)) o.0 ∙ sym (more_late m es (report (Unwanted until) (y ∷ ys)) w.0)
same_unwanted m n until (t ∷ q) x y xs ys es e o w =
    errors_more m es (report (Unwanted until) (t ∷ (q ++ x ∷ xs)) ∷ [])
    ∙ ap (λ (z : Extent). errors_before m es ++ (error_if (nat_lt t.start m) (unwanted t.kind z (wanted_kinds until)) ++ []))
    (same_range m t q (x ∷ xs) (y ∷ ys) e o w)
    ∙ sym (errors_more m es (report (Unwanted until) (t ∷ (q ++ y ∷ ys)) ∷ []))

-- nothing is left after all items
pub none_remaining_from : (m : ℕ) (ts : List Token) → AreFrom m (dropped ts ts)
none_remaining_from m [] = tt
none_remaining_from m (t ∷ ts) = none_remaining_from m ts

-- the items left after a run that contains all shared items are those left of the others
pub dropped_both : (q run us : List Token) → dropped (q ++ run) (q ++ us) ≡ dropped run us
dropped_both [] run us = refl
dropped_both (t ∷ q) run us = dropped_both q run us
