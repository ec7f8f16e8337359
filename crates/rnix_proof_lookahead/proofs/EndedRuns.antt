-- Where a run ends in items with others after them.
use Rattle.std.proofs.Common.{◌≡◌, ◌⊎◌, inl, inr, ℕ, Bool, true, false, List, [], ◌∷◌, ◌++◌, refl, ap, if◌then◌else◌}
use Rattle.rnix_grammar.specs.{declared.expected_set.ExpectedSet.ExpectedSet, Tables.is_wanted, UnwantedRun.run_of, AnnotatedForest.{Token, end_from}}
use Rattle.{rnix_proof_lemmas.specs.Machine.dropped, rnix_proof_lemmas.proofs.Basics.choice}

-- a run ends before the last of some items, or contains them all
abbrev pub RunIn : ExpectedSet → List Token → Type 0
RunIn until q =
    ((us : List Token) → run_of until (q ++ us) ≡ run_of until q) ⊎ ((us : List Token) → run_of until (q ++ us) ≡ q ++ run_of until us)

run_turn : (until : ExpectedSet) (t : Token) (q : List Token) (w : Bool) → RunIn until q
    → ((us : List Token) → (if w then [] else t ∷ run_of until (q ++ us)) ≡ (if w then [] else t ∷ run_of until q))
    ⊎ ((us : List Token) → (if w then [] else t ∷ run_of until (q ++ us)) ≡ t ∷ (q ++ run_of until us))
run_turn until t q true h = inl (λ us. refl)
run_turn until t q false (inl h) = inl (λ us. ap (λ z. t ∷ z) (h us))
run_turn until t q false (inr h) = inr (λ us. ap (λ z. t ∷ z) (h us))

pub run_in : (until : ExpectedSet) (q : List Token) → RunIn until q
run_in until [] = inr (λ us. refl)
run_in until (t ∷ q) = run_turn until t q (is_wanted until t.kind) (run_in until q)

-- the items after a run that ends early are followed by the others
pub dropped_more : (until : ExpectedSet) (q us : List Token) → dropped (run_of until q) (q ++ us) ≡ dropped (run_of until q) q ++ us
dropped_more until [] us = refl
dropped_more until (t ∷ q) us = choice (λ z. dropped z (t ∷ (q ++ us)) ≡ dropped z (t ∷ q) ++ us) (is_wanted until t.kind) refl (dropped_more until q us)

pub dropped_own : (q us : List Token) → dropped q (q ++ us) ≡ us
dropped_own [] us = refl
dropped_own (t ∷ q) us = dropped_own q us

pub run_ends : (until : ExpectedSet) (n : ℕ) (q : List Token) → end_from (end_from n (run_of until q)) (dropped (run_of until q) q) ≡ end_from n q
run_ends until n [] = refl
run_ends until n (t ∷ q) =
    choice (λ z. end_from (end_from n z) (dropped z (t ∷ q)) ≡ end_from t.end q) (is_wanted until t.kind) refl (run_ends until t.end q)
