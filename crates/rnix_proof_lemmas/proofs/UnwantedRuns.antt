-- Runs of items that are not wanted.
use Rattle.std.proofs.Common.{◌≡◌, Bool, true, false, List, [], ◌∷◌, ◌++◌, refl, sym, ap, if◌then◌else◌}
use Rattle.rnix_grammar.specs.{declared.expected_set.ExpectedSet.ExpectedSet, Tables.{is_wanted, stops}, AnnotatedForest.{Token, head_kind, is_some}, UnwantedRun.run_of}
use Rattle.rnix_proof_lemmas.specs.Machine.{dropped}
use Rattle.{rnix_grammar.specs.ErrorNodes.AreUnwanted, rnix_proof_lemmas.proofs.Basics.true_is_not_false}

-- a run, the items after it, and the first of these, if any, which is wanted
pub record Parted (until : ExpectedSet) (ts run : List Token) : Type 0 where
  pub all : ts ≡ run ++ dropped run ts
  pub unwanted : AreUnwanted until run
  pub stops : stops until (head_kind (dropped run ts)) ≡ true

parted_by : (until : ExpectedSet) (t : Token) (ts : List Token) (w : Bool) → is_wanted until t.kind ≡ w → Parted until ts (run_of until ts)
    → Parted until (t ∷ ts) (if w then [] else t ∷ run_of until ts)
parted_by until t ts true e r = record { all = refl; unwanted = tt; stops = e }
parted_by until t ts false e r = record { all = ap (λ x. t ∷ x) r.all; unwanted = (e, r.unwanted); stops = r.stops }

-- the run of some tokens and the tokens after it are all of them
pub parted : (until : ExpectedSet) (ts : List Token) → Parted until ts (run_of until ts)
parted until [] = record { all = refl; unwanted = tt; stops = refl }
parted until (t ∷ ts) = parted_by until t ts (is_wanted until t.kind) refl (parted until ts)

-- a run begins with the next item, if that is not wanted
pub run_begins : (until : ExpectedSet) (t : Token) (ts : List Token) → is_wanted until t.kind ≡ false → run_of until (t ∷ ts) ≡ t ∷ run_of until ts
run_begins until t ts e = ap (λ w. if w then [] else t ∷ run_of until ts) e

-- nothing is left after all tokens
pub dropped_all : (ts : List Token) → dropped ts ts ≡ []
dropped_all [] = refl
dropped_all (t ∷ ts) = dropped_all ts

-- a nonempty list with more after it is not empty
pub some_remaining : (ts us : List Token) → is_some ts ≡ true → is_some (ts ++ us) ≡ true
some_remaining [] us h = absurd (true_is_not_false (sym h))
some_remaining (t ∷ ts) us h = refl
