-- Two lists of items that begin with the same items and continue with one of the same kind: where both are read alike, and where they part.
use Rattle.std.proofs.Common.{◌≡◌, ◌⊎◌, inl, inr, ℕ, ◌+◌, ◌≤◌, Bool, true, false, List, [], ◌∷◌, ◌++◌, length, refl, ap, sym, ◌∙◌, subst, arith}
use Rattle.std.proofs.Common.{append-nil, if◌then◌else◌}
use Rattle.rnix_green.specs.Forest.{Forest, join}
use Rattle.rnix_grammar.specs.{declared.expected_set.ExpectedSet.ExpectedSet, Fault.Fault, Tables.is_wanted, UnwantedRun.run_of, Reports.report}
use Rattle.rnix_grammar.specs.AnnotatedForest.{Token, Unwanted, Extra, TooDeep, ◌⊕◌, one_fault, row_of, forget, end_from}
use Rattle.rnix_proof_lemmas.specs.Machine.{Frame, Machine, put, dropped, machine, limited, perform}
use Rattle.rnix_proof_prefix.proofs.{Late.{AreFrom, from_dropped}, Ordered.{AreOrdered, from_end}, SharedSteps.onto}
use Rattle.rnix_proof_lookahead.{specs.{Completed.{leaf_count, completed}, ErrorsBefore.errors_before}, proofs.{KeptSteps.trees_in, Leads.{Leads, faulted_leads}}}
use Rattle.rnix_proof_lookahead.proofs.{EndedRuns.{RunIn, run_in, dropped_more, dropped_own, run_ends}, SpannedErrors.{AreLateAlike, ordered_run, same_extra, same_unwanted}}
use Rattle.rnix_proof_lookahead.proofs.SpannedErrors.{none_remaining_from, dropped_both}
use Rattle.rnix_grammar.specs.declared.position.Position.TheVariants as p
use Rattle.rnix_grammar.specs.declared.action.Action.TheVariants as a

-- the machine after a run
abbrev ran : ExpectedSet → ℕ → Frame → List Frame → ℕ → List Fault → List Token → List Token → Machine
ran until after f fs n es run ts =
    machine (put (p.InRow after) (f.children ⊕ one_fault (Unwanted until) (row_of run)) f ∷ fs) ts (end_from n run) (es ++ report (Unwanted until) run ∷ [])

module _ (k e : ℕ) (x y : Token) (xs ys : List Token) (kinds : x.kind ≡ y.kind) where
  -- both machines have the same frames and errors, and the same shared items left
  pub record IsShared (here there : Machine) : Type 0 where
    pub at : Machine
    pub first : here ≡ onto (x ∷ xs) at
    pub second : there ≡ onto (y ∷ ys) at
    pub ends : end_from at.prev_end at.remaining ≡ e

  -- or what the first `k` items complete is fixed and is the same in both, and so are the errors before the end of these items
  pub record IsParted (here there : Machine) : Type 0 where
    pub trees : Forest
    pub first : Leads k trees here
    pub second : Leads k trees there
    pub errors : AreOrdered e (x ∷ xs) → AreOrdered e (y ∷ ys) → AreLateAlike e here there

  abbrev pub Goes : Machine → Machine → Type 0
  Goes here there = IsShared here there ⊎ IsParted here there

  -- both are read alike if they come from one machine with the items of each list after it
  pub shared : (at : Machine) → end_from at.prev_end at.remaining ≡ e → Goes (onto (x ∷ xs) at) (onto (y ∷ ys) at)
  shared at h = inl (record { at = at; first = refl; second = refl; ends = h })

  -- both part if what the first items complete is fixed in both, with the same errors
  pub parted : (s : Forest) (here there : Machine) → Leads k s here → Leads k s there → here.faults ≡ there.faults
      → (AreFrom e (x ∷ xs) → AreFrom e here.remaining) → (AreFrom e (y ∷ ys) → AreFrom e there.remaining) → Goes here there
  parted s here there v w h f g = inr (record {
    trees = s;
    first = v;
    second = w;
    errors = λ o z. record { faults = ap (errors_before e) h; first = f (from_end e [] (x ∷ xs) o); second = g (from_end e [] (y ∷ ys) z) };
  })

  -- if an error node contains everything left, both part
  pub all_goes : (f : Frame) (fs : List Frame) (q : List Token) (n : ℕ) (es : List Fault) → leaf_count (trees_in (f ∷ fs)) + length q ≡ k
      → end_from n q ≡ e → Goes (perform false a.Extra f fs (q ++ x ∷ xs) n es) (perform false a.Extra f fs (q ++ y ∷ ys) n es)
  all_goes f fs q n es c h = inr (record {
    trees = completed k (join (trees_in (f ∷ fs)) (forget (row_of q)));
    first = faulted_leads k Extra f fs q (x ∷ xs) (perform false a.Extra f fs (q ++ x ∷ xs) n es) refl c (omega arith);
    second = faulted_leads k Extra f fs q (y ∷ ys) (perform false a.Extra f fs (q ++ y ∷ ys) n es) refl c (omega arith);
    errors = λ o w. record {
      faults = same_extra e n q x y xs ys es h o w;
      first = none_remaining_from e (q ++ x ∷ xs);
      second = none_remaining_from e (q ++ y ∷ ys);
    };
  })

  pub limited_goes : (f : Frame) (fs : List Frame) (q : List Token) (n : ℕ) (es : List Fault) → leaf_count (trees_in (f ∷ fs)) + length q ≡ k
      → Goes (limited false f fs (q ++ x ∷ xs) n es) (limited false f fs (q ++ y ∷ ys) n es)
  limited_goes f fs q n es c =
      parted (completed k (join (trees_in (f ∷ fs)) (forget (row_of q)))) (limited false f fs (q ++ x ∷ xs) n es) (limited false f fs (q ++ y ∷ ys) n es)
      (faulted_leads k TooDeep f fs q (x ∷ xs) (limited false f fs (q ++ x ∷ xs) n es) refl c (omega arith))
      (faulted_leads k TooDeep f fs q (y ∷ ys) (limited false f fs (q ++ y ∷ ys) n es) refl c (omega arith)) refl
      (λ o. none_remaining_from e (q ++ x ∷ xs)) (λ o. none_remaining_from e (q ++ y ∷ ys))

  -- a run
  module _ (until : ExpectedSet) (after : ℕ) (f : Frame) (fs : List Frame) (q : List Token) (n : ℕ) (es : List Fault)
      (c : leaf_count (trees_in (f ∷ fs)) + length q ≡ k) (h : end_from n q ≡ e) where
    abbrev run_on : List Token → Machine
    run_on us = perform false (a.Run until after) f fs (q ++ us) n es

    -- the run ends before the last shared item
    early : (us : List Token) → run_of until (q ++ us) ≡ run_of until q
        → run_on us ≡ onto us (ran until after f fs n es (run_of until q) (dropped (run_of until q) q))
    early us same =
        ap (λ z. ran until after f fs n es z (dropped z (q ++ us))) same
        ∙ ap (λ z. ran until after f fs n es (run_of until q) z) (dropped_more until q us)

    -- the run ends with the last shared item
    just : (us : List Token) → run_of until (q ++ us) ≡ q ++ run_of until us → run_of until us ≡ [] → run_on us ≡ onto us (ran until after f fs n es q [])
    just us same none =
        ap (λ z. ran until after f fs n es z (dropped z (q ++ us))) (same ∙ ap (λ z. q ++ z) none ∙ append-nil q)
        ∙ ap (λ z. ran until after f fs n es q z) (dropped_own q us)

    -- the run continues after the shared items
    over : (v : Token) (us : List Token) → run_of until (q ++ v ∷ us) ≡ q ++ run_of until (v ∷ us) → is_wanted until v.kind ≡ false
        → Leads k (completed k (join (trees_in (f ∷ fs)) (forget (row_of q)))) (run_on (v ∷ us))
    over v us same w =
        let more : run_of until (v ∷ us) ≡ v ∷ run_of until us = ap (λ z. if z then [] else v ∷ run_of until us) w in
        let some : 1 ≤ length (run_of until (v ∷ us)) = omega (arith, ap length more) in
        faulted_leads k (Unwanted until) f fs q (run_of until (v ∷ us)) (run_on (v ∷ us))
        (ap (λ z. join (trees_in fs) (forget (f.children ⊕ one_fault (Unwanted until) (row_of z)))) same) c some

    -- then everything left begins after them
    remaining_from : (v : Token) (us : List Token) → run_of until (q ++ v ∷ us) ≡ q ++ run_of until (v ∷ us) → AreOrdered e (v ∷ us)
        → AreFrom e (dropped (run_of until (q ++ v ∷ us)) (q ++ v ∷ us))
    remaining_from v us same o =
        subst (AreFrom e) (sym (ap (λ z. dropped z (q ++ v ∷ us)) same ∙ dropped_both q (run_of until (v ∷ us)) (v ∷ us)))
        (from_dropped e (run_of until (v ∷ us)) (v ∷ us) (from_end e [] (v ∷ us) o))

    -- and the error of the run is about them, the next item, and the run after it
    run_error : (v : Token) (us : List Token) → run_of until (q ++ v ∷ us) ≡ q ++ run_of until (v ∷ us) → is_wanted until v.kind ≡ false
        → report (Unwanted until) (run_of until (q ++ v ∷ us)) ≡ report (Unwanted until) (q ++ v ∷ run_of until us)
    run_error v us same w = ap (report (Unwanted until)) (same ∙ ap (λ z. q ++ (if z then [] else v ∷ run_of until us)) w)

    run_ordered : (v : Token) (us : List Token) → is_wanted until v.kind ≡ false → AreOrdered e (v ∷ us) → AreOrdered e (v ∷ run_of until us)
    run_ordered v us w o = subst (AreOrdered e) (ap (λ z. if z then [] else v ∷ run_of until us) w) (ordered_run e until (v ∷ us) o)

    wanted_goes : (w : Bool) → is_wanted until x.kind ≡ w → is_wanted until y.kind ≡ w
        → ((us : List Token) → run_of until (q ++ us) ≡ q ++ run_of until us) → Goes (run_on (x ∷ xs)) (run_on (y ∷ ys))
    wanted_goes true v w same = inl (record {
      at = ran until after f fs n es q [];
      first = just (x ∷ xs) (same (x ∷ xs)) (ap (λ z. if z then [] else x ∷ run_of until xs) v);
      second = just (y ∷ ys) (same (y ∷ ys)) (ap (λ z. if z then [] else y ∷ run_of until ys) w);
      ends = h;
    })
    wanted_goes false v w same = inr (record {
      trees = completed k (join (trees_in (f ∷ fs)) (forget (row_of q)));
      first = over x xs (same (x ∷ xs)) v;
      second = over y ys (same (y ∷ ys)) w;
      errors = λ o z. record {
        faults = ap (λ d. errors_before e (es ++ d ∷ [])) (run_error x xs (same (x ∷ xs)) v)
            ∙ same_unwanted e n until q x y (run_of until xs) (run_of until ys) es h (run_ordered x xs v o) (run_ordered y ys w z)
            ∙ sym (ap (λ d. errors_before e (es ++ d ∷ [])) (run_error y ys (same (y ∷ ys)) w));
        first = remaining_from x xs (same (x ∷ xs)) o;
        second = remaining_from y ys (same (y ∷ ys)) z;
      };
    })

    run_goes_in : RunIn until q → Goes (run_on (x ∷ xs)) (run_on (y ∷ ys))
    run_goes_in (inl same) = inl (record {
      at = ran until after f fs n es (run_of until q) (dropped (run_of until q) q);
      first = early (x ∷ xs) (same (x ∷ xs));
      second = early (y ∷ ys) (same (y ∷ ys));
      ends = run_ends until n q ∙ h;
    })
    run_goes_in (inr same) = wanted_goes (is_wanted until x.kind) refl (sym (ap (is_wanted until) kinds)) same

    pub run_goes : Goes (run_on (x ∷ xs)) (run_on (y ∷ ys))
    run_goes = run_goes_in (run_in until q)
