-- If two lists begin with the same items and continue with one of the same kind that touches alike, these items complete the same trees.
use Rattle.std.proofs.Common.{◌≡◌, inl, inr, ℕ, zero, suc, ◌+◌, Bool, false, List, [], ◌∷◌, ◌++◌, length, take, drop, Some, None, refl, ap, sym, ◌∙◌, subst, arith}
use Rattle.std.proofs.{Common.{nat_eq, length-append}, lemmas.List.take-append-drop}
use Rattle.rnix_grammar.specs.{Fault.Fault, Actions.action_at, Reads.ReadsRoot, AnnotatedForest.{Token, AnnotatedForest, tokens_in, forget, end_from, touches}}
use Rattle.rnix_proof_lemmas.specs.Machine.{Frame, Machine, machine, perform, step_on, step, initial_machine, Runs}
use Rattle.rnix_proof_lemmas.specs.Machine.{rest as here, then as further}
use Rattle.{rnix_proof_lemmas.proofs.{AllowedLemmas.allowed, Basics.{not_nil, none_right}}, rnix_proof_uniqueness.proofs.AllReads.{ended_with, reads_runs, one_row}}
use Rattle.rnix_proof_prefix.proofs.Ordered.{AreOrdered}
use Rattle.rnix_proof_lookahead.specs.{Completed.{leaf_count, completed}, ErrorsBefore.errors_before, AlikeStarts.{AreNext, BeginAlike}}
use Rattle.rnix_proof_lookahead.proofs.{KeptSteps.{trees_in, IsKept, step_kept}, AlikeSteps.perform_goes}
use Rattle.rnix_proof_lookahead.proofs.{PartedReadings.{IsShared, Goes}, LateErrors.runs_late, SpannedErrors.AreLateAlike}
use Rattle.rnix_proof_layout.proofs.{MovedItems.moved, Touch.last_kind}
use Rattle.{rnix_proof_prefix.proofs.NewExtents.{behind, ReadsOn, reads_on}, rnix_proof_lookahead.proofs.NextExtents.{parts, next_touches, next_on}}

module _ (k e : ℕ) (x y : Token) (xs ys : List Token) (kinds : x.kind ≡ y.kind) (touch : nat_eq x.start e ≡ nat_eq y.start e) where
  -- both machines take the same action at the first of the other items
  same_action : (f : Frame) (n : ℕ) → n ≡ e
      → action_at f.position (Some x.kind) (nat_eq x.start n) ≡ action_at f.position (Some y.kind) (nat_eq y.start n)
  same_action f n h =
      ap (λ z. action_at f.position (Some z) (nat_eq x.start n)) kinds
      ∙ ap (action_at f.position (Some y.kind)) (ap (nat_eq x.start) h ∙ touch ∙ sym (ap (nat_eq y.start) h))

  same_step : (fs : List Frame) (q : List Token) (n : ℕ) (es : List Fault) → leaf_count (trees_in fs) + length q ≡ k → end_from n q ≡ e
      → Goes k e x y xs ys kinds (step_on false fs (q ++ x ∷ xs) n es) (step_on false fs (q ++ y ∷ ys) n es)
  same_step [] q n es c h = inl (record { at = machine [] q n es; first = refl; second = refl; ends = h })
  same_step (f ∷ fs) [] n es c h =
      subst (λ z. Goes k e x y xs ys kinds (step_on false (f ∷ fs) (x ∷ xs) n es) (perform false z f fs (y ∷ ys) n es)) (same_action f n h)
      (perform_goes k e x y xs ys kinds (action_at f.position (Some x.kind) (nat_eq x.start n)) f fs [] n es c h
      (allowed f.position (Some x.kind) (nat_eq x.start n)))
  same_step (f ∷ fs) (t ∷ q) n es c h =
      perform_goes k e x y xs ys kinds (action_at f.position (Some t.kind) (nat_eq t.start n)) f fs (t ∷ q) n es c h
      (allowed f.position (Some t.kind) (nat_eq t.start n))

  not_over : (q : List Token) (z : Token) (zs : List Token) → q ++ z ∷ zs ≡ [] → ⊥
  not_over q z zs h = not_nil (none_right q (z ∷ zs) h)

  -- each item is a leaf or is still left after the step
  counted : (fs : List Frame) (q : List Token) (n : ℕ) (es : List Fault) (at : Machine) → leaf_count (trees_in fs) + length q ≡ k
      → step false (machine fs (q ++ x ∷ xs) n es) ≡ machine at.frames (at.remaining ++ x ∷ xs) at.prev_end at.faults
      → leaf_count (trees_in at.frames) + length at.remaining ≡ k
  counted fs q n es at c h =
      let w : IsKept (trees_in fs) (q ++ x ∷ xs) (step false (machine fs (q ++ x ∷ xs) n es)) = step_kept (machine fs (q ++ x ∷ xs) n es) in
      let now : leaf_count (trees_in (step false (machine fs (q ++ x ∷ xs) n es)).frames) + length (step false (machine fs (q ++ x ∷ xs) n es)).remaining
      ≡ leaf_count (trees_in at.frames) + length (at.remaining ++ x ∷ xs) = ap (λ (z : Machine). leaf_count (trees_in z.frames) + length z.remaining) h in
      omega (arith, w.counts, now, length-append q (x ∷ xs), length-append at.remaining (x ∷ xs), c)

  -- both lists are read to their ends
  module _ (first second : Machine) (over : first.remaining ≡ []) (done : second.remaining ≡ []) where
    -- the same trees are complete; and if the items are in order, the errors before the end of the last shared item are the same
    pub record AreSame : Type 0 where
      pub trees : completed k (trees_in first.frames) ≡ completed k (trees_in second.frames)
      pub errors : AreOrdered e (x ∷ xs) → AreOrdered e (y ∷ ys) → errors_before e first.faults ≡ errors_before e second.faults

    after : (now other : Machine) → Runs false now first → Runs false other second
        → (IsShared k e x y xs ys kinds now other → AreSame) → Goes k e x y xs ys kinds now other → AreSame
    after now other r s f (inl v) = f v
    after now other r s f (inr v) = record {
      trees = v.first first r over ∙ sym (v.second second s done);
      errors = λ o w.
          let late : AreLateAlike e now other = v.errors o w in
          runs_late e r late.first ∙ late.faults ∙ sym (runs_late e s late.second);
    }

    -- this holds from machines with the same frames and shared items on
    pub together : {now other : Machine} (fs : List Frame) (q : List Token) (n : ℕ) (es : List Fault) → Runs false now first → Runs false other second
        → now ≡ machine fs (q ++ x ∷ xs) n es → other ≡ machine fs (q ++ y ∷ ys) n es → leaf_count (trees_in fs) + length q ≡ k → end_from n q ≡ e
        → AreSame
    together fs q n es here s h g c l = absurd (not_over q x xs (sym (ap (λ (z : Machine). z.remaining) h) ∙ over))
    together fs q n es r here h g c l = absurd (not_over q y ys (sym (ap (λ (z : Machine). z.remaining) g) ∙ done))
    together {now} {other} fs q n es (further r) (further s) h g c l =
        let a : Machine = machine fs (q ++ x ∷ xs) n es in
        let b : Machine = machine fs (q ++ y ∷ ys) n es in
        after (step false a) (step false b) (subst (λ z. Runs false (step false z) first) h r) (subst (λ z. Runs false (step false z) second) g s)
        (λ o. together o.at.frames o.at.remaining o.at.prev_end o.at.faults r s (ap (step false) h ∙ o.first) (ap (step false) g ∙ o.second)
        (counted fs q n es o.at c o.first) o.ends)
        (same_step fs q n es c l)

-- the first `k` of more than `k` items are `k` items
took : (k : ℕ) (ts : List Token) (x : Token) (xs : List Token) → drop k ts ≡ x ∷ xs → length (take k ts) ≡ k
took zero ts x xs h = refl
took (suc k) [] x xs h = absurd (not_nil (sym h))
took (suc k) (t ∷ ts) x xs h = ap suc (took k ts x xs h)

-- the first `k` items complete the same trees, and if the items after them are in order, the errors before byte `e` are the same
abbrev pub SameAt : ℕ → ℕ → AnnotatedForest → AnnotatedForest → List Fault → List Fault → List Token → List Token → Type 0
SameAt k e f g ds es us vs =
    (completed k (forget f) ≡ completed k (forget g)) × (AreOrdered e us → AreOrdered e vs → errors_before e ds ≡ errors_before e es)

same_at : (k : ℕ) (q : List Token) (f g : AnnotatedForest) (ds es : List Fault) → ReadsRoot f ds → ReadsRoot g es → (us vs : List Token)
    → tokens_in f ≡ q ++ us → tokens_in g ≡ q ++ vs → AreNext (end_from 0 q) us vs → ((x : Token) (xs : List Token) → us ≡ x ∷ xs → length q ≡ k)
    → SameAt k (end_from 0 q) f g ds es us vs
same_at k q f g ds es r s [] [] a b h c =
    let same : (f ≡ g) × (ds ≡ es) = one_row f g ds es r s (a ∙ sym b) in
    (ap (λ (z : AnnotatedForest). completed k (forget z)) same.0, λ o w. ap (errors_before (end_from 0 q)) same.1)
same_at k q f g ds es r s [] (y ∷ ys) a b h c = absurd h
same_at k q f g ds es r s (x ∷ xs) [] a b h c = absurd h
same_at k q f g ds es r s (x ∷ xs) (y ∷ ys) a b h c =
    let first : Machine = ended_with f (end_from 0 (tokens_in f)) ds in
    let second : Machine = ended_with g (end_from 0 (tokens_in g)) es in
    let count : length q ≡ k = c x xs refl in
    let same = together k (end_from 0 q) x y xs ys h.0 h.1 first second refl refl (initial_machine q).frames q 0 [] (reads_runs f ds r) (reads_runs g es s)
    (ap initial_machine a) (ap initial_machine b) (omega (arith, count)) refl in
    (same.trees, same.errors)

-- two readings of such items complete the same trees
pub same_trees : (k : ℕ) (f g : AnnotatedForest) (ds es : List Fault) → ReadsRoot f ds → ReadsRoot g es
    → BeginAlike k None 0 0 (tokens_in f) (tokens_in g) → completed k (forget f) ≡ completed k (forget g)
same_trees k f g ds es r s alike =
    let ts : List Token = tokens_in f in
    let q : List Token = take k ts in
    let others : List Token = drop k (tokens_in g) in
    let end : ℕ = end_from 0 (take k (tokens_in g)) in
    let near : Bool = touches (end_from 0 q) (drop k ts) in
    let h = parts k None 0 0 ts (tokens_in g) alike in
    let there : ReadsOn k near ts g es = reads_on k near ts g es s h.0 (next_touches (last_kind None q) (end_from 0 q) end (drop k ts) others h.1) in
    (same_at k q f there.trees ds there.faults r there.reads (drop k ts) (moved others (behind near (end_from 0 q) others)) (sym (take-append-drop k ts))
    there.all (next_on (last_kind None q) (end_from 0 q) end (drop k ts) others h.1) (took k ts)).0 ∙ ap (completed k) there.same

-- items that follow others in order are in order
ordered_behind : (n : ℕ) (q us : List Token) → AreOrdered n (q ++ us) → AreOrdered (end_from n q) us
ordered_behind n [] us o = o
ordered_behind n (t ∷ q) us o = ordered_behind t.end q us o.2

-- if the shared items have the same ranges, the errors before their end are the same too
pub same_errors : (k : ℕ) (f g : AnnotatedForest) (ds es : List Fault) → ReadsRoot f ds → ReadsRoot g es
    → AreOrdered 0 (tokens_in f) → AreOrdered 0 (tokens_in g)
    → take k (tokens_in f) ≡ take k (tokens_in g) → AreNext (end_from 0 (take k (tokens_in f))) (drop k (tokens_in f)) (drop k (tokens_in g))
    → errors_before (end_from 0 (take k (tokens_in f))) ds ≡ errors_before (end_from 0 (take k (tokens_in f))) es
same_errors k f g ds es r s o w e h =
    let ts : List Token = tokens_in f in
    let us : List Token = tokens_in g in
    let q : List Token = take k ts in
    let here : ts ≡ q ++ drop k ts = sym (take-append-drop k ts) in
    let there : us ≡ q ++ drop k us = sym (take-append-drop k us) ∙ ap (λ z. z ++ drop k us) (sym e) in
    (same_at k q f g ds es r s (drop k ts) (drop k us) here there h (took k ts)).1
    (ordered_behind 0 q (drop k ts) (subst (AreOrdered 0) here o)) (ordered_behind 0 q (drop k us) (subst (AreOrdered 0) there w))
