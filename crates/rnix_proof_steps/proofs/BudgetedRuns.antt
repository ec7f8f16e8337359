-- The number of steps that the machine needs for a text.
use Rattle.std.proofs.Common.{◌≡◌, ◌≤◌, ℕ, suc, ◌+◌, ◌*◌, Bool, true, false, List, [], ◌∷◌, length, refl, ap, subst, arith}
use Rattle.rnix_grammar.specs.{Fault.Fault, AnnotatedForest.Token, Layout.items}
use Rattle.rnix_proof_lemmas.specs.{FrameKinds.AreStacked, Machine.{Frame, Machine, machine, initial_machine, step, Runs}}
use Rattle.rnix_proof_lemmas.specs.Machine.{rest as here, then as further}
use Rattle.rnix_proof_lemmas.proofs.StackedFrames.{step_stacked, initial_stacked}
use Rattle.rnix_proof_steps.specs.StepCount.{steps_in, is_finished, AreNeeded, ComesIn}
use Rattle.rnix_proof_steps.proofs.{Budgets.{pays, Enough, two_least, two_less}, BudgetedSteps.step_leaves}

-- a budget that covers a machine is at least two for each of its steps, and two more
within : (levels : Bool) (b : ℕ) (fs : List Frame) (ts : List Token) (n : ℕ) (es : List Fault) (to : Machine) (runs : Runs true (machine fs ts n es) to)
    → AreNeeded true (machine fs ts n es) to runs
    → AreStacked fs → Enough levels b (items ts) fs → 2 + 2 * steps_in runs ≤ b
within levels b [] ts n es to runs needed s x = absurd s
within levels b (f ∷ fs) ts n es to here needed s x = omega (arith, two_least levels b (items ts) f fs x)
within levels b (f ∷ fs) ts n es to (further runs) needed s x =
    let next : Machine = step true (machine (f ∷ fs) ts n es) in
    let less : (c : ℕ) × (b ≡ 2 + c) = two_less b (two_least levels b (items ts) f fs x) in
    let remaining : Enough levels less.0 (items next.remaining) next.frames =
    step_leaves levels less.0 f fs ts n es s (subst (λ b. Enough levels b (items ts) (f ∷ fs)) less.1 x) needed.0 in
    omega (
      arith,
      less.1,
      within levels less.0 next.frames next.remaining next.prev_end next.faults to runs needed.1 (step_stacked true (machine (f ∷ fs) ts n es) s) remaining,
    )

-- what the items of a whole text pay
pays_items : (us : List Token) → pays false us ≡ 15 * length us
pays_items [] = refl
pays_items (t ∷ us) = omega (arith, pays_items us)

pays_levels : (us : List Token) → pays true us ≡ 8 * length us
pays_levels [] = refl
pays_levels (t ∷ us) = omega (arith, pays_levels us)

initial_items : (ts us : List Token) → Enough false (15 * length us + 4) us (initial_machine ts).frames
initial_items ts [] = omega arith
initial_items ts (t ∷ us) =
    record { last_in = omega (arith, pays_items us); below = 0; closed_in = omega (arith, pays_items us); rest = tt }

initial_levels : (ts us : List Token) → Enough true (8 * length us + 7172) us (initial_machine ts).frames
initial_levels ts [] = omega arith
initial_levels ts (t ∷ us) =
    record { last_in = omega (arith, pays_levels us); below = 0; closed_in = omega (arith, pays_levels us); rest = tt }

-- by items: at most 15 steps for every two items, plus one
pub by_items : (steps : ℕ) (ts : List Token) (to : Machine) → ComesIn steps (initial_machine ts) to → 2 * steps ≤ 15 * length (items ts) + 2
by_items steps ts to c =
    omega (
      arith,
      c.count,
      within false (15 * length (items ts) + 4) (initial_machine ts).frames ts 0 [] to c.runs c.needed (initial_stacked ts) (initial_items ts (items ts)),
    )

-- by levels: at most four steps for each item, plus 3,585 (seven for each level of nesting, and one)
pub by_levels : (steps : ℕ) (ts : List Token) (to : Machine) → ComesIn steps (initial_machine ts) to → steps ≤ 4 * length (items ts) + 3585
by_levels steps ts to c =
    omega (
      arith,
      c.count,
      within true (8 * length (items ts) + 7172) (initial_machine ts).frames ts 0 [] to c.runs c.needed (initial_stacked ts) (initial_levels ts (items ts)),
    )

-- a run can be extended by one step
runs_on : (from m : Machine) → Runs true from m → Runs true from (step true m)
runs_on from m here = further here
runs_on from m (further runs) = further (runs_on (step true from) m runs)

needed_on : (from m : Machine) (runs : Runs true from m) → AreNeeded true from m runs → is_finished true m ≡ false
    → AreNeeded true from (step true m) (runs_on from m runs)
unfolding runs_on
needed_on from m here needed e = (e, tt)
needed_on from m (further runs) needed e = (needed.0, needed_on (step true from) m runs needed.1 e)

counted_on : (from m : Machine) (runs : Runs true from m) → steps_in (runs_on from m runs) ≡ suc (steps_in runs)
unfolding runs_on
counted_on from m here = refl
counted_on from m (further runs) = ap suc (counted_on (step true from) m runs)

pub comes_on : (steps : ℕ) (from m : Machine) → ComesIn steps from m → is_finished true m ≡ false → ComesIn (steps + 1) from (step true m)
comes_on steps from m c e = record {
  runs = runs_on from m c.runs;
  needed = needed_on from m c.runs c.needed e;
  count = omega (arith, c.count, counted_on from m c.runs);
}

-- a run that begins with one step more has one step more
pub comes_before : (steps : ℕ) (from m : Machine) → is_finished true from ≡ false → ComesIn steps (step true from) m → ComesIn (steps + 1) from m
comes_before steps from m e c = record { runs = further c.runs; needed = (e, c.needed); count = omega (arith, c.count) }
