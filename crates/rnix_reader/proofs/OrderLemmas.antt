-- The tokens that are left stay in order.
use Rattle.{std.proofs.Common.{◌≡◌, ◌≤◌, ℕ, List, [], ◌∷◌, ◌++◌, true, false, ap, ◌∙◌, subst, arith}, rnix_kinds.specs.SyntaxKind.is_trivia}
use Rattle.rnix_grammar.specs.{declared.expected_set.ExpectedSet.{ExpectedSet, TheVariants.End}, AnnotatedForest.{Token, row_of, end_from}, Layout.{items, from_item, from_item_if, tail_of}}
use Rattle.rnix_grammar.specs.{Layout.remaining_after, UnwantedRun.run_of}
use Rattle.rnix_proof_lemmas.specs.Machine.{after_item, item_end, end_of, run_rest, dropped}
use Rattle.rnix_proof_lemmas.proofs.{WithoutTriviaLemmas.run_prefix, LayoutLemmas.{IsFirst, first_item, items-from_item}}
use Rattle.rnix_reader.{specs.Placed.AreInOrder, proofs.{CursorLemmas.in_order_from, SkippedRuns.run_all}}

-- after skipped trivia, tokens are in order
pub order_from : (n : ℕ) (ts : List Token) → AreInOrder n ts → AreInOrder n (from_item ts)
order_from n [] o = tt
order_from n (t ∷ ts) o =
    elim (is_trivia t.kind) as (λ x. AreInOrder n (from_item_if x t ts (from_item ts)))
    [ true ↦ in_order_from n t.end (from_item ts) (omega (arith, o.0, o.1)) (order_from t.end ts o.2) | false ↦ o ]

order_tail : (n : ℕ) (ts : List Token) → AreInOrder n ts → AreInOrder (end_of n ts) (tail_of ts)
order_tail n [] o = tt
order_tail n (t ∷ ts) o = o.2

end_least : (n : ℕ) (ts : List Token) → AreInOrder n ts → n ≤ end_of n ts
end_least n [] o = omega arith
end_least n (t ∷ ts) o = omega (arith, o.0, o.1)

-- after the next item, tokens are in order
pub order_behind : (n : ℕ) (ts : List Token) → AreInOrder n ts → AreInOrder (item_end true n ts) (after_item true ts)
order_behind n ts o = order_tail n (from_item ts) (order_from n ts o)

-- the next item does not end before the last one
pub reach_least : (n : ℕ) (ts : List Token) → AreInOrder n ts → n ≤ item_end true n ts
reach_least n ts o = end_least n (from_item ts) (order_from n ts o)

-- the tokens after a run are in order, and the run does not end before it begins
record Passed (n : ℕ) (run ts : List Token) : Type 0 where
  order : AreInOrder (end_from n run) (remaining_after (row_of run) ts)
  least : n ≤ end_from n run

passed : (n : ℕ) (run us ts : List Token) → items ts ≡ run ++ us → AreInOrder n ts → Passed n run ts
passed n [] us ts e o = record { order = o; least = omega arith }
passed n (t ∷ run) us ts e o =
    let first : IsFirst t (run ++ us) ts = first_item t (run ++ us) ts e in
    let ends : item_end true n ts ≡ t.end = ap (end_of n) first.here in
    let ih = passed t.end run us (tail_of (from_item ts)) first.remaining (subst (λ x. AreInOrder x (after_item true ts)) ends (order_behind n ts o)) in
    record { order = ih.order; least = omega (arith, ih.least, reach_least n ts o, ends) }

-- this holds after a run of unwanted items
pub order_run : (until : ExpectedSet) (n : ℕ) (ts : List Token) → AreInOrder n ts
    → AreInOrder (end_from n (run_of until (items ts))) (run_rest true (run_of until (items ts)) ts) × (n ≤ end_from n (run_of until (items ts)))
order_run until n ts o =
    let run : List Token = run_of until (items ts) in
    let w = passed n run (dropped run (items ts)) (from_item ts) (items-from_item ts ∙ run_prefix until (items ts)) (order_from n ts o) in
    (w.order, w.least)

-- this holds after all items
pub order_all : (n : ℕ) (ts : List Token) → AreInOrder n ts
    → AreInOrder (end_from n (items ts)) (run_rest true (items ts) ts) × (n ≤ end_from n (items ts))
order_all n ts o = subst (λ run. AreInOrder (end_from n run) (run_rest true run ts) × (n ≤ end_from n run)) (run_all (items ts)) (order_run End n ts o)
