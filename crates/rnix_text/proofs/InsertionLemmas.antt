-- Where edits are inserted into runs.
use Rattle.std.proofs.Common.{◌≡◌, ℕ, ◌+◌, ◌≤◌, ◌<◌, List, length, map, take, get_or, Vec, Global, true, false, ◌⊎◌, inl, inr, ap, sym, ◌∙◌, subst, arith}
use Rattle.std.{proofs.lemmas.{Bool.{cases_lt, Decides.nat_tests}, List.{get_or_read, take_all}}, specs.List.{All, Sorted.{IsPartitionedBy, IsPartitionPoint}}}
use Rattle.rnix_text.specs.declared.runs.InsertionPoint.TheVariants as insertion
use Rattle.rnix_text.specs.{declared.edits.Edit.Edit, Edit.change_of, Changes.{AreAscending, HasOverlap}}
use Rattle.rnix_text.specs.Runs.{edits_of, ends_by, run_ends_by, AreFilled, end_of, IsInsertionPoint}
use Rattle.rnix_text.proofs.{RunLemmas.{run_ends_ascend, front_ends, end_within, ends_before, edit_there, is_within}, ChangeLemmas.{ends_by_true, ends_by_false, added_at, overlap}}

run_by_true : (start : ℕ) (run : Vec Edit Global) → run_ends_by start run ≡ true → end_of 0 run.items ≤ start
run_by_true start run h = grind (arith, nat_tests)

run_by_false : (start : ℕ) (run : Vec Edit Global) → run_ends_by start run ≡ false → start < end_of 0 run.items
run_by_false start run h = grind (arith, nat_tests)

does_run_by : (start : ℕ) (run : Vec Edit Global) → end_of 0 run.items ≤ start → run_ends_by start run ≡ true
does_run_by start run h = grind (arith, nat_tests)

-- runs are partitioned by whether they end at or before an offset
pub runs_parted : (start : ℕ) (runs : List (Vec Edit Global)) → AreAscending 0 (map change_of (edits_of runs)) → AreFilled runs
    → IsPartitionedBy (run_ends_by start) runs
runs_parted start runs h f i j d le l up =
    does_run_by start (get_or runs i d) (omega (arith, run_ends_ascend 0 runs h f i j d le l, run_by_true start (get_or runs j d) up))

module _ (start end : ℕ) (runs : List (Vec Edit Global)) (i : ℕ) (h : AreAscending 0 (map change_of (edits_of runs))) (f : AreFilled runs)
    (order : start ≤ end) (point : IsPartitionPoint (λ y. run_ends_by start y ≡ true) (λ y. run_ends_by start y ≡ false) runs i) where
  fronts : All (λ (e : Edit). e.end ≤ start) (edits_of (take i runs))
  fronts = front_ends 0 start runs i h f (λ k d a b. run_by_true start (get_or runs k d) (point.0 k d (omega arith) a))

  -- the insertion point after all runs
  pub last_placed : i ≡ length runs → IsInsertionPoint start end runs insertion.Last
  last_placed e =
      let all : All (λ (e : Edit). e.end ≤ start) (edits_of runs) =
      subst (λ xs. All (λ (e : Edit). e.end ≤ start) (edits_of xs)) (ap (λ k. take k runs) e ∙ take_all (length runs) runs (omega arith)) fronts in
      record {
        is_in = tt;
        added = λ x s t. added_at 0 (edits_of runs) (length (edits_of runs)) x h (omega arith) (omega (arith, order, s, t))
            (λ k d l. omega (arith, all k d l, s)) (λ d l. absurd (omega (arith, l)));
      }

  module _ (at : ℕ) (r : Vec Edit Global) (xs : List Edit) (same : xs ≡ r.items) (inside : i < length runs) (is : r ≡ get_or runs i r)
      (bound : at ≤ length xs) (within : IsPartitionPoint (λ y. ends_by start y ≡ true) (λ y. ends_by start y ≡ false) xs at) where
    early : (k : ℕ) (d : Edit) → k < at → (get_or xs k d).end ≤ start
    early k d l = ends_by_true start (get_or xs k d) (within.0 k d (omega arith) l)

    -- the last edit of the run ends later
    pub not_last : at < length xs
    not_last = by_order (cases_lt at (length xs))
      where
        by_order : (at < length xs) ⊎ (length xs ≤ at) → at < length xs
        by_order (inl a) = a
        by_order (inr a) =
            let last = run_by_false start r (subst (λ x. run_ends_by start x ≡ false) (sym is) (point.1 i r (omega arith) inside)) in
            let end = end_within 0 start xs (omega arith) (λ k d l. early k d (omega (arith, l, a))) in
            absurd (omega (arith, last, end, ap (end_of 0) same))

    late : (d : Edit) → start < (get_or xs at d).end
    late d = ends_by_false start (get_or xs at d) (within.1 at d (omega arith) not_last)

    here : at < length r.items
    here = subst (λ ys. at < length ys) same not_last

    there : (d : Edit) → get_or (edits_of runs) (length (edits_of (take i runs)) + at) d ≡ get_or xs at d
    there d = edit_there start runs i at r inside is here d ∙ ap (λ ys. get_or ys at d) (sym same)

    pub run_placed : ((d : Edit) → end ≤ (get_or xs at d).start) → IsInsertionPoint start end runs (insertion.In i at)
    run_placed free = record {
      is_in = (inside, λ d. subst (λ (x : Vec Edit Global). at ≤ length x.items) (get_or_read runs i r inside is d) (omega (arith, here)));
      added = λ x s t. added_at 0 (edits_of runs) (length (edits_of (take i runs)) + at) x h (omega (arith, is_within start runs i at r inside is here))
          (omega (arith, order, s, t))
          (λ k d l. omega (
            arith,
            ends_before start runs i at r inside is here fronts
                (λ k d l. subst (λ ys. (get_or ys k d).end ≤ start) same (early k d l)) k d l,
            s,
          ))
          (λ d l. (omega (arith, ap (λ (e : Edit). e.end) (there d), late d, s), omega (arith, ap (λ (e : Edit). e.start) (there d), free d, t)));
    }

    pub run_met : (x : Edit) → (get_or xs at x).start < end → HasOverlap start end (map change_of (edits_of runs))
    run_met x l =
        overlap start end (edits_of runs) (length (edits_of (take i runs)) + at) x (is_within start runs i at r inside is here)
        (omega (arith, ap (λ (e : Edit). e.end) (there x), late x), omega (arith, ap (λ (e : Edit). e.start) (there x), l))
