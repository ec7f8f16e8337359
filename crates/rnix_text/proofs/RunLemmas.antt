-- Runs of edits: the edits before a position, and runs into which an edit is inserted or which are split.
use Rattle.std.proofs.Common.{◌≡◌, ℕ, zero, suc, ◌+◌, ◌-◌, ◌≤◌, ◌<◌, List, [], ◌∷◌, ◌++◌, length, map, take, drop, get_or, slice_set, Vec, Global, refl, ap, sym, ◌∙◌, subst, arith}
use Rattle.std.{proofs.Common.{◌⊎◌, inl, inr, append_assoc, add-one, length-append, length-take, length-drop}, specs.List.{All, insert}}
use Rattle.std.proofs.lemmas.{Bool.cases_lt, List.{take-append-drop, get_or_append_left, get_or_read, Concat.get_or-flat_map, Elements.All-append, Edits.{insert-append_left, insert-append_right}}}
use Rattle.rnix_text.specs.{declared.edits.Edit.Edit, Edit.change_of, Changes.AreAscending}
use Rattle.rnix_text.{specs.Runs.{edits_of, AreFilled, end_of, IsDivided}, proofs.ChangeLemmas.none}

module _ (v : Vec Edit Global) where
  -- inserting an edit into a run
  pub put_in_run : (runs : List (Vec Edit Global)) (i at : ℕ) (e : Edit) → i < length runs → at ≤ length (get_or runs i v).items
      → v.items ≡ insert (get_or runs i v).items at e
      → edits_of (slice_set runs i v) ≡ insert (edits_of runs) (length (edits_of (take i runs)) + at) e
  put_in_run [] i at e l b h = absurd (omega (arith, l))
  put_in_run (r ∷ rs) zero at e l b h =
      let none : 0 + at ≡ at = omega arith in
      ap (λ x. x ++ edits_of rs) h ∙ sym (insert-append_left r.items (edits_of rs) at e b) ∙ ap (λ k. insert (r.items ++ edits_of rs) k e) (sym none)
  put_in_run (r ∷ rs) (suc i) at e l b h =
      let n = length (r.items ++ edits_of (take i rs)) + at in
      let len = length-append r.items (edits_of (take i rs)) in
      let rest : n - length r.items ≡ length (edits_of (take i rs)) + at = omega (arith, len) in
      ap (λ x. r.items ++ x) (put_in_run rs i at e (omega (arith, l)) b h)
      ∙ ap (λ k. r.items ++ insert (edits_of rs) k e) (sym rest)
      ∙ sym (insert-append_right r.items (edits_of rs) (length r.items) n e refl (omega (arith, len)))

  -- a run with the same edits
  pub same_in_run : (runs : List (Vec Edit Global)) (i : ℕ) → i < length runs → v.items ≡ (get_or runs i v).items →
      edits_of (slice_set runs i v) ≡ edits_of runs
  same_in_run [] i l h = absurd (omega (arith, l))
  same_in_run (r ∷ rs) zero l h = ap (λ x. x ++ edits_of rs) h
  same_in_run (r ∷ rs) (suc i) l h = ap (λ x. r.items ++ x) (same_in_run rs i (omega (arith, l)) h)

  pub filled_with : (runs : List (Vec Edit Global)) (i : ℕ) → AreFilled runs → 0 < length v.items → AreFilled (slice_set runs i v)
  filled_with [] i f s = f
  filled_with (r ∷ rs) zero f s = (s, f.1)
  filled_with (r ∷ rs) (suc i) f s = (f.0, filled_with rs i f.1 s)

  -- splitting a run
  module _ (w : Vec Edit Global) where
    pub divided_edits : (runs : List (Vec Edit Global)) (i n : ℕ) → i < length runs → v.items ≡ take n (get_or runs i v).items
        → w.items ≡ drop n (get_or runs i v).items
        → edits_of (insert (slice_set runs i v) (suc i) w) ≡ edits_of runs
    divided_edits [] i n l h k = absurd (omega (arith, l))
    divided_edits (r ∷ rs) zero n l h k =
        ap (λ x. x ++ (w.items ++ edits_of rs)) h ∙ ap (λ x. take n r.items ++ (x ++ edits_of rs)) k
        ∙ sym (append_assoc (take n r.items) (drop n r.items) (edits_of rs)) ∙ ap (λ x. x ++ edits_of rs) (take-append-drop n r.items)
    divided_edits (r ∷ rs) (suc i) n l h k = ap (λ x. r.items ++ x) (divided_edits rs i n (omega (arith, l)) h k)

    pub divided_filled : (runs : List (Vec Edit Global)) (i : ℕ) → i < length runs → AreFilled runs → 0 < length v.items → 0 < length w.items
        → AreFilled (insert (slice_set runs i v) (suc i) w)
    divided_filled [] i l f s t = absurd (omega (arith, l))
    divided_filled (r ∷ rs) zero l f s t = (s, (t, f.1))
    divided_filled (r ∷ rs) (suc i) l f s t = (f.0, divided_filled rs i (omega (arith, l)) f.1 s t)

    -- before the second half come the runs before the split one, and its first half
    pub divided_front : (runs : List (Vec Edit Global)) (i : ℕ) → i < length runs → take i (insert (slice_set runs i v) (suc i) w) ≡ take i runs
    divided_front [] i l = absurd (omega (arith, l))
    divided_front (r ∷ rs) zero l = refl
    divided_front (r ∷ rs) (suc i) l = ap (λ x. r ∷ x) (divided_front rs i (omega (arith, l)))

    pub divided_both : (runs : List (Vec Edit Global)) (i : ℕ) → i < length runs
        → length (edits_of (take (suc i) (insert (slice_set runs i v) (suc i) w))) ≡ length (edits_of (take i runs)) + length v.items
    divided_both [] i l = absurd (omega (arith, l))
    divided_both (r ∷ rs) zero l = omega (arith, length-append v.items [])
    divided_both (r ∷ rs) (suc i) l =
        omega (
          arith,
          divided_both rs i (omega (arith, l)),
          length-append r.items (edits_of (take (suc i) (insert (slice_set rs i v) (suc i) w))),
          length-append r.items (edits_of (take i rs)),
        )

    pub divided_first : (runs : List (Vec Edit Global)) (i : ℕ) (d : Vec Edit Global) → i < length runs
        → get_or (insert (slice_set runs i v) (suc i) w) i d ≡ v
    divided_first [] i d l = absurd (omega (arith, l))
    divided_first (r ∷ rs) zero d l = refl
    divided_first (r ∷ rs) (suc i) d l = divided_first rs i d (omega (arith, l))

    pub divided_second : (runs : List (Vec Edit Global)) (i : ℕ) (d : Vec Edit Global) → i < length runs
        → get_or (insert (slice_set runs i v) (suc i) w) (suc i) d ≡ w
    divided_second [] i d l = absurd (omega (arith, l))
    divided_second (r ∷ rs) zero d l = refl
    divided_second (r ∷ rs) (suc i) d l = divided_second rs i d (omega (arith, l))

    pub divided_count : (runs : List (Vec Edit Global)) (i : ℕ) → i < length runs → length (insert (slice_set runs i v) (suc i) w) ≡ suc (length runs)
    divided_count [] i l = absurd (omega (arith, l))
    divided_count (r ∷ rs) zero l = refl
    divided_count (r ∷ rs) (suc i) l = ap suc (divided_count rs i (omega (arith, l)))

-- one more run
pub filled_more : (runs : List (Vec Edit Global)) (v : Vec Edit Global) → AreFilled runs → 0 < length v.items → AreFilled (runs ++ v ∷ [])
filled_more [] v f s = (s, tt)
filled_more (r ∷ rs) v f s = (f.0, filled_more rs v f.1 s)

pub filled_at : (runs : List (Vec Edit Global)) (i : ℕ) (d : Vec Edit Global) → AreFilled runs → i < length runs → 0 < length (get_or runs i d).items
filled_at [] i d f l = absurd (omega (arith, l))
filled_at (r ∷ rs) zero d f l = f.0
filled_at (r ∷ rs) (suc i) d f l = filled_at rs i d f.1 (omega (arith, l))

-- if two concatenated lists of edits are ascending, so is each of them, and the second begins at or after the end of the first
pub ascending_parts : (n : ℕ) (xs ys : List Edit) → AreAscending n (map change_of (xs ++ ys))
    → AreAscending n (map change_of xs) × AreAscending (end_of n xs) (map change_of ys)
ascending_parts n [] ys h = (tt, h)
ascending_parts n (x ∷ xs) ys h = let p = ascending_parts x.end xs ys h.2 in ((h.0, h.1, p.0), p.1)

ascending_from : (m n : ℕ) (xs : List Edit) → m ≤ n → AreAscending n (map change_of xs) → AreAscending m (map change_of xs)
ascending_from m n [] l h = tt
ascending_from m n (x ∷ xs) l h = (omega (arith, l, h.0), h.1, h.2)

end_from : (n : ℕ) (xs : List Edit) → AreAscending n (map change_of xs) → n ≤ end_of n xs
end_from n [] h = omega arith
end_from n (x ∷ xs) h = let s = end_from x.end xs h.2 in omega (arith, h.0, h.1, s)

ends_by_last : (n : ℕ) (xs : List Edit) → AreAscending n (map change_of xs) → (k : ℕ) (d : Edit) → k < length xs → (get_or xs k d).end ≤ end_of n xs
ends_by_last n [] h k d l = absurd (omega (arith, l))
ends_by_last n (x ∷ xs) h zero d l = end_from x.end xs h.2
ends_by_last n (x ∷ xs) h (suc k) d l = ends_by_last x.end xs h.2 k d (omega (arith, l))

-- the end of the last edit does not depend on what precedes the edits
end_anywhere : (m n : ℕ) (xs : List Edit) → 0 < length xs → end_of m xs ≡ end_of n xs
end_anywhere m n [] s = absurd (omega (arith, s))
end_anywhere m n (x ∷ xs) s = refl

-- if all edits end by an offset, so does the last one
pub end_within : (n start : ℕ) (xs : List Edit) → n ≤ start → ((k : ℕ) (d : Edit) → k < length xs → (get_or xs k d).end ≤ start) → end_of n xs ≤ start
end_within n start [] l h = l
end_within n start (x ∷ xs) l h = end_within x.end start xs (h 0 x (omega arith)) (λ k d b. h (suc k) d (omega (arith, b)))

pub end_is : (n : ℕ) (xs : List Edit) (k : ℕ) (d : Edit) → k + 1 ≡ length xs → (get_or xs k d).end ≡ end_of n xs
end_is n [] k d s = absurd (omega (arith, s))
end_is n (x ∷ []) zero d s = refl
end_is n (x ∷ []) (suc k) d s = absurd (omega (arith, s))
end_is n (x ∷ y ∷ xs) zero d s = absurd (omega (arith, s))
end_is n (x ∷ y ∷ xs) (suc k) d s = end_is x.end (y ∷ xs) k d (omega (arith, s))

-- the edits of each run are ascending
pub run_ascends : (n : ℕ) (runs : List (Vec Edit Global)) (i : ℕ) (d : Vec Edit Global) → AreAscending n (map change_of (edits_of runs)) → i < length runs
    → AreAscending 0 (map change_of (get_or runs i d).items)
run_ascends n [] i d h l = absurd (omega (arith, l))
run_ascends n (r ∷ rs) zero d h l = ascending_from 0 n r.items (omega arith) (ascending_parts n r.items (edits_of rs) h).0
run_ascends n (r ∷ rs) (suc i) d h l = run_ascends (end_of n r.items) rs i d (ascending_parts n r.items (edits_of rs) h).1 (omega (arith, l))

run_ends_from : (n : ℕ) (runs : List (Vec Edit Global)) (j : ℕ) (d : Vec Edit Global) → AreAscending n (map change_of (edits_of runs)) → AreFilled runs
    → j < length runs → n ≤ end_of 0 (get_or runs j d).items
run_ends_from n [] j d h f l = absurd (omega (arith, l))
run_ends_from n (r ∷ rs) zero d h f l =
    let p = ascending_parts n r.items (edits_of rs) h in omega (arith, end_from n r.items p.0, end_anywhere 0 n r.items f.0)
run_ends_from n (r ∷ rs) (suc j) d h f l =
    let p = ascending_parts n r.items (edits_of rs) h in
    omega (arith, end_from n r.items p.0, run_ends_from (end_of n r.items) rs j d p.1 f.1 (omega (arith, l)))

-- the ends of runs are ascending
pub run_ends_ascend : (n : ℕ) (runs : List (Vec Edit Global)) → AreAscending n (map change_of (edits_of runs)) → AreFilled runs
    → (i j : ℕ) (d : Vec Edit Global) → i ≤ j → j < length runs → end_of 0 (get_or runs i d).items ≤ end_of 0 (get_or runs j d).items
run_ends_ascend n [] h f i j d le l = absurd (omega (arith, l))
run_ends_ascend n (r ∷ rs) h f zero zero d le l = omega arith
run_ends_ascend n (r ∷ rs) h f zero (suc j) d le l =
    let p = ascending_parts n r.items (edits_of rs) h in
    omega (arith, end_anywhere 0 n r.items f.0, run_ends_from (end_of n r.items) rs j d p.1 f.1 (omega (arith, l)))
run_ends_ascend n (r ∷ rs) h f (suc i) zero d le l = absurd (omega (arith, le))
run_ends_ascend n (r ∷ rs) h f (suc i) (suc j) d le l =
    run_ends_ascend (end_of n r.items) rs (ascending_parts n r.items (edits_of rs) h).1 f.1 i j d (omega (arith, le)) (omega (arith, l))

-- if the runs before a run end by an offset, so do their edits
pub front_ends : (n start : ℕ) (runs : List (Vec Edit Global)) (i : ℕ) → AreAscending n (map change_of (edits_of runs)) → AreFilled runs
    → ((k : ℕ) (d : Vec Edit Global) → k < i → k < length runs → end_of 0 (get_or runs k d).items ≤ start)
    → All (λ (e : Edit). e.end ≤ start) (edits_of (take i runs))
front_ends n start runs zero h f ends = none (λ (e : Edit). e.end ≤ start)
front_ends n start [] (suc i) h f ends = none (λ (e : Edit). e.end ≤ start)
front_ends n start (r ∷ rs) (suc i) h f ends =
    let p = ascending_parts n r.items (edits_of rs) h in
    let low = ends 0 r (omega arith) (omega arith) in
    let own : All (λ (e : Edit). e.end ≤ start) r.items =
    λ k d l. omega (arith, ends_by_last n r.items p.0 k d l, end_anywhere 0 n r.items f.0, low) in
    All-append (λ (e : Edit). e.end ≤ start) r.items (edits_of (take i rs)) own
    (front_ends (end_of n r.items) start rs i p.1 f.1 (λ k d a b. ends (suc k) d (omega (arith, a)) (omega (arith, b))))

-- the edits of runs are those before a run, the run's, and those after it
pub around_run : (runs : List (Vec Edit Global)) (i : ℕ) (d : Vec Edit Global) → i < length runs
    → edits_of runs ≡ edits_of (take i runs) ++ ((get_or runs i d).items ++ edits_of (drop (suc i) runs))
around_run [] i d l = absurd (omega (arith, l))
around_run (r ∷ rs) zero d l = refl
around_run (r ∷ rs) (suc i) d l =
    ap (λ x. r.items ++ x) (around_run rs i d (omega (arith, l)))
    ∙ sym (append_assoc r.items (edits_of (take i rs)) ((get_or rs i d).items ++ edits_of (drop (suc i) rs)))

module _ (start : ℕ) (runs : List (Vec Edit Global)) (i at : ℕ) (r : Vec Edit Global) (inside : i < length runs) (is : r ≡ get_or runs i r)
    (bound : at < length r.items) where
  -- the edit at an index
  pub edit_there : (d : Edit) → get_or (edits_of runs) (length (edits_of (take i runs)) + at) d ≡ get_or r.items at d
  edit_there d =
      get_or-flat_map (λ (run : Vec Edit Global). run.items) runs i at r d inside (subst (λ (x : Vec Edit Global). at < length x.items) is bound)
      ∙ ap (λ (x : Vec Edit Global). get_or x.items at d) (sym is)

  pub is_within : length (edits_of (take i runs)) + at < length (edits_of runs)
  is_within =
      let same = ap length (around_run runs i r inside) in
      let outer = length-append (edits_of (take i runs)) ((get_or runs i r).items ++ edits_of (drop (suc i) runs)) in
      let inner = length-append (get_or runs i r).items (edits_of (drop (suc i) runs)) in
      let len = ap (λ (x : Vec Edit Global). length x.items) is in
      omega (arith, same, outer, inner, len, bound)

  -- the edits before it end by the offset
  pub ends_before : All (λ (e : Edit). e.end ≤ start) (edits_of (take i runs)) → ((k : ℕ) (d : Edit) → k < at → (get_or r.items k d).end ≤ start)
      → (k : ℕ) (d : Edit) → k < length (edits_of (take i runs)) + at → (get_or (edits_of runs) k d).end ≤ start
  ends_before front own k d l = by_side (cases_lt k (length (edits_of (take i runs))))
    where
      by_side : (k < length (edits_of (take i runs))) ⊎ (length (edits_of (take i runs)) ≤ k) → (get_or (edits_of runs) k d).end ≤ start
      by_side (inl a) =
          let in_front = get_or_append_left (edits_of (take i runs)) ((get_or runs i r).items ++ edits_of (drop (suc i) runs)) d k a in
          subst (λ (e : Edit). e.end ≤ start) (sym (ap (λ es. get_or es k d) (around_run runs i r inside) ∙ in_front)) (front k d a)
      by_side (inr a) =
          let j : ℕ = k - length (edits_of (take i runs)) in
          let there : length (edits_of (take i runs)) + j ≡ k = omega (arith, a) in
          let low : j < at = omega (arith, l, a) in
          let here : j < length (get_or runs i r).items = subst (λ (x : Vec Edit Global). j < length x.items) is (omega (arith, low, bound)) in
          let found = get_or-flat_map (λ (run : Vec Edit Global). run.items) runs i j r d inside here
          ∙ ap (λ (x : Vec Edit Global). get_or x.items j d) (sym is) in
          subst (λ (e : Edit). e.end ≤ start) (sym (ap (λ m. get_or (edits_of runs) m d) (sym there) ∙ found)) (own j d low)

-- splitting a run of the list
module _ (old new : List (Vec Edit Global)) (i n : ℕ) (r v w : Vec Edit Global) (inside : i < length old) (is : r ≡ get_or old i r)
    (some : 0 < n) (more : n < length r.items) (first_is : v.items ≡ take n r.items) (second_is : w.items ≡ drop n r.items)
    (new_is : new ≡ insert (slice_set old i v) (i + 1) w) where
  there : (d : Vec Edit Global) → r ≡ get_or old i d
  there d = get_or_read old i r inside is d

  same : new ≡ insert (slice_set old i v) (suc i) w
  same = new_is ∙ ap (λ k. insert (slice_set old i v) k w) (add-one i)

  first_len : length v.items ≡ n
  first_len = omega (arith, ap length first_is, length-take n r.items, more)

  second_len : length w.items + n ≡ length r.items
  second_len = omega (arith, ap length second_is, length-drop n r.items, more)

  pub same_edits : edits_of new ≡ edits_of old
  same_edits =
      ap edits_of same
      ∙ divided_edits v w old i n inside (first_is ∙ ap (λ (x : Vec Edit Global). take n x.items) (there v))
      (second_is ∙ ap (λ (x : Vec Edit Global). drop n x.items) (there v))

  pub still_filled : AreFilled old → AreFilled new
  still_filled f = subst AreFilled (sym same) (divided_filled v w old i inside f (omega (arith, first_len, some)) (omega (arith, second_len, more)))

  pub is_divided : IsDivided old new i n
  is_divided = record {
    first = λ at l. record {
      is_in = (
        omega (arith, ap length same, divided_count v w old i inside, inside),
        λ d. omega (
          arith,
          ap (λ xs. length (get_or xs i d).items) same,
          ap (λ (x : Vec Edit Global). length x.items) (divided_first v w old i d inside),
          first_len,
          l,
        ),
      );
      index = ap (λ xs. length (edits_of (take i xs)) + at) same ∙ ap (λ xs. length (edits_of xs) + at) (divided_front v w old i inside);
    };
    second = λ at l within. record {
      is_in = (
        omega (arith, ap length same, divided_count v w old i inside, inside),
        λ d. omega (
          arith,
          ap (λ xs. length (get_or xs (i + 1) d).items) same,
          ap (λ k. length (get_or (insert (slice_set old i v) (suc i) w) k d).items) (add-one i),
          ap (λ (x : Vec Edit Global). length x.items) (divided_second v w old i d inside),
          second_len,
          within.1 r,
          ap (λ (x : Vec Edit Global). length x.items) is,
          l,
        ),
      );
      index =
          let k = divided_both v w old i inside in
          let e = ap (λ xs. length (edits_of (take (i + 1) xs))) same in
          let f = ap (λ k. length (edits_of (take k (insert (slice_set old i v) (suc i) w)))) (add-one i) in omega (arith, e, f, k, first_len, l);
    };
  }
