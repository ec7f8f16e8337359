-- Changes in order: the changes around an offset, and adding another one there.
use Rattle.std.proofs.Common.{◌≡◌, ℕ, zero, suc, ◌≤◌, ◌<◌, List, [], ◌∷◌, ◌++◌, length, map, get_or, true, false, refl, ap, sym, subst, arith}
use Rattle.std.{proofs.lemmas.{Bool.Decides.nat_tests, List.map-append}, specs.List.{All, insert, Sorted.IsPartitionedBy}}
use Rattle.rnix_text.specs.{Runs.{ends_by, end_of}, declared.edits.Edit.Edit, Edit.change_of, Changes.{Change, AreAscending, AreInOrder, IsBetween, Overlaps, IsAdded, HasOverlap, changed_from}}

pub none : {X : Type 0} (P : X → Type 0) → All P []
none P k d l = absurd (omega (arith, l))

cons_all : {X : Type 0} (P : X → Type 0) (x : X) (xs : List X) → P x → All P xs → All P (x ∷ xs)
cons_all P x xs h hs zero d l = h
cons_all P x xs h hs (suc k) d l = hs k d (omega (arith, l))

-- changes in order are ascending
pub ascending : (text : List ℕ) (n : ℕ) (cs : List Change) → AreInOrder text n cs → AreAscending n cs
ascending text n [] h = tt
ascending text n (c ∷ cs) h = (h.0, h.1, ascending text c.end cs h.3)

starts : (n : ℕ) (cs : List Change) → AreAscending n cs → All (λ x. (n ≤ x.start) × (x.start ≤ x.end)) cs
starts n [] h k d l = absurd (omega (arith, l))
starts n (c ∷ cs) h zero d l = (h.0, h.1)
starts n (c ∷ cs) h (suc k) d l = let s = starts c.end cs h.2 k d (omega (arith, l)) in (omega (arith, h.0, h.1, s.0), s.1)

ends_from : (n : ℕ) (es : List Edit) → AreAscending n (map change_of es) → (j : ℕ) (d : Edit) → j < length es → n ≤ (get_or es j d).end
ends_from n [] h j d l = absurd (omega (arith, l))
ends_from n (e ∷ es) h zero d l = omega (arith, h.0, h.1)
ends_from n (e ∷ es) h (suc j) d l = let s = ends_from e.end es h.2 j d (omega (arith, l)) in omega (arith, h.0, h.1, s)

ends_ascend : (n : ℕ) (es : List Edit) → AreAscending n (map change_of es) → (i j : ℕ) (d : Edit) → i ≤ j → j < length es
    → (get_or es i d).end ≤ (get_or es j d).end
ends_ascend n [] h i j d le l = absurd (omega (arith, l))
ends_ascend n (e ∷ es) h zero zero d le l = omega arith
ends_ascend n (e ∷ es) h zero (suc j) d le l = ends_from e.end es h.2 j d (omega (arith, l))
ends_ascend n (e ∷ es) h (suc i) zero d le l = absurd (omega (arith, le))
ends_ascend n (e ∷ es) h (suc i) (suc j) d le l = ends_ascend e.end es h.2 i j d (omega (arith, le)) (omega (arith, l))

pub ends_by_true : (start : ℕ) (e : Edit) → ends_by start e ≡ true → e.end ≤ start
ends_by_true start e h = grind (arith, nat_tests)

pub ends_by_false : (start : ℕ) (e : Edit) → ends_by start e ≡ false → start < e.end
ends_by_false start e h = grind (arith, nat_tests)

does_end_by : (start : ℕ) (e : Edit) → e.end ≤ start → ends_by start e ≡ true
does_end_by start e h = grind (arith, nat_tests)

-- edits are partitioned by whether they end at or before an offset
pub parted : (start : ℕ) (es : List Edit) → AreAscending 0 (map change_of es) → IsPartitionedBy (ends_by start) es
parted start es h i j d le l up =
    does_end_by start (get_or es i d) (omega (arith, ends_ascend 0 es h i j d le l, ends_by_true start (get_or es j d) up))

-- an edit that overlaps the range is found
pub overlap : (start end : ℕ) (es : List Edit) (at : ℕ) (d : Edit) → at < length es → Overlaps start end (change_of (get_or es at d))
    → HasOverlap start end (map change_of es)
overlap start end [] at d l o = absurd (omega (arith, l))
overlap start end (e ∷ es) zero d l o = record { front = []; change = change_of e; back = map change_of es; is = refl; overlaps = o }
overlap start end (e ∷ es) (suc at) d l o =
    let m = overlap start end es at d (omega (arith, l)) o in
    record { front = change_of e ∷ m.front; change = m.change; back = m.back; is = ap (λ cs. change_of e ∷ cs) m.is; overlaps = m.overlaps }

after_first : (n : ℕ) (c : Change) (cs : List Change) → AreAscending n cs → c.start ≤ c.end
    → ((x : Change) (xs : List Change) → cs ≡ x ∷ xs → (c.start < x.end) × (c.end ≤ x.start)) → All (λ x. (c.start < x.end) × (c.end ≤ x.start)) cs
after_first n c [] h o first = none _
after_first n c (x ∷ xs) h o first =
    let f = first x xs refl in
    cons_all (λ x. (c.start < x.end) × (c.end ≤ x.start)) x xs f (λ k d l. let s =
    starts x.end xs h.2 k d l in (omega (arith, f.0, s.0, s.1), omega (arith, f.1, h.1, s.0)))

-- an edit is added after those that end at or before its start
pub added_at : (n : ℕ) (es : List Edit) (at : ℕ) (e : Edit) → AreAscending n (map change_of es) → at ≤ length es → e.start ≤ e.end
    → ((k : ℕ) (d : Edit) → k < at → (get_or es k d).end ≤ e.start)
    → ((d : Edit) → at < length es → (e.start < (get_or es at d).end) × (e.end ≤ (get_or es at d).start))
    → IsAdded (change_of e) (map change_of es) (map change_of (insert es at e))
added_at n es zero e h l o before after = record {
  front = [];
  back = map change_of es;
  old_is = refl;
  new_is = refl;
  before = none _;
  after = after_first n (change_of e) (map change_of es) h o (first es after);
}
  where
    head_or : Change → List Change → Change
    head_or c [] = c
    head_or c (x ∷ xs) = x

    first : (es : List Edit) → ((d : Edit) → 0 < length es → (e.start < (get_or es 0 d).end) × (e.end ≤ (get_or es 0 d).start))
        → (x : Change) (xs : List Change) → map change_of es ≡ x ∷ xs → (e.start < x.end) × (e.end ≤ x.start)
    first [] b x xs s = absurd (omega (arith, ap length s))
    first (y ∷ ys) b x xs s =
        let f = b e (omega arith) in
        let head = ap (head_or (change_of y)) s in
        (omega (arith, f.0, ap (λ (c : Change). c.end) head), omega (arith, f.1, ap (λ (c : Change). c.start) head))
added_at n [] (suc at) e h l o before after = absurd (omega (arith, l))
added_at n (x ∷ es) (suc at) e h l o before after =
    let r = added_at x.end es at e h.2 (omega (arith, l)) o (λ k d l. before (suc k) d (omega (arith, l))) (λ d l. after d (omega (arith, l))) in
    record {
      front = change_of x ∷ r.front;
      back = r.back;
      old_is = ap (λ cs. change_of x ∷ cs) r.old_is;
      new_is = ap (λ cs. change_of x ∷ cs) r.new_is;
      before = cons_all (λ y. y.end ≤ e.start) (change_of x) r.front (before 0 x (omega arith)) r.before;
      after = r.after;
    }

kept : (text : List ℕ) (n : ℕ) (c : Change) (front back : List Change) → AreInOrder text n (front ++ back) → n ≤ c.start → c.start ≤ c.end → c.end ≤ length text
    → IsBetween text c.start c.end → All (λ x. x.end ≤ c.start) front → All (λ x. (c.start < x.end) × (c.end ≤ x.start)) back
    → AreInOrder text n (front ++ c ∷ back)
kept text n c [] [] h low o high b before after = (low, o, b, high)
kept text n c [] (x ∷ xs) h low o high b before after = (low, o, b, ((after 0 x (omega arith)).1, h.1, h.2, h.3))
kept text n c (f ∷ fs) back h low o high b before after =
    (h.0, h.1, h.2, kept text f.end c fs back h.3 (before 0 f (omega arith)) o high b (λ k d l. before (suc k) d (omega (arith, l))) after)

-- then the changes are in order
pub added_in_order : (text : List ℕ) (c : Change) (old new : List Change) → AreInOrder text 0 old → c.start ≤ c.end → c.end ≤ length text
    → IsBetween text c.start c.end
    → IsAdded c old new → AreInOrder text 0 new
added_in_order text c old new h o high b a =
    subst (AreInOrder text 0) (sym a.new_is) (kept text 0 c a.front a.back (subst (AreInOrder text 0) a.old_is h) (omega arith) o high b a.before a.after)

in_order_low : (text : List ℕ) (n : ℕ) (cs : List Change) → AreInOrder text n cs → n ≤ length text
in_order_low text n [] h = h
in_order_low text n (c ∷ cs) h = omega (arith, h.0, h.1, in_order_low text c.end cs h.3)

-- if two concatenated lists of edits are in order, so is each of them
pub in_order_parts : (text : List ℕ) (n : ℕ) (xs ys : List Edit) → AreInOrder text n (map change_of (xs ++ ys))
    → AreInOrder text n (map change_of xs) × AreInOrder text (end_of n xs) (map change_of ys)
in_order_parts text n [] ys h = (in_order_low text n (map change_of ys) h, h)
in_order_parts text n (x ∷ xs) ys h = let p = in_order_parts text x.end xs ys h.3 in ((h.0, h.1, h.2, p.0), p.1)

-- the text after two concatenated lists of edits
pub changed_parts : (n : ℕ) (xs ys : List Edit) (text : List ℕ)
    → changed_from n (map change_of (xs ++ ys)) text ≡ changed_from n (map change_of xs ++ map change_of ys) text
changed_parts n xs ys text = ap (λ cs. changed_from n cs text) (map-append change_of xs ys)
