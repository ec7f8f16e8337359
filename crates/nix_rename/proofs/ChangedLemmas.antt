-- Changes to ranges of a text, one after another.
use Rattle.std.proofs.{Common.{◌≡◌, ℕ, ◌≤◌, ◌<◌, suc, List, [], ◌∷◌, ◌++◌, length, get_or, take, map, Some, inl, inr, refl, ap, sym, subst, ◌∙◌, arith}, lemmas.{List.{map-append, get_or-map, get_or-take, length-map, length-take-le, Elements.{All-push, Contains-append_right}}, Option.slice_get-get_or}}
use Rattle.std.{proofs.lemmas.List.Sorted.{IsPermutation-sym, IsPermutation-middle, IsPermutation-push_more, Contains-permutation}, specs.{Prelude.◌⊎◌, List.{All, Contains}}}
use Rattle.{std.specs.List.Sorted.IsPermutation, rnix_green.specs.Range.Extent, rnix_text.specs.Changes.{Change, Draft, AreAscending, IsAdded, HasOverlap}}
use Rattle.nix_rename.specs.Changed.{ContainsAt, change_at, LacksAt, DoOverlap, IsUnchangeable}

-- what holds for all of a list holds for the rest
rest_all : (P : Change → Type 0) (c : Change) (cs : List Change) → All P (c ∷ cs) → All P cs
rest_all P c cs all k d less = all (suc k) d (omega (arith, less))

-- changes that do not begin before the end of another one ascend from that end
from_end : (n : ℕ) (c : Change) (cs : List Change) → AreAscending n cs → All (λ x. (c.start < x.end) × (c.end ≤ x.start)) cs → AreAscending c.end cs
from_end n c [] h all = tt
from_end n c (x ∷ xs) h all = ((all 0 x (omega arith)).1, h.1, h.2)

-- a change is put among others, and all ascend
put_among : (n : ℕ) (c : Change) (front back : List Change) → AreAscending n (front ++ back) → n ≤ c.start → c.start ≤ c.end →
    All (λ x. x.end ≤ c.start) front → All (λ x. (c.start < x.end) × (c.end ≤ x.start)) back → AreAscending n (front ++ c ∷ back)
put_among n c [] back h low order before behind = (low, order, from_end n c back h behind)
put_among n c (f ∷ front) back h low order before behind =
    (h.0, h.1, put_among f.end c front back h.2 (before 0 f (omega arith)) order (rest_all (λ x. x.end ≤ c.start) f front before) behind)

-- the changes ascend after one is added
added_ascend : (c : Change) (old new : List Change) → AreAscending 0 old → c.start ≤ c.end → IsAdded c old new → AreAscending 0 new
added_ascend c old new h order added =
    subst (AreAscending 0) (sym added.new_is)
    (put_among 0 c added.front added.back (subst (AreAscending 0) added.old_is h) (omega arith) order added.before added.after)

-- an added change is one more besides the earlier ones
added_more : (c : Change) (xs old new : List Change) → IsPermutation xs old → IsAdded c old new → IsPermutation (xs ++ c ∷ []) new
added_more c xs old new same added =
    IsPermutation-push_more xs old new c same
    (subst (λ cs. IsPermutation (c ∷ cs) new) (sym added.old_is)
    (subst (λ cs. IsPermutation (c ∷ (added.front ++ added.back)) cs) (sym added.new_is)
    (IsPermutation-sym _ _ (IsPermutation-middle added.front c added.back))))

-- the changes of a draft are those of these ranges, and its text contains the old name in each of them
pub record IsDraftOf (text : List ℕ) (occurrences : List Extent) (old new : List ℕ) (draft : Draft) : Type 0 where
  pub text_is : draft.text ≡ text
  pub exactly : IsPermutation (map (change_at new) occurrences) draft.changes
  pub ascending : AreAscending 0 draft.changes
  pub each_old : All (ContainsAt text old) occurrences

-- the change of one more range
pub draft_more : (text : List ℕ) (occurrences more : List Extent) (occurrence : Extent) (old new : List ℕ) (before after : Draft) →
    IsDraftOf text occurrences old new before → more ≡ occurrences ++ occurrence ∷ [] → occurrence.start ≤ occurrence.end
    → ContainsAt before.text old occurrence →
    after.text ≡ before.text → IsAdded (change_at new occurrence) before.changes after.changes → IsDraftOf text more old new after
draft_more text occurrences more occurrence old new before after is more_is order contains same added =
    subst (λ ps. IsDraftOf text ps old new after) (sym more_is) (record {
      text_is = subst (λ t. t ≡ text) (sym same) is.text_is;
      exactly = subst (λ cs. IsPermutation cs after.changes) (sym (map-append (change_at new) occurrences (occurrence ∷ [])))
          (added_more (change_at new occurrence) _ _ _ is.exactly added);
      ascending = added_ascend (change_at new occurrence) _ _ is.ascending order added;
      each_old = All-push (ContainsAt text old) occurrences occurrence is.each_old (subst (λ t. ContainsAt t old occurrence) is.text_is contains);
    })

-- a change in the middle of a list is contained in it
overlap_contained : (cs front back : List Change) (c : Change) → cs ≡ front ++ c ∷ back → Contains cs c
overlap_contained cs front back c is =
    subst (λ xs. Contains xs c) (sym is) (Contains-append_right front (c ∷ back) c (0, omega arith, refl))

-- a range overlaps an earlier one
overlap_before : (occurrences so_far : List Extent) (occurrence : Extent) (new : List ℕ) (i : ℕ) (cs : List Change) → so_far ≡ take i occurrences →
    i < length occurrences → get_or occurrences i occurrence ≡ occurrence → IsPermutation (map (change_at new) so_far) cs
    → HasOverlap occurrence.start occurrence.end cs → DoOverlap occurrences
overlap_before occurrences so_far occurrence new i cs so_far_is there occurrence_is same met =
    let found : Contains (map (change_at new) so_far) met.change =
    Contains-permutation cs (map (change_at new) so_far) met.change (IsPermutation-sym _ _ same) (overlap_contained cs met.front met.back met.change met.is) in
    let k = found.0 in
    let count : length so_far ≡ i = ap length so_far_is ∙ length-take-le i occurrences (omega (arith, there)) in
    let before : k < length so_far = omega (arith, found.1, length-map so_far (change_at new)) in
    let other = get_or occurrences k occurrence in
    let other_is : get_or so_far k occurrence ≡ other =
    ap (λ xs. get_or xs k occurrence) so_far_is ∙ get_or-take i occurrences k occurrence (omega (arith, before, count)) in
    let at : change_at new other ≡ met.change =
    sym (get_or-map (change_at new) so_far k occurrence met.change before ∙ ap (change_at new) other_is) ∙ found.2 in
    record {
      first = k;
      second = i;
      occurrence = other;
      other = occurrence;
      order = omega (arith, before, count);
      first_is = slice_get-get_or occurrences k occurrence (omega (arith, before, count, there));
      second_is = slice_get-get_or occurrences i occurrence there ∙ ap Some occurrence_is;
      overlap = (
        subst (λ n. n < occurrence.end) (sym (ap (λ (c : Change). c.start) at)) met.overlaps.1,
        subst (λ n. occurrence.start < n) (sym (ap (λ (c : Change). c.end) at)) met.overlaps.0,
      );
    }

-- a range in which the text does not contain the old name, or which overlaps an earlier one
pub unchangeable_found : (text : List ℕ) (occurrences so_far : List Extent) (occurrence : Extent) (old new : List ℕ) (i : ℕ) (draft : Draft)
    → so_far ≡ take i occurrences →
    i < length occurrences → get_or occurrences i occurrence ≡ occurrence → IsDraftOf text so_far old new draft →
    (LacksAt draft.text old occurrence ⊎ HasOverlap occurrence.start occurrence.end draft.changes) → IsUnchangeable text occurrences old
unchangeable_found text occurrences so_far occurrence old new i draft so_far_is there occurrence_is is (inl lacking) =
    inl (record { occurrence = occurrence; is_one = (i, there, occurrence_is); lacking = subst (λ t. LacksAt t old occurrence) is.text_is lacking })
unchangeable_found text occurrences so_far occurrence old new i draft so_far_is there occurrence_is is (inr met) =
    inr (overlap_before occurrences so_far occurrence new i draft.changes so_far_is there occurrence_is is.exactly met)
