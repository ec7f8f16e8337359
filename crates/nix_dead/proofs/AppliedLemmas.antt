-- Removals of a text, one after another.
use Rattle.std.proofs.Common.{◌≡◌, ℕ, ◌≤◌, ◌<◌, zero, suc, List, [], ◌∷◌, ◌++◌, length, get_or, map, inl, inr, refl, ap, sym, subst, ◌∙◌, arith}
use Rattle.std.proofs.lemmas.List.{map-append, Elements.{All-push}, Sorted.{IsPermutation-sym, IsPermutation-middle, IsPermutation-push_more}}
use Rattle.std.specs.{List.{All, Contains, Sorted.IsPermutation}}
use Rattle.rnix_text.specs.Changes.{Change, Draft, AreAscending, IsAdded, changed_from}
use Rattle.nix_dead.specs.declared.removal.Removal.{Removal}
use Rattle.nix_dead.specs.{Removal.change_of, AppliedRemovals.{IsTried, AreApplied}}

-- what holds for all of a list holds for the rest
rest_all : (P : Change → Type 0) (c : Change) (cs : List Change) → All P (c ∷ cs) → All P cs
rest_all P c cs all k d less = all (suc k) d (omega (arith, less))

-- changes that do not begin before the end of another one ascend from that end
from_end : (n : ℕ) (c : Change) (cs : List Change) → AreAscending n cs → All (λ x. (c.start < x.end) × (c.end ≤ x.start)) cs → AreAscending c.end cs
from_end n c [] h all = tt
from_end n c (x ∷ xs) h all = ((all 0 x (omega arith)).1, h.1, h.2)

-- a change is put among others, and all ascend
put_among : (n : ℕ) (c : Change) (front back : List Change) → AreAscending n (front ++ back) → n ≤ c.start → c.start ≤ c.end →
    All (λ x. x.end ≤ c.start) front → All (λ x. (c.start < x.end) × (c.end ≤ x.start)) back → AreAscending n (front ++ c ∷ back)
put_among n c [] back h low order before behind = (low, order, from_end n c back h behind)
put_among n c (f ∷ front) back h low order before behind =
    (h.0, h.1, put_among f.end c front back h.2 (before 0 f (omega arith)) order (rest_all (λ x. x.end ≤ c.start) f front before) behind)

-- the changes ascend after one is added
added_ascend : (c : Change) (old new : List Change) → AreAscending 0 old → c.start ≤ c.end → IsAdded c old new → AreAscending 0 new
added_ascend c old new h order added =
    subst (AreAscending 0) (sym added.new_is)
    (put_among 0 c added.front added.back (subst (AreAscending 0) added.old_is h) (omega arith) order added.before added.after)

-- an added change is one more besides the earlier ones
added_more : (c : Change) (xs old new : List Change) → IsPermutation xs old → IsAdded c old new → IsPermutation (xs ++ c ∷ []) new
added_more c xs old new same added =
    IsPermutation-push_more xs old new c same
    (subst (λ cs. IsPermutation (c ∷ cs) new) (sym added.old_is)
    (subst (λ cs. IsPermutation (c ∷ (added.front ++ added.back)) cs) (sym added.new_is)
    (IsPermutation-sym _ _ (IsPermutation-middle added.front c added.back))))

-- the changes of a draft are these removals, which are some of others
pub record IsDraftOf (text : List ℕ) (removals applied : List Removal) (draft : Draft) : Type 0 where
  pub text_is : draft.text ≡ text
  pub exactly : IsPermutation (map change_of applied) draft.changes
  pub ascending : AreAscending 0 draft.changes
  pub are_some : All (Contains removals) applied

-- one more removal is tried
draft_more : (text : List ℕ) (removals old new : List Removal) (removal : Removal) (before after : Draft) → IsDraftOf text removals old before →
    Contains removals removal → after.text ≡ before.text → IsTried removal before after old new → IsDraftOf text removals new after
draft_more text removals old new removal before after is contains same (inl (order, added, new_is)) =
    subst (λ rs. IsDraftOf text removals rs after) (sym new_is) (record {
      text_is = same ∙ is.text_is;
      exactly = subst (λ cs. IsPermutation cs after.changes) (sym (map-append change_of old (removal ∷ [])))
          (added_more (change_of removal) _ _ _ is.exactly added);
      ascending = added_ascend (change_of removal) _ _ is.ascending order added;
      are_some = All-push (Contains removals) old removal is.are_some contains;
    })
draft_more text removals old new removal before after is contains same (inr (kept, new_is)) =
    subst (λ rs. IsDraftOf text removals rs after) (sym new_is) (subst (IsDraftOf text removals old) (sym kept) is)

-- an element of a list does not depend on the default
same_element : {A : Type 0} (xs : List A) (i : ℕ) (d e : A) → i < length xs → get_or xs i d ≡ get_or xs i e
same_element [] i d e l = absurd (omega (arith, l))
same_element (x ∷ xs) zero d e l = refl
same_element (x ∷ xs) (suc i) d e l = same_element xs i d e (omega (arith, l))

-- the next removal is tried
pub draft_next : (text : List ℕ) (removals old new : List Removal) (d : Removal) (before after : Draft) (i : ℕ) → IsDraftOf text removals old before →
    i < length removals → after.text ≡ before.text → IsTried (get_or removals i d) before after old new → IsDraftOf text removals new after
draft_next text removals old new d before after i is within =
    draft_more text removals old new (get_or removals i d) before after is (i, within, same_element removals i (get_or removals i d) d within)

-- the text with the changes of a draft
pub draft_applied : (text : List ℕ) (removals applied : List Removal) (draft : Draft) (made : List ℕ) → IsDraftOf text removals applied draft →
    made ≡ changed_from 0 draft.changes draft.text → AreApplied text removals applied made
draft_applied text removals applied draft made is made_is = record {
  changes = draft.changes;
  exactly = is.exactly;
  ascending = is.ascending;
  are_some = is.are_some;
  made_is = made_is ∙ ap (changed_from 0 draft.changes) is.text_is;
}
