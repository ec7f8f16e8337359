-- Which values remain to be visited when each value is followed by those inside it.
use Rattle.std.proofs.Common.{◌≡◌, ◌∙◌, ℕ, suc, ◌<◌, List, [], ◌∷◌, ◌++◌, length, get_or, reverse, flat_map, option_to_list, Option, Some, None, sym, refl, ap, ap₂, subst, append-nil, append_assoc, arith}
use Rattle.std.specs.List.{AllByRecursion}
use Rattle.std.proofs.lemmas.List.{reverse-append}
use Rattle.std.proofs.lemmas.Grind.{flat_map-append}
use Rattle.nix_values.specs.declared.links.Links.{Links}
use Rattle.nix_values.specs.Groups.{order_of, first_from, AreLinkedFrom}
use Rattle.nix_values.proofs.GroupLemmas.{ComeLater, from, from_first, from_step, order_first, is_first}

-- the numbers that remain to be visited, given the stack
abbrev pub pending : List ℕ → List ℕ → List ℕ
pending groups stack = flat_map (from groups) (reverse stack)

first_pending : (groups : List ℕ) (o : Option ℕ) → flat_map (from groups) (reverse (option_to_list o)) ≡ from_first groups o
first_pending groups None = refl
first_pending groups (Some n) = append-nil (from groups n)

pub pending_begun : (groups : List ℕ) → ComeLater groups → pending groups ([] ++ option_to_list (first_from 0 groups 0)) ≡ order_of groups
pending_begun groups late = first_pending groups (first_from 0 groups 0) ∙ sym (order_first groups late)

pending_more : (groups stack : List ℕ) (o : Option ℕ) → pending groups (stack ++ option_to_list o) ≡ from_first groups o ++ pending groups stack
pending_more groups stack o =
    ap (flat_map (from groups)) (reverse-append stack (option_to_list o))
    ∙ flat_map-append (from groups) (reverse (option_to_list o)) (reverse stack)
    ∙ ap (λ ns. ns ++ pending groups stack) (first_pending groups o)

-- visiting the value on top of the stack; the values inside it are pushed last
pub pending_step : (groups stack : List ℕ) → ComeLater groups → (n : ℕ) → n < length groups →
    pending groups (stack ++ n ∷ [])
    ≡ n ∷ pending groups ((stack ++ option_to_list (first_from (suc n) groups (get_or groups n 0))) ++ option_to_list (first_from 0 groups (suc n)))
pending_step groups stack late n within =
    let inner : List ℕ = from_first groups (first_from 0 groups (suc n)) in
    let beside : List ℕ = from_first groups (first_from (suc n) groups (get_or groups n 0)) in
    pending_more groups stack (Some n)
    ∙ ap (λ ns. ns ++ pending groups stack) (from_step groups late n within)
    ∙ ap (λ ns. n ∷ ns) (append_assoc inner beside (pending groups stack)
    ∙ ap (λ ns. inner ++ ns) (sym (pending_more groups stack (first_from (suc n) groups (get_or groups n 0)))))
    ∙ ap (λ ns. n ∷ ns) (sym (pending_more groups (stack ++ option_to_list (first_from (suc n) groups (get_or groups n 0))) (first_from 0 groups (suc n))))

-- ---- the stack contains numbers of values

abbrev pub AreWithin : List ℕ → List ℕ → Type 0
AreWithin groups stack = AllByRecursion (λ n. n < length groups) stack

pub within_more : (groups stack : List ℕ) (k group : ℕ) → AreWithin groups stack → AreWithin groups (stack ++ option_to_list (first_from k groups group))
within_more groups stack k group within = by stack within
  where
    last : (o : Option ℕ) → first_from k groups group ≡ o → AreWithin groups (option_to_list o)
    last None e = tt
    last (Some n) e = ((is_first (length groups) groups k group n (omega arith) e).within, tt)

    by : (xs : List ℕ) → AreWithin groups xs → AreWithin groups (xs ++ option_to_list (first_from k groups group))
    by [] w = last (first_from k groups group) refl
    by (x ∷ xs) w = (w.0, by xs w.1)

pub within_rest : (groups stack : List ℕ) (n : ℕ) → AreWithin groups (stack ++ n ∷ []) → AreWithin groups stack × (n < length groups)
within_rest groups [] n w = (tt, w.0)
within_rest groups (x ∷ xs) n w = let next = within_rest groups xs n w.1 in ((w.0, next.0), next.1)

-- ---- a visit

-- the value on top of the stack is visited
pub record IsVisited (groups stack : List ℕ) (n : ℕ) (later : List ℕ) : Type 0 where
  pub step : pending groups stack ≡ n ∷ pending groups later
  pub within : AreWithin groups later

pub visited : (groups : List ℕ) → ComeLater groups → (links : Links) → AreLinkedFrom 0 groups links → (stack rest later : List ℕ) (n : ℕ) →
    stack ≡ rest ++ n ∷ [] → AreWithin groups stack →
    later ≡ (rest ++ option_to_list (get_or links.next.items n None)) ++ option_to_list (get_or links.first.items (suc n) None) →
    IsVisited groups stack n later
visited groups late links linked stack rest later n top within pushed =
    let both = within_rest groups rest n (subst (AreWithin groups) top within) in
    let next : get_or links.next.items n None ≡ first_from (suc n) groups (get_or groups n 0) = linked.next n (omega arith) both.1 in
    let first : get_or links.first.items (suc n) None ≡ first_from 0 groups (suc n) = linked.first (suc n) (omega (arith, both.1)) in
    let is : later ≡ (rest ++ option_to_list (first_from (suc n) groups (get_or groups n 0))) ++ option_to_list (first_from 0 groups (suc n)) =
    pushed ∙ ap₂ (λ (a b : Option ℕ). (rest ++ option_to_list a) ++ option_to_list b) next first in
    record {
      step = ap (pending groups) top ∙ pending_step groups rest late n both.1 ∙ ap (λ xs. n ∷ pending groups xs) (sym is);
      within = subst (AreWithin groups) (sym is)
          (within_more groups (rest ++ option_to_list (first_from (suc n) groups (get_or groups n 0))) 0 (suc n)
          (within_more groups rest (suc n) (get_or groups n 0) both.0));
    }

pub top_within : (groups stack rest : List ℕ) (n : ℕ) → stack ≡ rest ++ n ∷ [] → AreWithin groups stack → n < length groups
top_within groups stack rest n top within = (within_rest groups rest n (subst (AreWithin groups) top within)).1
