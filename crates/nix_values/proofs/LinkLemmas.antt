-- The links between values, which are added one by one.
use Rattle.std.proofs.Common.{◌≡◌, ◌∙◌, ℕ, suc, ◌<◌, ◌≤◌, eqb, List, length, get_or, set, replicate, Some, None, ⊎_elim, sym, ap, subst, eq-eqb, eqb-true, length-set, get_or-set_same, get_or-set_other, arith}
use Rattle.std.proofs.lemmas.Bool.{cases_Bool}
use Rattle.std.proofs.lemmas.List.{get_or-replicate, length-replicate}
use Rattle.nix_values.specs.declared.links.Links.{Links}
use Rattle.nix_values.specs.Groups.{first_from, AreLinkedFrom}
use Rattle.nix_values.proofs.GroupLemmas.{ComeLater, first_here, first_other, first_end}

-- no value has been linked
pub linked_none : (groups : List ℕ) (links : Links) → links.first.items ≡ replicate (suc (length groups)) None →
    links.next.items ≡ replicate (length groups) None → AreLinkedFrom (length groups) groups links
linked_none groups links first next = record {
  first_len = ap length first ∙ length-replicate (suc (length groups)) None;
  next_len = ap length next ∙ length-replicate (length groups) None;
  first = λ group within.
      ap (λ xs. get_or xs group None) first ∙ get_or-replicate (suc (length groups)) group None None (omega (arith, within))
      ∙ sym (first_end groups (length groups) group (omega arith));
  next = λ value past within. absurd (omega (arith, past, within));
}

-- a value becomes the first of its group
pub linked_more : (groups : List ℕ) → ComeLater groups → (n : ℕ) → n < length groups → (old new : Links) → AreLinkedFrom (suc n) groups old →
    new.first.items ≡ set old.first.items (get_or groups n 0) (Some n) →
    new.next.items ≡ set old.next.items n (get_or old.first.items (get_or groups n 0) None) →
    AreLinkedFrom n groups new
linked_more groups late n within old new linked first next = record {
  first_len = ap length first ∙ length-set old.first.items (get_or groups n 0) (Some n) ∙ linked.first_len;
  next_len = ap length next ∙ length-set old.next.items n (get_or old.first.items (get_or groups n 0) None) ∙ linked.next_len;
  first = λ group small. ap (λ xs. get_or xs group None) first ∙ first_at group small;
  next = λ value more less. ap (λ xs. get_or xs value None) next ∙ next_at value more less;
}
  where
    low : get_or groups n 0 ≤ n
    low = late n within

    first_at : (group : ℕ) → group ≤ length groups → get_or (set old.first.items (get_or groups n 0) (Some n)) group None ≡ first_from n groups group
    first_at group small =
        ⊎_elim
        (λ here.
        let is : get_or groups n 0 ≡ group = eqb-true (get_or groups n 0) group here in
        let room : group < length old.first.items = omega (arith, linked.first_len, small) in
        ap (λ g. get_or (set old.first.items g (Some n)) group None) is
        ∙ get_or-set_same old.first.items group (Some n) None room
        ∙ sym (first_here groups n group within is))
        (λ other.
        get_or-set_other old.first.items (get_or groups n 0) group (Some n) None (λ e. let wrong = eq-eqb (get_or groups n 0) group (sym e) in absurd (cc))
        ∙ linked.first group small
        ∙ sym (first_other groups n group within other))
        (cases_Bool (eqb (get_or groups n 0) group))

    next_at : (value : ℕ) → n ≤ value → value < length groups →
        get_or (set old.next.items n (get_or old.first.items (get_or groups n 0) None)) value None ≡ first_from (suc value) groups (get_or groups value 0)
    next_at value more less =
        ⊎_elim
        (λ here.
        let is : n ≡ value = eqb-true n value here in
        let room : n < length old.next.items = omega (arith, linked.next_len, within) in
        subst (λ v. get_or (set old.next.items n (get_or old.first.items (get_or groups n 0) None)) v None ≡ first_from (suc v) groups (get_or groups v 0)) is
        (get_or-set_same old.next.items n (get_or old.first.items (get_or groups n 0) None) None room
        ∙ linked.first (get_or groups n 0) (omega (arith, low, within))))
        (λ other.
        let differ : value ≡ n → ⊥ = λ e. let wrong = eq-eqb n value (sym e) in absurd (cc) in
        get_or-set_other old.next.items n value (get_or old.first.items (get_or groups n 0) None) None differ
        ∙ linked.next value (omega (arith, differ, more)) less)
        (cases_Bool (eqb n value))
