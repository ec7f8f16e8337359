-- How many siblings precede an element.
use Rattle.std.proofs.Common.{◌≡◌, ℕ, suc, ◌+◌, ◌≤◌, ◌<◌, length, false, Some, None, ap, sym, ◌∙◌, arith}
use Rattle.{std.specs.Prelude.filter, rnix_green.{specs.{Tree.{Tree, items_of, item}, Relatives.IsChild}}}
use Rattle.rnix_green.proofs.InsideLemmas.{below_parent, first_child_of, sibling_behind}
use Rattle.rnix_tree.{specs.Siblings.{is_beside, numbers_below, index_of}, proofs.{CoveringLemmas.ends_before, RelativeLemmas.{not_beside, root_alone}}}
use Rattle.rnix_tree.proofs.DirectionLemmas.{same_passes, passes_same, fails, none_down, skip_down, meet_down}

-- the siblings before `sibling`, which is before element `n` or is it, have been counted
pub record IsCounted (t : Tree) (n p sibling index : ℕ) : Type 0 where
  pub here : IsChild record { tree = t; number = p } sibling
  pub low : sibling ≤ n
  pub count : index ≡ length (filter (is_beside record { tree = t; number = n }) (numbers_below sibling))
  pub fewer : index ≤ sibling

module _ (t : Tree) (n p : ℕ) (l : n < length (items_of t)) (e : (item t n).parent ≡ Some p) where
  -- an element with another parent is no sibling
  elsewhere : (m : ℕ) → ((item t m).parent ≡ Some p → ⊥) → is_beside record { tree = t; number = n } m ≡ false
  elsewhere m h = fails (is_beside record { tree = t; number = n } m) (λ same. h (passes_same (item t m).parent (item t n).parent same ∙ e))

  pub counted_first : IsCounted t n p (p + 1) 0
  counted_first =
      let inside = below_parent t n p l e in
      let there : p < length (items_of t) = omega arith in
      let one : p + 1 ≡ suc p = omega arith in
      let none = none_down (is_beside record { tree = t; number = n }) (p + 1)
      (λ m low. elsewhere m (λ same. let above = below_parent t m p (omega arith) same in omega (arith, above.low))) in
      record {
        here = record { is_there = omega (arith, inside.low); parent = first_child_of t p there (omega (arith, inside.low, inside.high)) };
        low = omega (arith, inside.low);
        count = ap length (sym none);
        fewer = omega arith;
      }

  pub counted_step : (sibling index : ℕ) → IsCounted t n p sibling index → sibling < n → IsCounted t n p (sibling + (1 + (item t sibling).below)) (index + 1)
  counted_step sibling index h less =
      let here = h.here in
      let inside = below_parent t n p l e in
      let apart = ends_before t p sibling n here record { is_there = l; parent = e } less in
      let next : sibling + 1 + (item t sibling).below ≡ sibling + (1 + (item t sibling).below) = omega arith in
      let parent = sibling_behind t sibling p here.is_there here.parent (omega (arith, inside.high)) in
      let Q = is_beside record { tree = t; number = n } in
      let skipped = skip_down Q (sibling + (1 + (item t sibling).below)) sibling (omega arith)
      (λ m low high. elsewhere m (λ same. not_beside t sibling p m here.is_there here.parent low (omega arith) same)) in
      let met = meet_down Q sibling (same_passes (item t sibling).parent (item t n).parent (here.parent ∙ sym e)) in
      record {
        here = record { is_there = omega arith; parent = ap (λ k. (item t k).parent) (sym next) ∙ parent };
        low = omega arith;
        count = omega (arith, ap length (skipped ∙ met), h.count);
        fewer = omega (arith, h.fewer);
      }

  pub counted_all : (sibling index : ℕ) → IsCounted t n p sibling index → n ≤ sibling → index ≡ index_of record { tree = t; number = n }
  counted_all sibling index h end =
      let same : sibling ≡ n = omega (arith, h.low) in
      h.count ∙ ap (λ k. length (filter (is_beside record { tree = t; number = n }) (numbers_below k))) same

-- no sibling precedes the root
pub none_counted : (t : Tree) (n : ℕ) → n < length (items_of t) → (item t n).parent ≡ None → 0 ≡ index_of record { tree = t; number = n }
none_counted t n l e =
    let root = root_alone t n l e in
    ap (λ k. length (filter (is_beside record { tree = t; number = n }) (numbers_below k))) (sym root)
