-- The first element of a tree that starts at an offset or after it.
use Rattle.std.proofs.Common.{◌≡◌, ℕ, ◌+◌, ◌-◌, ◌≤◌, ◌<◌, List, length, get_or, take, drop, Bool, true, false, None, nat_lt, ap, ◌∙◌, arith, inl, inr}
use Rattle.std.{proofs.{Common.{length-drop, length-take-le, get_or-drop}, lemmas.{List.get_or-take, Bool.cases_lt}}, specs.List.Sorted.IsPartitionedBy}
use Rattle.{std.specs.List.Sorted.IsPartitionPoint, rnix_kinds.specs.declared.kinds.SyntaxKind.TheVariants.TOKEN_ERROR}
use Rattle.rnix_green.specs.{declared.packed.Packed.Packed, Packed.{packed, len_or_start_in}, Tree.{Tree, items_of, item, forest_of}, Kept.IsKept}
use Rattle.rnix_green.proofs.{ElementLemmas.{length_kept, element_of}, NumberTests.{below_true, below_false, is_below}, StartLemmas.in_order}
use Rattle.rnix_green.proofs.InsideLemmas.{elements_in_all}

-- an element starts before the offset
abbrev pub starts_before : ℕ → Packed → Bool
starts_before offset e = nat_lt (len_or_start_in e) offset

no_element : Packed
no_element = packed TOKEN_ERROR 0 0 0

module _ (t : Tree) (es : List Packed) (text : List ℕ) (kept : IsKept t es text) (from end offset : ℕ) (ordered : from ≤ end)
    (there : end ≤ length (items_of t)) where
  abbrev pub piece : List Packed
  piece = take (end - from) (drop from es)

  all : length es ≡ length (items_of t)
  all = length_kept t es text kept

  -- an element of the slice is an element of the tree
  in_piece : (i : ℕ) (d : Packed) → i < end - from → len_or_start_in (get_or piece i d) ≡ (item t (from + i)).start
  in_piece i d l =
      let at : get_or piece i d ≡ get_or es (from + i) d = get_or-take (end - from) (drop from es) i d l ∙ get_or-drop from es i d in
      ap len_or_start_in at ∙ (element_of t es text (from + i) d kept (omega (arith, all))).len_or_start

  starts_in_order : (i j : ℕ) → i ≤ j → j < length (items_of t) → (item t i).start ≤ (item t j).start
  starts_in_order i j l h = elim (cases_lt i j) [
    | inl less ↦ (let o = in_order 0 0 None (forest_of t) i j less (omega (arith, elements_in_all t)) in o.starts)
    | inr same ↦ (let eq : i ≡ j = omega arith in omega (arith, ap (λ k. (item t k).start) eq))
  ]

  pub size : length piece ≡ end - from
  size = length-take-le (end - from) (drop from es) (omega (arith, all, length-drop from es))

  pub partitioned : IsPartitionedBy (starts_before offset) piece
  partitioned i j d l h e =
      let at_i = in_piece i d (omega (arith, size)) in
      let at_j = in_piece j d (omega (arith, size)) in
      let low = below_true (len_or_start_in (get_or piece j d)) offset e in
      is_below (len_or_start_in (get_or piece i d)) offset
      (omega (arith, at_i, at_j, low, starts_in_order (from + i) (from + j) (omega arith) (omega (arith, size))))

  module _ (k : ℕ) (bound : k ≤ length piece) (point : IsPartitionPoint (λ y. starts_before offset y ≡ true)
      (λ y. starts_before offset y ≡ false) piece k) where
    pub before : (m : ℕ) → from ≤ m → m < from + k → (item t m).start < offset
    before m low high =
        let same : from + (m - from) ≡ m = omega arith in
        let start = in_piece (m - from) no_element (omega (arith, size, bound)) ∙ ap (λ i. (item t i).start) same in
        let less = below_true (len_or_start_in (get_or piece (m - from) no_element)) offset (point.0 (m - from) no_element (omega arith) (omega arith)) in
        omega (arith, start, less)

    pub behind : (m : ℕ) → from + k ≤ m → m < end → offset ≤ (item t m).start
    behind m low high =
        let same : from + (m - from) ≡ m = omega arith in
        let start = in_piece (m - from) no_element (omega arith) ∙ ap (λ i. (item t i).start) same in
        let more = below_false (len_or_start_in (get_or piece (m - from) no_element)) offset
        (point.1 (m - from) no_element (omega arith) (omega (arith, size))) in
        omega (arith, start, more)
