-- Trees are equal exactly if their elements and their texts are.
use Rattle.{std.proofs.Common.{◌≡◌, ℕ, List, None, ap, sym, ◌∙◌}, rnix_green.specs.{declared.packed.Packed.Packed, Forest.text_of, Tree.{Tree, forest_of}}}
use Rattle.rnix_green.{specs.Kept.{IsKept, kept_from, tree_from}, proofs.KeptLemmas.tree_from_kept}

module _ (t u : Tree) (es fs : List Packed) (text other : List ℕ) (kept : IsKept t es text) (also : IsKept u fs other) where
  pub same_tree : es ≡ fs → text ≡ other → t ≡ u
  same_tree e f = sym (tree_from_kept t es text kept) ∙ (λ i. tree_from (e i) (f i)) ∙ tree_from_kept u fs other also

  pub same_parts : t ≡ u → (es ≡ fs) × (text ≡ other)
  same_parts e = (
    kept.elements ∙ ap (λ x. kept_from 0 0 None (forest_of x)) e ∙ sym also.elements,
    kept.text_is ∙ ap (λ x. text_of (forest_of x)) e ∙ sym also.text_is,
  )
