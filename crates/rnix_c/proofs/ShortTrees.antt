-- The numbers of a tree with fewer than 2 ^ 32 bytes and elements fit in 32 bits.
use Rattle.std.proofs.Common.{◌≡◌, ◌<◌, ◌^◌, ℕ, List, length, Option, Some, None, refl, ap, arith}
use Rattle.std.{specs.Prelude.{IfSome}, proofs.lemmas.List.{length-map}}
use Rattle.rnix_green.specs.{declared.packed.Packed.{Packed}, Forest.{text_of}, Kept.{IsKept, kept_of}, Tree.{Tree, items_of, forest_of, item}}
use Rattle.rnix_green.proofs.{InsideLemmas.{elements_in_all}, ParentLemmas.{parent_is_before}, SiblingLemmas.{next_inside}, StartLemmas.{in_text}}

-- a stored tree has fewer elements
pub few_kept : (t : Tree) (es : List Packed) (text : List ℕ) → IsKept t es text → length (items_of t) < 2 ^ 32
few_kept t es text kept = omega (arith, kept.few, ap (length {A = Packed}) kept.elements, length-map (items_of t) kept_of)

-- the text of a stored tree is shorter
pub short_kept : (t : Tree) (es : List Packed) (text : List ℕ) → IsKept t es text → length (text_of (forest_of t)) < 2 ^ 32
short_kept t es text kept = omega (arith, kept.short, ap (length {A = ℕ}) kept.text_is)

-- an element's start fits
pub short_start : (t : Tree) (n : ℕ) → n < length (items_of t) → length (text_of (forest_of t)) < 2 ^ 32 → (item t n).start < 2 ^ 32
short_start t n l short =
    let inside = in_text 0 0 None (forest_of t) n (omega (arith, l, elements_in_all t)) in
    omega (arith, short, inside.ordered, inside.high)

-- an element's end fits
pub short_end : (t : Tree) (n : ℕ) → n < length (items_of t) → length (text_of (forest_of t)) < 2 ^ 32 → (item t n).end < 2 ^ 32
short_end t n l short =
    let inside = in_text 0 0 None (forest_of t) n (omega (arith, l, elements_in_all t)) in
    omega (arith, short, inside.high)

-- the number of an element's parent fits
pub short_parent : (t : Tree) (n : ℕ) → n < length (items_of t) → length (items_of t) < 2 ^ 32 → IfSome (item t n).parent (λ parent. parent < 2 ^ 32)
short_parent t n l few = go (item t n).parent refl
  where
    go : (parent : Option ℕ) → (item t n).parent ≡ parent → IfSome parent (λ parent. parent < 2 ^ 32)
    go None e = tt
    go (Some parent) e = omega (arith, l, few, parent_is_before t n parent l e)

-- the number of elements inside an element fits
pub short_below : (t : Tree) (n : ℕ) → n < length (items_of t) → length (items_of t) < 2 ^ 32 → (item t n).below < 2 ^ 32
short_below t n l few = omega (arith, few, next_inside t n l)
