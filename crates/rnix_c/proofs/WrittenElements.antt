-- The elements of a tree can be read back from the arrays into which they were written.
use Rattle.std.proofs.Common.{◌≡◌, ℕ, zero, suc, min, ◌+◌, ◌-◌, ◌<◌, ◌^◌, cond, Bool, true, false, List, [], ◌∷◌, ◌++◌, length, map, take, get_or, Option, Some, None, refl, sym, ap, ◌∙◌, subst, arith}
use Rattle.std.{specs.Prelude.{IfSome}, proofs.lemmas.{Bool.{ne_eqb}, List.{get_or-map, length-append, length-map, length-take, map-append, take_more}}}
use Rattle.rnix_kinds.{specs.{declared.kinds.SyntaxKind.{SyntaxKind}, SyntaxKind.{discriminant_of}}}
use Rattle.rnix_green.{specs.{declared.packed.Packed.{Packed}, Packed.{packed}, Forest.{element_count}, Kept.{kept_of, parent_or_root}, Tree.{Tree, Item, no_item, items_from, items_of, item}}, proofs.{ParentLemmas.{parent_is_before}, PieceLemmas.{length-items_from}}}
use Rattle.rnix_c.specs.{declared.compact.{RnixRange.{RnixRange}, RnixLink.{RnixLink}}, CompactElements.{parent_or_none, range_of, link_of}}
use Rattle.rnix_c.specs.KeptArrays.{HoldTree, BeginWithTree, count_by, kept_parent, kept_size, kept_by}

-- no parent has the number that means no parent
small_parent : (t : Tree) (n : ℕ) → n < length (items_of t) → length (items_of t) < 2 ^ 32 → IfSome (item t n).parent (λ parent. parent < 2 ^ 32 - 1)
small_parent t n l few = go (item t n).parent refl
  where
    go : (parent : Option ℕ) → (item t n).parent ≡ parent → IfSome parent (λ parent. parent < 2 ^ 32 - 1)
    go None e = tt
    go (Some parent) e = omega (arith, l, few, parent_is_before t n parent l e)

-- the parent that is read back is the one that was written
parent_again : (parent : Option ℕ) → IfSome parent (λ parent. parent < 2 ^ 32 - 1) → kept_parent (parent_or_none parent) ≡ parent_or_root parent
parent_again None l = refl
parent_again (Some parent) l = ap (λ b. cond b 0 parent) (ne_eqb parent (2 ^ 32 - 1) (λ e. omega (arith, l, e)))

-- so is the size
size_again : (is_node : Bool) (below : ℕ) → kept_size (cond is_node 0 1) below ≡ cond is_node (suc below) 0
size_again true below = refl
size_again false below = refl

-- so is the whole element
element_again : (i : Item) → IfSome i.parent (λ parent. parent < 2 ^ 32 - 1) → kept_by i.kind (range_of i) (link_of i) ≡ kept_of i
element_again i l =
    ap (λ parent. packed i.kind i.start parent (kept_size (cond i.is_node 0 1) i.below)) (parent_again i.parent l)
    ∙ ap (packed i.kind i.start (parent_or_root i.parent)) (size_again i.is_node i.below)

-- after the first elements, the next one is read back
pub next_kept : (t : Tree) (ranges : List RnixRange) (links : List RnixLink) (n : ℕ) (range : RnixRange) (link : RnixLink) (old new : List Packed)
    (no_range : RnixRange) (no_link : RnixLink) → HoldTree ranges links t → n < length ranges → range ≡ get_or ranges n no_range → link ≡ get_or links n no_link
    → ((kind : SyntaxKind) → discriminant_of kind ≡ link.kind → new ≡ old ++ (kept_by kind range link ∷ []))
    → old ≡ map kept_of (take n (items_of t)) → new ≡ map kept_of (take (n + 1) (items_of t))
next_kept t ranges links n range link old new no_range no_link h l range_is link_is pushed before =
    let i : Item = item t n in
    let count : length ranges ≡ length (items_of t) = ap length h.ranges_are ∙ length-map (items_of t) range_of in
    let there : n < length (items_of t) = omega (arith, l, count) in
    let is_range : range ≡ range_of i =
    range_is ∙ ap (λ list. get_or list n no_range) h.ranges_are ∙ get_or-map range_of (items_of t) n no_item no_range there in
    let is_link : link ≡ link_of i =
    link_is ∙ ap (λ list. get_or list n no_link) h.links_are ∙ get_or-map link_of (items_of t) n no_item no_link there in
    let is_kept : kept_by i.kind range link ≡ kept_of i =
    ap (λ range. kept_by i.kind range link) is_range ∙ ap (kept_by i.kind (range_of i)) is_link ∙ element_again i (small_parent t n there h.few) in
    pushed i.kind (sym (ap (λ (link : RnixLink). link.kind) is_link))
    ∙ ap (λ list. list ++ (kept_by i.kind range link ∷ [])) before
    ∙ ap (λ e. map kept_of (take n (items_of t)) ++ (e ∷ [])) is_kept
    ∙ sym (map-append kept_of (take n (items_of t)) (i ∷ []))
    ∙ ap (map kept_of) (sym (take_more (items_of t) n no_item there))

-- a tree has one element more than those inside its root
counted : (t : Tree) → suc (element_count t.children) ≡ length (items_of t)
counted t =
    let inside = items_from 1 0 (Some 0) t.children in
    let same : length (inside ++ []) ≡ element_count t.children =
    omega (arith, length-append inside [], length-items_from 1 0 (Some 0) t.children) in
    ap suc (sym same)

-- the first of some links says the same as the first of all
first_count : (n : ℕ) (links : List RnixLink) → 0 < n → count_by (take n links) ≡ count_by links
first_count zero links l = absurd (omega (arith, l))
first_count (suc n) [] l = refl
first_count (suc n) (link ∷ links) l = refl

-- the arrays that begin with the elements of a tree contain them up to the number that the first link says
pub cut_off : (t : Tree) (ranges : List RnixRange) (links : List RnixLink) (count : ℕ) → BeginWithTree ranges links t
    → count ≡ min (min (count_by links) (length ranges)) (length links) → HoldTree (take count ranges) (take count links) t
cut_off t ranges links count h is =
    let n = length (items_of t) in
    let all_ranges : length (take n ranges) ≡ n = ap length h.ranges_are ∙ length-map (items_of t) range_of in
    let all_links : length (take n links) ≡ n = ap length h.links_are ∙ length-map (items_of t) link_of in
    let some : 0 < n = omega (arith, counted t) in
    let first : count_by links ≡ n = sym (first_count n links some) ∙ ap count_by h.links_are ∙ counted t in
    let same : n ≡ count = omega (arith, is, first, all_ranges, all_links, length-take n ranges, length-take n links) in
    subst (λ number. HoldTree (take number ranges) (take number links) t) same h
