-- The stored form of an element determines its item.
use Rattle.std.proofs.Common.{◌≡◌, ℕ, zero, suc, ◌+◌, ◌-◌, ◌≤◌, ◌<◌, List, [], ◌∷◌, ◌++◌, length, map, get_or, Option, Some, None, Bool, true, false, nat_lt}
use Rattle.std.proofs.{Common.{cond, refl, ap, sym, ◌∙◌, subst, arith, length-append}, lemmas.List.{get_or-map, length-map, map-append, get_or-append_right}}
use Rattle.{std.proofs.lemmas.List.get_or_past, rnix_kinds.specs.declared.kinds.SyntaxKind.SyntaxKind, rnix_green.specs.declared.packed.Packed.Packed}
use Rattle.rnix_green.specs.{Packed.{limit, len_or_start_in, parent_in, size_in}, Forest.{Forest, empty, leaf, node, text_of, element_count}, Tree.{Tree, Item}}
use Rattle.rnix_green.specs.{Tree.{items_from, items_of, forest_of, no_item, item}, Kept.{item_from, parent_or_root, parent_kept, size_of, kept_of, start_at}}
use Rattle.rnix_green.{specs.Kept.IsKept, proofs.{NumberTests.is_below, PackedLemmas.packed_again, PieceLemmas.length-items_from}}
use Rattle.rnix_green.proofs.{ParentLemmas.parent_is_before, SiblingLemmas.{below_fits, next_inside}, NestLemmas.{at, inside, beyond, behind}}
use Rattle.rnix_green.proofs.{InsideLemmas.{elements_in_all, has_parent, leaf_holds_nothing}, StartLemmas.in_text}

-- as many elements are stored as the tree has
pub length_kept : (t : Tree) (es : List Packed) (text : List ℕ) → IsKept t es text → length es ≡ length (items_of t)
length_kept t es text h = ap length h.elements ∙ length-map (items_of t) kept_of

-- a stored element is the one with the number `n` of the tree
pub record IsElement (t : Tree) (n : ℕ) (e : Packed) : Type 0 where
  pub kind : e.kind ≡ (item t n).kind
  pub len_or_start : len_or_start_in e ≡ (item t n).start
  pub parent : parent_in e ≡ parent_or_root (item t n).parent
  pub size : size_in e ≡ size_of (item t n)

size_fits : (b : Bool) (i : Item) (n : ℕ) → i.is_node ≡ b → i.below < n → size_of i ≤ n
size_fits true i n e l = (let same : size_of i ≡ suc i.below = ap (λ b. cond b (suc i.below) 0) e in omega arith)
size_fits false i n e l = (let same : size_of i ≡ 0 = ap (λ b. cond b (suc i.below) 0) e in omega arith)

parent_fits : (t : Tree) (n : ℕ) (p : Option ℕ) → (item t n).parent ≡ p → n < length (items_of t) → parent_or_root p < length (items_of t)
parent_fits t n None e l = omega arith
parent_fits t n (Some q) e l = omega (arith, parent_is_before t n q l e)

-- so is each stored element of a tree
pub element_of : (t : Tree) (es : List Packed) (text : List ℕ) (n : ℕ) (d : Packed) → IsKept t es text → n < length (items_of t) → IsElement t n (get_or es n d)
element_of t es text n d h l =
    let i = item t n in
    let is : get_or es n d ≡ kept_of i = ap (λ xs. get_or xs n d) h.elements ∙ get_or-map kept_of (items_of t) n no_item d l in
    let few : length (items_of t) < limit = omega (arith, h.few, length_kept t es text h) in
    let short : length (text_of (forest_of t)) < limit = omega (arith, h.short, ap length h.text_is) in
    let between = in_text 0 0 None (forest_of t) n (omega (arith, elements_in_all t)) in
    record {
      kind = ap (λ (e : Packed). e.kind) is;
      len_or_start = ap len_or_start_in is ∙ packed_again i.start (omega (arith, between.ordered, between.high));
      parent = ap parent_in is ∙ packed_again (parent_or_root i.parent) (omega (arith, parent_fits t n i.parent refl l));
      size = ap size_in is ∙ packed_again (size_of i) (omega (arith, size_fits i.is_node i (length (items_of t)) refl (omega (arith, next_inside t n l))));
    }

-- so is a stored element that was read
pub element_read : (t : Tree) (es : List Packed) (text : List ℕ) (n : ℕ) (e : Packed) → IsKept t es text → n < length (items_of t) → e ≡ get_or es n e
    → IsElement t n e
element_read t es text n e h l r = subst (IsElement t n) (sym r) (element_of t es text n e h l)

-- whether it is a node
is_node_by : (i : Item) (b : Bool) → i.is_node ≡ b → nat_lt 0 (size_of i) ≡ b
is_node_by i true e = (let same : size_of i ≡ suc i.below = ap (λ b. cond b (suc i.below) 0) e in is_below 0 (size_of i) (omega arith))
is_node_by i false e = ap (λ b. nat_lt 0 (cond b (suc i.below) 0)) e

-- how many elements are inside it
below_by : (t : Tree) (n : ℕ) (b : Bool) → n < length (items_of t) → (item t n).is_node ≡ b → size_of (item t n) - 1 ≡ (item t n).below
below_by t n true l e = (let same : size_of (item t n) ≡ suc (item t n).below = ap (λ b. cond b (suc (item t n).below) 0) e in omega arith)
below_by t n false l e = ap (λ b. (cond b (suc (item t n).below) 0) - 1) e ∙ sym (leaf_holds_nothing t n l e)

-- which parent it has
parent_by : (t : Tree) (n : ℕ) → n < length (items_of t) → parent_kept n (parent_or_root (item t n).parent) ≡ (item t n).parent
parent_by t zero l = refl
parent_by t (suc n) l = (let h = has_parent t (suc n) (omega arith) l in ap (λ p. Some (parent_or_root p)) h.is ∙ sym h.is)

-- the starts of the elements of a forest
abbrev starts : ℕ → ℕ → Option ℕ → Forest → List ℕ
starts n s p f = map (λ (i : Item). i.start) (items_from n s p f)

first_start : (n s : ℕ) (p : Option ℕ) (f : Forest) (d : ℕ) → d ≡ s + length (text_of f) → get_or (starts n s p f) 0 d ≡ s
first_start n s p empty d e = omega arith
first_start n s p (leaf k t f) d e = refl
first_start n s p (node k c f) d e = refl

get_or_row : (us vs : List ℕ) (k d : ℕ) → k ≤ length us → get_or (us ++ vs) k d ≡ get_or us k (get_or vs 0 d)
get_or_row [] vs zero d l = refl
get_or_row [] vs (suc k) d l = absurd (omega arith)
get_or_row (u ∷ us) vs zero d l = refl
get_or_row (u ∷ us) vs (suc k) d l = get_or_row us vs k d (omega arith)

-- the second and later elements of a list are those of its tail
behind_first : (u : ℕ) (us : List ℕ) (k j d : ℕ) → k ≡ suc j → get_or (u ∷ us) k d ≡ get_or us j d
behind_first u us k j d e = ap (λ i. get_or (u ∷ us) i d) e

-- an element of a forest, `m` after the first one, ends where the element after its last one starts
abbrev EndsAtNext : ℕ → ℕ → Option ℕ → Forest → ℕ → ℕ → Type 0
EndsAtNext n s p f m d = (at n s p f m).end ≡ get_or (starts n s p f) (m + 1 + (at n s p f m).below) d

module _ (n s : ℕ) (p : Option ℕ) (k : SyntaxKind) (c f : Forest) (d : ℕ) (whole : d ≡ s + length (text_of c) + length (text_of f)) where
  abbrev xs : List ℕ
  xs = starts (n + 1) s (Some n) c

  abbrev ys : List ℕ
  ys = starts (n + 1 + element_count c) (s + length (text_of c)) p f

  split : starts n s p (node k c f) ≡ s ∷ (xs ++ ys)
  split =
      ap (λ z. s ∷ z)
      (map-append (λ (i : Item). i.start) (items_from (n + 1) s (Some n) c) (items_from (n + 1 + element_count c) (s + length (text_of c)) p f))

  count : length xs ≡ element_count c
  count = length-map (items_from (n + 1) s (Some n) c) (λ (i : Item). i.start) ∙ length-items_from (n + 1) s (Some n) c

  next : get_or ys 0 d ≡ s + length (text_of c)
  next = first_start (n + 1 + element_count c) (s + length (text_of c)) p f d whole

  node_ends : EndsAtNext n s p (node k c f) 0 d
  node_ends =
      sym (ap (λ z. get_or z (0 + 1 + element_count c) d) split ∙ behind_first s (xs ++ ys) (0 + 1 + element_count c) (element_count c) d (omega arith)
      ∙ get_or_row xs ys (element_count c) d (omega (arith, count))
      ∙ get_or_past xs (element_count c) (get_or ys 0 d) (omega (arith, count)) ∙ next)

  inner_ends : (m : ℕ) → m < element_count c → EndsAtNext (n + 1) s (Some n) c m (s + length (text_of c))
      → at n s p (node k c f) (suc m) ≡ at (n + 1) s (Some n) c m
      → EndsAtNext n s p (node k c f) (suc m) d
  inner_ends m low h e =
      let b = (at (n + 1) s (Some n) c m).below in
      let fits : m + 1 + b ≤ length xs = omega (arith, count, below_fits (n + 1) s (Some n) c m low) in
      ap (λ (i : Item). i.end) e ∙ h ∙ ap (λ x. get_or xs (m + 1 + b) x) (sym next) ∙ sym (get_or_row xs ys (m + 1 + b) d fits)
      ∙ sym (ap (λ z. get_or z (suc m + 1 + b) d) split ∙ behind_first s (xs ++ ys) (suc m + 1 + b) (m + 1 + b) d (omega arith))
      ∙ ap (λ (i : Item). get_or (starts n s p (node k c f)) (suc m + 1 + i.below) d) (sym e)

  outer_ends : (m : ℕ) → element_count c ≤ m → EndsAtNext (n + 1 + element_count c) (s + length (text_of c)) p f (m - element_count c) d
      → at n s p (node k c f) (suc m) ≡ at (n + 1 + element_count c) (s + length (text_of c)) p f (m - element_count c)
      → EndsAtNext n s p (node k c f) (suc m) d
  outer_ends m high h e =
      let b = (at (n + 1 + element_count c) (s + length (text_of c)) p f (m - element_count c)).below in
      let same : m - element_count c + 1 + b ≡ m + 1 + b - element_count c = omega arith in
      ap (λ (i : Item). i.end) e ∙ h ∙ ap (λ x. get_or ys x d) same
      ∙ sym (get_or-append_right xs ys (element_count c) (m + 1 + b) d count (omega arith))
      ∙ sym (ap (λ z. get_or z (suc m + 1 + b) d) split ∙ behind_first s (xs ++ ys) (suc m + 1 + b) (m + 1 + b) d (omega arith))
      ∙ ap (λ (i : Item). get_or (starts n s p (node k c f)) (suc m + 1 + i.below) d) (sym e)

-- each element of a forest ends where the element after its last one starts
ends_at_next : (n s : ℕ) (p : Option ℕ) (f : Forest) (m d : ℕ) → m < element_count f → d ≡ s + length (text_of f) → EndsAtNext n s p f m d
ends_at_next n s p empty m d l e = absurd (omega arith)
ends_at_next n s p (leaf k t f) zero d l e = sym (first_start (n + 1) (s + length t) p f d (omega (arith, length-append t (text_of f))))
ends_at_next n s p (leaf k t f) (suc m) d l e =
    let b = (at (n + 1) (s + length t) p f m).below in
    ends_at_next (n + 1) (s + length t) p f m d (omega arith) (omega (arith, length-append t (text_of f)))
    ∙ sym (behind_first s (starts (n + 1) (s + length t) p f) (suc m + 1 + b) (m + 1 + b) d (omega arith))
ends_at_next n s p (node k c f) zero d l e = node_ends n s p k c f d (omega (arith, length-append (text_of c) (text_of f)))
ends_at_next n s p (node k c f) (suc m) d l e =
    let whole : d ≡ s + length (text_of c) + length (text_of f) = omega (arith, length-append (text_of c) (text_of f)) in
    elim (behind n s p k c f m) as (λ b. EndsAtNext n s p (node k c f) (suc m) d) [
      | inside low x ↦ inner_ends n s p k c f d whole m low (ends_at_next (n + 1) s (Some n) c m (s + length (text_of c)) low refl) x
      | beyond high x ↦
          outer_ends n s p k c f d whole m high
          (ends_at_next (n + 1 + element_count c) (s + length (text_of c)) p f (m - element_count c) d (omega arith) whole) x
    ]

-- each element of a tree ends where the element after its last one starts
end_by : (t : Tree) (n : ℕ) → n < length (items_of t) → start_at t (n + 1 + (item t n).below) ≡ (item t n).end
end_by t n l = sym (ends_at_next 0 0 None (forest_of t) n (length (text_of (forest_of t))) (omega (arith, elements_in_all t)) (omega arith))

-- the start that is read for a number is that of the element with the number, if there is one
pub start_there : (t : Tree) (n : ℕ) → n < length (items_of t) → start_at t n ≡ (item t n).start
start_there t n l = get_or-map (λ (i : Item). i.start) (items_of t) n no_item (length (text_of (forest_of t))) l

-- the number of elements inside one that was read
pub below_read : (t : Tree) (n : ℕ) (e : Packed) → n < length (items_of t) → IsElement t n e → size_in e - 1 ≡ (item t n).below
below_read t n e l h = ap (λ s. s - 1) h.size ∙ below_by t n (item t n).is_node l refl

-- the end of an element that was read
pub end_read : (t : Tree) (n : ℕ) (e : Packed) → n < length (items_of t) → IsElement t n e → start_at t (n + 1 + (size_in e - 1)) ≡ (item t n).end
end_read t n e l h = ap (λ b. start_at t (n + 1 + b)) (below_read t n e l h) ∙ end_by t n l

-- an element that was read does not end before it starts
pub read_in_order : (t : Tree) (n : ℕ) (e : Packed) → n < length (items_of t) → IsElement t n e → len_or_start_in e ≤ start_at t (n + 1 + (size_in e - 1))
read_in_order t n e l h =
    omega (arith, h.len_or_start, end_read t n e l h, (in_text 0 0 None (forest_of t) n (omega (arith, elements_in_all t))).ordered)

-- the item of an element that was read
pub item_read : (t : Tree) (n : ℕ) (e : Packed) → n < length (items_of t) → IsElement t n e →
    item_from
    record {
      kind = e.kind;
      is_node = nat_lt 0 (size_in e);
      start = len_or_start_in e;
      end = start_at t (n + 1 + (size_in e - 1));
      parent = parent_kept n (parent_in e);
      below = size_in e - 1;
    }
    ≡ item t n
item_read t n e l h =
    let nodes : nat_lt 0 (size_in e) ≡ (item t n).is_node = ap (nat_lt 0) h.size ∙ is_node_by (item t n) (item t n).is_node refl in
    let parents : parent_kept n (parent_in e) ≡ (item t n).parent = ap (parent_kept n) h.parent ∙ parent_by t n l in
    let belows = below_read t n e l h in
    let ends = end_read t n e l h in
    λ i. record { kind = h.kind i; is_node = nodes i; start = h.len_or_start i; end = ends i; parent = parents i; below = belows i }
