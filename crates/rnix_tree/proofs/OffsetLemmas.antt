-- The tokens at an offset.
use Rattle.std.proofs.{Common.{get_or, ◌≡◌, ℕ, ◌+◌, ◌-◌, ◌≤◌, ◌<◌, ◌⊎◌, length, Some, None, false, ap, sym, subst, ◌∙◌, arith, inl, inr}, lemmas.Bool.cases_lt}
use Rattle.rnix_green.specs.{Tree.{Tree, Item, items_from, items_of, item, no_item, forest_of}, Relatives.{IsNodeIn, IsTokenInside}}
use Rattle.rnix_green.proofs.{SiblingLemmas.next_inside, InsideLemmas.{inner_of, elements_in_all, leaf_holds_nothing}, StartLemmas.{in_order, in_text}}
use Rattle.{rnix_green.proofs.StartLemmas.has_left, rnix_tree.specs.Offset.{IsTouched, IsHolding}}

-- an element before another in preorder starts no later
pub order : (t : Tree) (i j : ℕ) → i < j → j < length (items_of t) → ((item t i).start ≤ (item t j).start)
    × (i + (item t i).below < j → (item t i).end ≤ (item t j).start)
order t i j l h = (let o = in_order 0 0 None (forest_of t) i j l (omega (arith, elements_in_all t)) in (o.starts, o.ends))

-- a token does not end after the start of a later element
pub token_last : (t : Tree) (m k : ℕ) → m < k → k < length (items_of t) → (item t m).is_node ≡ false → (item t m).end ≤ (item t k).start
token_last t m k l h token =
    let none = leaf_holds_nothing t m (omega arith) token in
    (order t m k l h).1 (omega (arith, none))

module _ (t : Tree) (n offset : ℕ) (node : IsNodeIn t n) where
  -- for each byte of a node there is a token with it
  held_byte : (item t n).start < offset → offset ≤ (item t n).end → (m : ℕ) × IsHolding record { tree = t; number = n } offset m
  held_byte low high =
      let inner = inner_of t n node.is_there in
      let start = inner.begins node.is_node in
      let end = inner.ends node.is_node in
      let left = has_left (n + 1) inner.start (Some n) inner.children offset (omega (arith, start, low)) (omega (arith, end, high)) in
      let back : n + 1 + left.index - (n + 1) ≡ left.index = omega arith in
      let same = inner.items (n + 1 + left.index) (omega arith) (omega (arith, left.there, inner.count))
      ∙ ap (λ i. get_or (items_from (n + 1) inner.start (Some n) inner.children) i no_item) back in
      let fits = next_inside t n node.is_there in (
        n + 1 + left.index,
        record {
          inside = record {
            low = omega arith;
            high = omega (arith, left.there, inner.count);
            token = record { is_there = omega (arith, left.there, inner.count); is_token = ap (λ (i : Item). i.is_node) same ∙ left.token };
          };
          low = omega (arith, left.low, ap (λ (i : Item). i.start) same);
          high = omega (arith, left.high, ap (λ (i : Item). i.end) same);
        },
      )

  module _ (first : ℕ) (before : (m : ℕ) → n ≤ m → m < first → (item t m).start < offset)
      (behind : (m : ℕ) → first ≤ m → m < n + 1 + (item t n).below → offset ≤ (item t m).start) (most : first ≤ n + 1 + (item t n).below) where
    -- that token is the last element that starts before the offset
    pub only_last : (m : ℕ) → IsHolding record { tree = t; number = n } offset m → m ≡ first - 1
    only_last m h =
        let fits = next_inside t n node.is_there in
        let inside = h.inside in
        elim (cases_lt m first) [
          | inr past ↦ absurd (omega (arith, behind m past (omega (arith, inside.high)), h.low))
          | inl under ↦ elim (cases_lt m (first - 1)) [
            | inr last ↦ omega arith
            | inl earlier ↦
                let ends = token_last t m (first - 1) earlier (omega arith) inside.token.is_token in
                let starts = before (first - 1) (omega (arith, inside.low)) (omega arith) in
                absurd (omega (arith, ends, starts, h.high))
          ]
        ]

    pub last_is_token : (item t n).start < offset → offset ≤ (item t n).end → IsHolding record { tree = t; number = n } offset (first - 1)
    last_is_token low high =
        let found = held_byte low high in
        subst (IsHolding record { tree = t; number = n } offset) (only_last found.0 found.1) found.1

-- an element inside a node starts and ends within the node's range
pub within_node : (t : Tree) (n : ℕ) → IsNodeIn t n → (m : ℕ) → n < m → m ≤ n + (item t n).below
    → ((item t n).start ≤ (item t m).start) × ((item t m).end ≤ (item t n).end)
within_node t n node m low high =
    let inner = inner_of t n node.is_there in
    let same = inner.items m low high in
    let b = in_text (n + 1) inner.start (Some n) inner.children (m - (n + 1)) (omega (arith, high, inner.count)) in (
      omega (arith, b.low, inner.begins node.is_node, ap (λ (i : Item). i.start) same),
      omega
          (arith, b.high, inner.ends node.is_node, ap (λ (i : Item). i.end) same),
    )

-- the token with the byte before the offset, and the token with the byte after it
module _ (t : Tree) (n offset : ℕ) where
  touches_left : (m : ℕ) → IsHolding record { tree = t; number = n } offset m → IsTouched record { tree = t; number = n } offset m
  touches_left m h = record { inside = h.inside; some = omega (arith, h.low, h.high); low = omega (arith, h.low); high = h.high }

  touches_right : (m : ℕ) → IsHolding record { tree = t; number = n } (offset + 1) m → IsTouched record { tree = t; number = n } offset m
  touches_right m h = record { inside = h.inside; some = omega (arith, h.low, h.high); low = omega (arith, h.low); high = omega (arith, h.high) }

  -- a token that touches the offset has one of the two bytes
  pub has_a_byte : (m : ℕ) → IsTouched record { tree = t; number = n } offset m
      → IsHolding record { tree = t; number = n } offset m ⊎ IsHolding record { tree = t; number = n } (offset + 1) m
  has_a_byte m h = elim (cases_lt (item t m).start offset) [
    | inl before ↦ inl (record { inside = h.inside; low = before; high = h.high })
    | inr here ↦ inr (record { inside = h.inside; low = omega (arith, h.low); high = omega (arith, h.some, h.low) })
  ]

  -- inside the node
  within : (m : ℕ) → IsNodeIn t n → IsTokenInside record { tree = t; number = n } m → ((item t n).start ≤ (item t m).start) × ((item t m).end ≤ (item t n).end)
  within m node h =
      let apart : ¬ (m ≡ n) = (λ e. let a = ap (λ k. (item t k).is_node) e in let x = sym h.token.is_token ∙ a ∙ node.is_node in cc) in
      let low : n < m = elim (cases_lt n m) [ inl less ↦ less | inr same ↦ absurd (apart (let l = h.low in omega arith)) ] in
      within_node t n node m low h.high

  -- if a token touches the offset, the node has a byte, and its closed range contains the offset
  pub touched_inside : (m : ℕ) → IsNodeIn t n → IsTouched record { tree = t; number = n } offset m
      → ((item t n).start < (item t n).end) × ((item t n).start ≤ offset) × (offset ≤ (item t n).end)
  touched_inside m node h =
      let w = within m node h.inside in
      (omega (arith, w.0, w.1, h.some), omega (arith, w.0, h.low), omega (arith, w.1, h.high))

  -- at the node's start and at its end there is one such token
  pub one_at_start : IsNodeIn t n → offset ≡ (item t n).start → (r : ℕ) → IsHolding record { tree = t; number = n } (offset + 1) r
      → ((m : ℕ) → IsHolding record { tree = t; number = n } (offset + 1) m → m ≡ r)
      → IsTouched record { tree = t; number = n } offset r × ((m : ℕ) → IsTouched record { tree = t; number = n } offset m → m ≡ r)
  one_at_start node e r h only = (
    touches_right r h,
    λ m touched. elim (has_a_byte m touched) [
      | inl left ↦ absurd (let w = within m node touched.inside in omega (arith, w.0, left.low))
      | inr right ↦ only m right
    ],
  )

  pub one_at_end : IsNodeIn t n → offset ≡ (item t n).end → (r : ℕ) → IsHolding record { tree = t; number = n } offset r
      → ((m : ℕ) → IsHolding record { tree = t; number = n } offset m → m ≡ r)
      → IsTouched record { tree = t; number = n } offset r × ((m : ℕ) → IsTouched record { tree = t; number = n } offset m → m ≡ r)
  one_at_end node e r h only = (
    touches_left r h,
    λ m touched. elim (has_a_byte m touched) [
      | inl left ↦ only m left
      | inr right ↦ absurd (let w = within m node touched.inside in omega (arith, w.1, right.high))
    ],
  )

  module _ (a b : ℕ) (left : IsHolding record { tree = t; number = n } offset a) (right : IsHolding record { tree = t; number = n } (offset + 1) b)
      (only_left : (m : ℕ) → IsHolding record { tree = t; number = n } offset m → m ≡ a)
      (only_right : (m : ℕ) → IsHolding record { tree = t; number = n } (offset + 1) m → m ≡ b) where
    -- at any other offset there are one or two
    pub both_are_one : a ≡ b → IsTouched record { tree = t; number = n } offset a × ((m : ℕ) → IsTouched record { tree = t; number = n } offset m → m ≡ a)
    both_are_one e = (touches_left a left, λ m touched. elim (has_a_byte m touched) [ inl l ↦ only_left m l | inr r ↦ only_right m r ∙ sym e ])

    pub two : ¬ (a ≡ b) → (a < b) × IsTouched record { tree = t; number = n } offset a × IsTouched record { tree = t; number = n } offset b
        × ((m : ℕ) → IsTouched record { tree = t; number = n } offset m → (m ≡ a) ⊎ (m ≡ b))
    two differs = (
      elim (cases_lt a b) [
        | inl less ↦ less
        | inr not_less ↦ elim (cases_lt b a) [
          | inl more ↦ absurd (let l = left.inside in let r = right.inside in let ends = token_last t b a more l.token.is_there r.token.is_token in omega
              (arith, ends, left.low, right.high))
          | inr same ↦ absurd (differs (omega arith))
        ]
      ],
      touches_left a left,
      touches_right b right,
      λ m touched. elim (has_a_byte m touched) [ inl l ↦ inl (only_left m l) | inr r ↦ inr (only_right m r) ],
    )
