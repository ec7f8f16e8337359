-- The nodes around an element.
use Rattle.std.proofs.Common.{◌≡◌, ℕ, zero, suc, ◌+◌, ◌-◌, ◌≤◌, ◌<◌, [], ◌∷◌, length, Option, Some, None, refl, ap, sym, ◌∙◌, arith, inl, inr}
use Rattle.{std.{proofs.lemmas.{Bool.cases_lt, Option.same_Some}, specs.Prelude.if◌then◌else◌}, rnix_green.specs.Tree.{Tree, Located, items_of, item}}
use Rattle.rnix_green.{specs.Walk.{holders, ancestors_of, counted}, proofs.{NumberTests.{is_below, is_not_below}, InsideLemmas.{held, ends_inside}}}
use Rattle.{rnix_green.proofs.InsideLemmas.{below_parent, has_parent}, rnix_tree.specs.Around.ancestors_if}

-- the numbers from `n` on are `n` and those from the next one on
pub counted_more : (n end : ℕ) → n < end → counted n (end - n) ≡ n ∷ counted (n + 1) (end - (n + 1))
counted_more n end l =
    let more : end - n ≡ suc (end - (n + 1)) = omega arith in
    ap (counted n) more

module _ (t : Tree) (n : ℕ) where
  abbrev pub this : ℕ → Located
  this k = record { tree = t; number = k }

  -- an element from `k` down contains `n`, or does not
  pub holds : (k : ℕ) → n ≤ k + (item t k).below → holders t n (suc k) ≡ this k ∷ holders t n k
  holds k l = ap (λ b. if b then holders t n k else this k ∷ holders t n k) (is_not_below (k + (item t k).below) n l)

  pub passes : (k : ℕ) → k + (item t k).below < n → holders t n (suc k) ≡ holders t n k
  passes k l = ap (λ b. if b then holders t n k else this k ∷ holders t n k) (is_below (k + (item t k).below) n l)

  -- no element between `p` and `n` contains `n`, if `p` is its parent
  pub none_between : (p k : ℕ) → n < length (items_of t) → (item t n).parent ≡ Some p → p < k → k < n → k + (item t k).below < n
  none_between p k l e above under =
      elim (cases_lt (k + (item t k).below) n) [
        | inl short ↦ short
        | inr long ↦
            let h = held t k n (omega arith) under long in
            let same : h.parent ≡ p = same_Some h.parent p (sym h.is ∙ e) in
            absurd (omega (arith, h.low))
      ]

  pub down_to : (p k : ℕ) → n < length (items_of t) → (item t n).parent ≡ Some p → p < k → k ≤ n → holders t n k ≡ holders t n (p + 1)
  down_to p zero l e above under = absurd (omega arith)
  down_to p (suc k) l e above under =
      elim (cases_lt p k) [
        | inl more ↦ passes k (none_between p k l e more (omega arith)) ∙ down_to p k l e more (omega arith)
        | inr last ↦ (let same : suc k ≡ p + 1 = omega arith in ap (holders t n) same)
      ]

-- up to its parent, the elements that contain an element are those that contain its parent
pub same_holders : (t : Tree) (n p k : ℕ) → n < length (items_of t) → (item t n).parent ≡ Some p → k ≤ p + 1 → holders t n k ≡ holders t p k
same_holders t n p zero l e h = refl
same_holders t n p (suc k) l e h =
    let more = same_holders t n p k l e (omega arith) in
    let parent = below_parent t n p l e in
    elim (cases_lt (k + (item t k).below) n) [
      | inl short ↦
          elim (cases_lt (k + (item t k).below) p) [
            | inl before ↦ passes t n k short ∙ more ∙ sym (passes t p k before)
            | inr reaches ↦ absurd (reached k (omega arith) short reaches)
          ]
      | inr long ↦ holds t n k long ∙ ap (λ xs. record { tree = t; number = k } ∷ xs) more ∙ sym (holds t p k (omega (arith, parent.low)))
    ]
  where
    reached : (k : ℕ) → k ≤ p → k + (item t k).below < n → p ≤ k + (item t k).below → ⊥
    reached k no_more short reaches =
        let parent = below_parent t n p l e in
        elim (cases_lt k p) [
          | inl under ↦ (let ends = ends_inside t k p (omega (arith, parent.low)) under reaches in omega (arith, parent.high))
          | inr same ↦ (let eq : k ≡ p = omega arith in let b = ap (λ x. (item t x).below) eq in omega (arith, parent.high))
        ]

-- the ancestors of an element are the element and those of its parent
pub ancestors_step : (t : Tree) (n : ℕ) → n < length (items_of t) → ancestors_of record { tree = t; number = n } ≡ record { tree = t; number = n }
    ∷ ancestors_if t (item t n).parent
ancestors_step t n l =
    let one : n + 1 ≡ suc n = omega arith in
    ap (holders t n) one ∙ holds t n n (omega arith) ∙ ap (λ xs. record { tree = t; number = n } ∷ xs) (around (item t n).parent refl)
  where
    around : (parent : Option ℕ) → (item t n).parent ≡ parent → holders t n n ≡ ancestors_if t parent
    around None e = none n l e
      where
        none : (n : ℕ) → n < length (items_of t) → (item t n).parent ≡ None → holders t n n ≡ []
        none zero l e = refl
        none (suc n) l e = absurd (let h = has_parent t (suc n) (omega arith) l in let x = sym h.is ∙ e in cc)
    around (Some p) e =
        let parent = below_parent t n p l e in
        down_to t n p n l e parent.low (omega arith) ∙ same_holders t n p (p + 1) l e (omega arith)
