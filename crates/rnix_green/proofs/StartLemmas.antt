-- Where the elements of a tree start: in preorder, starts never decrease.
use Rattle.std.proofs.Common.{subst, ◌≡◌, ℕ, zero, suc, ◌+◌, ◌-◌, ◌≤◌, ◌<◌, ◌++◌, length, Option, Some, false, refl, ap, sym, ◌∙◌, arith, inl, inr}
use Rattle.{std.proofs.{Common.length-append, lemmas.Bool.cases_lt}, rnix_green.specs.{Forest.{Forest, empty, leaf, node, text_of, element_count}, Tree.Item}}
use Rattle.rnix_green.proofs.NestLemmas.{at, inside, beyond, behind}

-- an element's range is within the text of its forest
pub record IsBetween (s e : ℕ) (i : Item) : Type 0 where
  pub low : s ≤ i.start
  pub ordered : i.start ≤ i.end
  pub high : i.end ≤ e

-- this holds for each element of a forest
pub in_text : (n s : ℕ) (p : Option ℕ) (f : Forest) (i : ℕ) → i < element_count f → IsBetween s (s + length (text_of f)) (at n s p f i)
in_text n s p empty i l = absurd (omega arith)
in_text n s p (leaf k t f) zero l = record { low = omega arith; ordered = omega arith; high = omega (arith, length-append t (text_of f)) }
in_text n s p (leaf k t f) (suc i) l =
    let h = in_text (n + 1) (s + length t) p f i (omega arith) in
    record { low = omega (arith, h.low); ordered = h.ordered; high = omega (arith, h.high, length-append t (text_of f)) }
in_text n s p (node k c f) zero l = record { low = omega arith; ordered = omega arith; high = omega (arith, length-append (text_of c) (text_of f)) }
in_text n s p (node k c f) (suc i) l = elim (behind n s p k c f i) as (λ b. IsBetween s (s + length (text_of (node k c f))) (at n s p (node k c f) (suc i))) [
  | inside low e ↦
      let h = in_text (n + 1) s (Some n) c i low in
      subst (IsBetween s (s + length (text_of c ++ text_of f))) (sym e)
      (record { low = h.low; ordered = h.ordered; high = omega (arith, h.high, length-append (text_of c) (text_of f)) })
  | beyond high e ↦
      let h = in_text (n + 1 + element_count c) (s + length (text_of c)) p f (i - element_count c) (omega arith) in
      subst (IsBetween s (s + length (text_of c ++ text_of f))) (sym e)
      (record { low = omega (arith, h.low); ordered = h.ordered; high = omega (arith, h.high, length-append (text_of c) (text_of f)) })
]

-- an element before another starts no later, and ends no later than the other starts unless the other is inside it
pub record IsBefore (i : ℕ) (a : Item) (j : ℕ) (b : Item) : Type 0 where
  pub starts : a.start ≤ b.start
  pub ends : i + a.below < j → a.end ≤ b.start

-- this holds for any two elements of a forest
pub in_order : (n s : ℕ) (p : Option ℕ) (f : Forest) (i j : ℕ) → i < j → j < element_count f → IsBefore i (at n s p f i) j (at n s p f j)
in_order n s p empty i j l h = absurd (omega arith)
in_order n s p f i zero l h = absurd (omega arith)
in_order n s p (leaf k t f) zero (suc j) l h =
    let b = in_text (n + 1) (s + length t) p f j (omega arith) in
    record { starts = omega (arith, b.low); ends = λ x. b.low }
in_order n s p (leaf k t f) (suc i) (suc j) l h =
    let o = in_order (n + 1) (s + length t) p f i j (omega arith) (omega arith) in
    record { starts = o.starts; ends = λ x. o.ends (omega arith) }
in_order n s p (node k c f) zero (suc j) l h =
    elim (behind n s p k c f j) as (λ b. IsBefore 0 (at n s p (node k c f) 0) (suc j) (at n s p (node k c f) (suc j))) [
      | inside low e ↦
          let b = in_text (n + 1) s (Some n) c j low in
          let start = ap (λ (x : Item). x.start) e in
          record { starts = omega (arith, start, b.low); ends = λ x. absurd (omega arith) }
      | beyond high e ↦
          let b = in_text (n + 1 + element_count c) (s + length (text_of c)) p f (j - element_count c) (omega arith) in
          let start = ap (λ (x : Item). x.start) e in
          record { starts = omega (arith, start, b.low); ends = λ x. omega (arith, start, b.low) }
    ]
in_order n s p (node k c f) (suc i) (suc j) l h =
    elim (behind n s p k c f i) as (λ b. IsBefore (suc i) (at n s p (node k c f) (suc i)) (suc j) (at n s p (node k c f) (suc j))) [
      | inside low e ↦
          elim (behind n s p k c f j) as (λ b. IsBefore (suc i) (at n s p (node k c f) (suc i)) (suc j) (at n s p (node k c f) (suc j))) [
            | inside less g ↦
                let o = in_order (n + 1) s (Some n) c i j (omega arith) less in
                both i j _ _ _ _ e g o
            | beyond more g ↦
                let a = in_text (n + 1) s (Some n) c i low in
                let b = in_text (n + 1 + element_count c) (s + length (text_of c)) p f (j - element_count c) (omega arith) in
                apart (suc i) (suc j) _ _ _ _ e g (omega (arith, a.ordered, a.high, b.low)) (omega (arith, a.high, b.low))
          ]
      | beyond high e ↦
          elim (behind n s p k c f j) as (λ b. IsBefore (suc i) (at n s p (node k c f) (suc i)) (suc j) (at n s p (node k c f) (suc j))) [
            | inside less g ↦ absurd (omega arith)
            | beyond more g ↦
                let o = in_order (n + 1 + element_count c) (s + length (text_of c)) p f (i - element_count c) (j - element_count c) (omega arith)
                (omega arith) in
                shifted (element_count c) i j _ _ _ _ high more e g o
          ]
    ]
  where
    both : (i j : ℕ) (a b x y : Item) → x ≡ a → y ≡ b → IsBefore i a j b → IsBefore (suc i) x (suc j) y
    both i j a b x y e g o =
        let below = ap (λ (z : Item). z.below) e in
        record {
          starts = omega (arith, o.starts, ap (λ (z : Item). z.start) e, ap (λ (z : Item). z.start) g);
          ends = λ h. (let r = o.ends (omega (arith, below)) in omega (arith, r, ap (λ (z : Item). z.end) e, ap (λ (z : Item). z.start) g));
        }

    shifted : (k i j : ℕ) (a b x y : Item) → k ≤ i → k ≤ j → x ≡ a → y ≡ b → IsBefore (i - k) a (j - k) b → IsBefore (suc i) x (suc j) y
    shifted k i j a b x y l m e g o =
        let below = ap (λ (z : Item). z.below) e in
        record {
          starts = omega (arith, o.starts, ap (λ (z : Item). z.start) e, ap (λ (z : Item). z.start) g);
          ends = λ h. (let r = o.ends (omega (arith, below)) in omega (arith, r, ap (λ (z : Item). z.end) e, ap (λ (z : Item). z.start) g));
        }

    apart : (i j : ℕ) (a b x y : Item) → x ≡ a → y ≡ b → a.start ≤ b.start → a.end ≤ b.start → IsBefore i x j y
    apart i j a b x y e g starts ends = record {
      starts = omega (arith, starts, ap (λ (z : Item). z.start) e, ap (λ (z : Item). z.start) g);
      ends = λ h. omega (arith, ends, ap (λ (z : Item). z.end) e, ap (λ (z : Item). z.start) g);
    }

-- a leaf of a forest whose range contains the byte before the offset
pub record HasLeft (n s : ℕ) (p : Option ℕ) (f : Forest) (o : ℕ) : Type 0 where
  pub index : ℕ
  pub there : index < element_count f
  pub token : (at n s p f index).is_node ≡ false
  pub low : (at n s p f index).start < o
  pub high : o ≤ (at n s p f index).end

-- each byte of a forest's text is in a leaf
pub has_left : (n s : ℕ) (p : Option ℕ) (f : Forest) (o : ℕ) → s < o → o ≤ s + length (text_of f) → HasLeft n s p f o
has_left n s p empty o l h = absurd (omega arith)
has_left n s p (leaf k t f) o l h = elim (cases_lt (s + length t) o) [
  | inl later ↦
      let r = has_left (n + 1) (s + length t) p f o later (omega (arith, length-append t (text_of f))) in
      record { index = suc r.index; there = omega (arith, r.there); token = r.token; low = r.low; high = r.high }
  | inr here ↦ record { index = 0; there = omega arith; token = refl; low = l; high = here }
]
has_left n s p (node k c f) o l h = elim (cases_lt (s + length (text_of c)) o) [
  | inl later ↦
      let r = has_left (n + 1 + element_count c) (s + length (text_of c)) p f o later (omega (arith, length-append (text_of c) (text_of f))) in
      let back : element_count c + r.index - element_count c ≡ r.index = omega arith in
      elim (behind n s p k c f (element_count c + r.index)) as (λ b. HasLeft n s p (node k c f) o) [
        | inside low e ↦ absurd (omega arith)
        | beyond high e ↦
            let same = e ∙ ap (at (n + 1 + element_count c) (s + length (text_of c)) p f) back in
            record {
              index = suc (element_count c + r.index);
              there = omega (arith, r.there);
              token = ap (λ (x : Item). x.is_node) same ∙ r.token;
              low = omega (arith, r.low, ap (λ (x : Item). x.start) same);
              high = omega (arith, r.high, ap (λ (x : Item). x.end) same);
            }
      ]
  | inr here ↦
      let r = has_left (n + 1) s (Some n) c o l here in
      elim (behind n s p k c f r.index) as (λ b. HasLeft n s p (node k c f) o) [
        | inside low e ↦ record {
          index = suc r.index;
          there = omega (arith, r.there);
          token = ap (λ (x : Item). x.is_node) e ∙ r.token;
          low = omega (arith, r.low, ap (λ (x : Item). x.start) e);
          high = omega (arith, r.high, ap (λ (x : Item). x.end) e);
        }
        | beyond high e ↦ absurd (omega (arith, r.there))
      ]
]
