-- What the branches of a map have at its keys.
use Rattle.std.proofs.Common.{◌≡◌, ℕ, zero, suc, ◌/◌, ◌%◌, ◌<◌, ◌≤◌, ◌^◌, List, [], ◌∷◌, ◌++◌, length, Bool, true, false, refl, ap, sym, ◌∙◌, subst, arith, inl, inr, ◌⊎◌, ◌==◌}
use Rattle.std.proofs.lemmas.List.{get_or_append_left, length_push}
use Rattle.std.proofs.Math.Seq.{get_or-append_seam}
use Rattle.std.proofs.lemmas.Bool.{Decides.nat_tests}
use Rattle.std.specs.Prelude.{if◌then◌else◌}
use Rattle.nix_scopes.specs.declared.trie.Branch.{Branch}
use Rattle.nix_scopes.specs.BitTries.{key_bits, branch_at, side, value_at, IsWithin, IsMap, IsUpdated}

-- one bit further
pub value_next : (bits left : ℕ) (branches : List Branch) (root key : ℕ) → bits ≡ suc left →
    value_at bits branches root key ≡ value_at left branches (side (branch_at branches root) (key % 2)) (key / 2)
unfolding value_at
value_next bits left branches root key is = ap (λ n. value_at n branches root key) is

-- no bits remain
pub value_last : (bits : ℕ) (branches : List Branch) (root key : ℕ) → bits ≡ 0 → value_at bits branches root key ≡ root
unfolding value_at
value_last bits branches root key is = ap (λ n. value_at n branches root key) is

within_next : (bits : ℕ) (branches : List Branch) (root key : ℕ) → IsWithin (suc bits) branches root key →
    (root < length branches) × IsWithin bits branches (side (branch_at branches root) (key % 2)) (key / 2)
unfolding IsWithin
within_next bits branches root key h = h

within_more : (bits : ℕ) (branches : List Branch) (root key : ℕ) → root < length branches →
    IsWithin bits branches (side (branch_at branches root) (key % 2)) (key / 2) → IsWithin (suc bits) branches root key
unfolding IsWithin
within_more bits branches root key low h = (low, h)

-- the old branches are the first of the new ones
pub record Extends (old new : List Branch) : Type 0 where
  pub longer : length old ≤ length new
  pub same : (number : ℕ) → number < length old → branch_at new number ≡ branch_at old number

pub extends_same : (branches : List Branch) → Extends branches branches
extends_same branches = record { longer = omega arith; same = λ n l. refl }

pub extends_push : (old new more : List Branch) (branch : Branch) → Extends old new → more ≡ new ++ branch ∷ [] → Extends old more
extends_push old new more branch h is = record {
  longer = omega (arith, h.longer, ap length is, length_push new branch);
  same = λ n l. ap (λ bs. branch_at bs n) is
      ∙ get_or_append_left new (branch ∷ []) record { even = 0; odd = 0 } n (omega (arith, l, h.longer)) ∙ h.same n l;
}

pub extends_less : (new more final : List Branch) (branch : Branch) → more ≡ new ++ branch ∷ [] → Extends more final → Extends new final
extends_less new more final branch is h = record {
  longer = omega (arith, h.longer, ap length is, length_push new branch);
  same = λ n l. h.same n (omega (arith, l, ap length is, length_push new branch)) ∙ ap (λ bs. branch_at bs n) is
      ∙ get_or_append_left new (branch ∷ []) record { even = 0; odd = 0 } n l;
}

-- added branches leave a map as it is
value_kept : (bits : ℕ) (old new : List Branch) (root key : ℕ) → Extends old new → IsWithin bits old root key →
    value_at bits new root key ≡ value_at bits old root key
unfolding value_at IsWithin
value_kept zero old new root key h within = refl
value_kept (suc bits) old new root key h within =
    ap (λ (b : Branch). value_at bits new (side b (key % 2)) (key / 2)) (h.same root within.0)
    ∙ value_kept bits old new (side (branch_at old root) (key % 2)) (key / 2) h within.1

within_kept : (bits : ℕ) (old new : List Branch) (root key : ℕ) → Extends old new → IsWithin bits old root key → IsWithin bits new root key
unfolding IsWithin
within_kept zero old new root key h within = tt
within_kept (suc bits) old new root key h within = (
  omega (arith, h.longer, within.0),
  subst (λ (b : Branch). IsWithin bits new (side b (key % 2)) (key / 2)) (sym (h.same root within.0))
      (within_kept bits old new (side (branch_at old root) (key % 2)) (key / 2) h within.1),
)

-- the way to a key of the new map: at each branch the other side is that of the old map
unfoldable pub IsWay : ℕ → List Branch → List Branch → ℕ → ℕ → ℕ → ℕ → Type 0
IsWay zero old new root made key number = made ≡ number
IsWay (suc bits) old new root made key number =
    (made < length new)
    × ((b : ℕ) → ((b == 0) ≡ ((key % 2) == 0)) ⊎ (side (branch_at new made) b ≡ side (branch_at old root) b))
    × IsWay bits old new (side (branch_at old root) (key % 2)) (side (branch_at new made) (key % 2)) (key / 2) number

-- at the key the new map has the number
way_own : (bits : ℕ) (old new : List Branch) (root made key number : ℕ) → IsWay bits old new root made key number → value_at bits new made key ≡ number
unfolding value_at IsWay
way_own zero old new root made key number way = way
way_own (suc bits) old new root made key number way =
    way_own bits old new (side (branch_at old root) (key % 2)) (side (branch_at new made) (key % 2)) (key / 2) number way.2

same_side : (b : Branch) (i j : ℕ) → (i == 0) ≡ (j == 0) → side b i ≡ side b j
same_side b i j is = ap (λ e. if e then b.even else b.odd) is

-- two numbers are equal if their halves and their lowest bits are
same_number : (i j : ℕ) → ((i % 2) == 0) ≡ ((j % 2) == 0) → i / 2 ≡ j / 2 → i ≡ j
same_number i j low high = grind (arith, nat_tests, low, high)

half_low : (bits k : ℕ) → k < 2 ^ suc bits → k / 2 < 2 ^ bits
half_low bits k l = omega (arith, l)

-- at every other key the new map is like the old one
way_rest : (bits : ℕ) (old new : List Branch) (root made key number k : ℕ) → Extends old new → IsWay bits old new root made key number →
    IsWithin bits old root k → k < 2 ^ bits → key < 2 ^ bits → (k ≡ key → ⊥) → value_at bits new made k ≡ value_at bits old root k
unfolding value_at IsWay IsWithin
way_rest zero old new root made key number k h way within low high other = absurd (other (omega (arith, low, high)))
way_rest (suc bits) old new root made key number k h way within low high other = elim (way.1 (k % 2)) [
  | inl same ↦
      ap (λ n. value_at bits new n (k / 2)) (same_side (branch_at new made) (k % 2) (key % 2) same)
      ∙ way_rest bits old new (side (branch_at old root) (key % 2)) (side (branch_at new made) (key % 2)) (key / 2) number (k / 2) h way.2
      (subst (λ n. IsWithin bits old n (k / 2)) (same_side (branch_at old root) (k % 2) (key % 2) same) within.1)
      (half_low bits k low) (half_low bits key high) (λ is. other (same_number k key same is))
      ∙ sym (ap (λ n. value_at bits old n (k / 2)) (same_side (branch_at old root) (k % 2) (key % 2) same))
  | inr aside ↦
      ap (λ n. value_at bits new n (k / 2)) aside
      ∙ value_kept bits old new (side (branch_at old root) (k % 2)) (k / 2) h within.1
]

-- all branches of the new map are there
way_within : (bits : ℕ) (old new : List Branch) (root made key number k : ℕ) → Extends old new → IsWay bits old new root made key number →
    IsWithin bits old root k → IsWithin bits new made k
unfolding IsWay IsWithin
way_within zero old new root made key number k h way within = tt
way_within (suc bits) old new root made key number k h way within = (
  way.0,
  elim (way.1 (k % 2)) [
    | inl same ↦
        subst (λ n. IsWithin bits new n (k / 2)) (sym (same_side (branch_at new made) (k % 2) (key % 2) same))
        (way_within bits old new (side (branch_at old root) (key % 2)) (side (branch_at new made) (key % 2)) (key / 2) number (k / 2) h way.2
        (subst (λ n. IsWithin bits old n (k / 2)) (same_side (branch_at old root) (k % 2) (key % 2) same) within.1))
    | inr aside ↦
        subst (λ n. IsWithin bits new n (k / 2)) (sym aside) (within_kept bits old new (side (branch_at old root) (k % 2)) (k / 2) h within.1)
  ],
)

-- one more branch on the way
pub way_more : (bits left : ℕ) (old now more final : List Branch) (root made key number next : ℕ) (branch was : Branch) → bits ≡ suc left → Extends old now →
    more ≡ now ++ branch ∷ [] → made ≡ length now → was ≡ branch_at now root → IsWithin bits old root key → side branch (key % 2) ≡ next →
    ((k : ℕ) → ((k == 0) ≡ ((key % 2) == 0)) ⊎ (side branch k ≡ side was k)) → Extends more final →
    IsWay left old final (side (branch_at old root) (key % 2)) next (key / 2) number → IsWay bits old final root made key number
unfolding IsWay IsWithin
way_more bits left old now more final root made key number next branch was is h pushed end was_is within own others later way =
    subst (λ n. IsWay n old final root made key number) (sym is)
    (omega (arith, end, later.longer, ap length pushed, length_push now branch), sides, way_next)
  where
    low : root < length old
    low = (subst (λ n. IsWithin n old root key) is within).0

    there : branch_at final made ≡ branch
    there =
        ap (branch_at final) end ∙ later.same (length now) (omega (arith, ap length pushed, length_push now branch))
        ∙ ap (λ bs. branch_at bs (length now)) pushed ∙ get_or-append_seam now branch [] record { even = 0; odd = 0 }

    sides : (b : ℕ) → ((b == 0) ≡ ((key % 2) == 0)) ⊎ (side (branch_at final made) b ≡ side (branch_at old root) b)
    sides b = elim (others b) [
      | inl same ↦ inl same
      | inr aside ↦ inr (ap (λ (x : Branch). side x b) there ∙ aside ∙ ap (λ (x : Branch). side x b) (was_is ∙ h.same root low))
    ]

    way_next : IsWay left old final (side (branch_at old root) (key % 2)) (side (branch_at final made) (key % 2)) (key / 2) number
    way_next = subst (λ n. IsWay left old final (side (branch_at old root) (key % 2)) n (key / 2) number)
        (sym (ap (λ (x : Branch). side x (key % 2)) there ∙ own)) way

-- the branches after the first are there
pub within_after : (bits left : ℕ) (old : List Branch) (root key : ℕ) → bits ≡ suc left → IsWithin bits old root key →
    (root < length old) × IsWithin left old (side (branch_at old root) (key % 2)) (key / 2)
unfolding IsWithin
within_after bits left old root key is h = subst (λ n. IsWithin n old root key) is h

-- a way without bits
pub way_last : (bits : ℕ) (old final : List Branch) (root made key number : ℕ) → bits ≡ 0 → made ≡ number → IsWay bits old final root made key number
unfolding IsWay
way_last bits old final root made key number is same = subst (λ n. IsWay n old final root made key number) (sym is) same

-- a map is updated where there is a way to its key
pub updated : (old new : List Branch) (root key number made : ℕ) → Extends old new →
    (IsMap old root → IsWay key_bits old new root made key number) → IsUpdated old new root key number made
updated old new root key number made h way = record {
  others = λ map is. (λ k. within_kept key_bits old new map k h (is k), λ k. value_kept key_bits old new map k h (is k));
  is_map = λ is k. way_within key_bits old new root made key number k h (way is) (is k);
  own = λ is. way_own key_bits old new root made key number (way is);
  rest = λ is k low high other. way_rest key_bits old new root made key number k h (way is) (is k) low high other;
}

empty_side : (branches : List Branch) (bit : ℕ) → branch_at branches 0 ≡ record { even = 0; odd = 0 } → side (branch_at branches 0) bit ≡ 0
empty_side branches bit is = ap (λ (b : Branch). side b bit) is ∙ both (bit == 0) 0
  where
    both : (e : Bool) (n : ℕ) → (if e then n else n) ≡ n
    both true n = refl
    both false n = refl

-- where the first branch is empty, the map 0 has nothing
empty_value : (bits : ℕ) (branches : List Branch) (key : ℕ) → branch_at branches 0 ≡ record { even = 0; odd = 0 } → value_at bits branches 0 key ≡ 0
unfolding value_at
empty_value zero branches key is = refl
empty_value (suc bits) branches key is =
    ap (λ n. value_at bits branches n (key / 2)) (empty_side branches (key % 2) is) ∙ empty_value bits branches (key / 2) is

empty_within : (bits : ℕ) (branches : List Branch) (key : ℕ) → 0 < length branches → branch_at branches 0 ≡ record { even = 0; odd = 0 } →
    IsWithin bits branches 0 key
unfolding IsWithin
empty_within zero branches key there is = tt
empty_within (suc bits) branches key there is =
    (there, subst (λ n. IsWithin bits branches n (key / 2)) (sym (empty_side branches (key % 2) is)) (empty_within bits branches (key / 2) there is))

pub empty_map : (branches : List Branch) → branches ≡ record { even = 0; odd = 0 } ∷ [] →
    IsMap branches 0 × ((key : ℕ) → value_at key_bits branches 0 key ≡ 0)
empty_map branches is =
    let first : branch_at branches 0 ≡ record { even = 0; odd = 0 } = ap (λ bs. branch_at bs 0) is in
    (λ key. empty_within key_bits branches key (omega (arith, ap length is)) first, λ key. empty_value key_bits branches key first)
