-- Sets of kinds, and the numbers that represent them.
use Rattle.std.proofs.Common.{true, false, Bool, ◌≡◌, inl, inr, ℕ, zero, suc, ◌*◌, ◌^◌, ◌%◌, ◌<◌, max, refl, ap, sym, ◌∙◌, arith, bit_and, bit_or, List, []}
use Rattle.std.proofs.{Common.{◌∷◌, ◌++◌}, lemmas.{Map.Views.{Contains-from_any, list_any-from_Contains}, Nat.{pow_pos, Bits.{and_pow, bit_at-lt, bit_at_or}}}}
use Rattle.std.proofs.{lemmas.{Nat.Bits.{bit_at-zero, bit_at-pow_same, bit_at-pow_other}, Bool.Decides.{eqb_tells, Decides-eqb, Decides-like}}, Math.Pow.pow-lt}
use Rattle.std.specs.{Prelude.{nat_eq, not, ◌==◌, ◌||◌, ◌&&◌}, Int.bit_at, Bool.Decides, List.{Contains, list_any}, Ordering.eq_by_cmp, Cmp.eq_by_cmp_equiv}
use Rattle.std.specs.FinSet.{contains, union, insert, empty, IsAntisymmetric, nat_cmp-IsAntisymmetric, same_set, contains-from_list, contains-insert}
use Rattle.{std.specs.FinSet.{contains-union, contains-empty, from_list_push}, rnix_kinds.specs.declared.kinds.{SyntaxKind.SyntaxKind, TheConstants.ALL}}
use Rattle.rnix_kinds.specs.{contracts.kinds.SyntaxKind.the_type, SyntaxKind.{kind_count, discriminant_of}, TokenSet.{kind_cmp, KindSet, set_of}, KindNumbers.as_bit}
use Rattle.rnix_kinds.specs.KindNumbers.{kinds_of, number_of, same_number, kind_cmp_total, tied_by_discriminant, contains-set_of, contains-kinds_of, bit_at-number_of}
use Rattle.rnix_kinds.proofs.AllKinds.{every, discriminant_in_range, kind_at_discriminant, same_discriminant}
use denote.Enum.Declared.{tag_of}

-- two kinds that compare as equal are equal
pub kind_cmp_same : IsAntisymmetric kind_cmp
unfolding kind_cmp
kind_cmp_same a b e = same_discriminant a b (nat_cmp-IsAntisymmetric (discriminant_of a) (discriminant_of b) e)

-- sets with the same members are equal
pub same_members : (a b : KindSet) → ((kind : SyntaxKind) → contains a kind ≡ contains b kind) → a ≡ b
same_members = same_set kind_cmp_total kind_cmp_same

-- a kind is in the set of some kinds exactly if it is one of them
pub contains-decides : (kinds : List SyntaxKind) (kind : SyntaxKind) → Decides (contains (set_of kinds) kind) (Contains kinds kind)
contains-decides kinds kind = (
  λ e. Contains-from_any same_tied kind kinds (sym (contains-from_list kind_cmp_total kinds kind) ∙ e),
  λ c. contains-from_list kind_cmp_total kinds kind ∙ list_any-from_Contains (eq_by_cmp_equiv kind_cmp_total) kind kinds c,
)
  where
    same_tied : (a b : SyntaxKind) → eq_by_cmp kind_cmp a b ≡ true → a ≡ b
    same_tied a b e = same_discriminant a b ((Decides-eqb (discriminant_of a) (discriminant_of b)).0 (sym (tied_by_discriminant a b) ∙ e))

-- each kind is in the set of all kinds
pub among_all : (kind : SyntaxKind) → contains (set_of ALL) kind ≡ true
among_all kind = contains-set_of ALL kind ∙ every (λ k. list_any (λ a. discriminant_of k == discriminant_of a) ALL) refl kind

-- a kind is in the set of a number exactly if its bit is set
pub has_bit : (n : ℕ) (kind : SyntaxKind) → contains (kinds_of n) kind ≡ (bit_at n (discriminant_of kind) == 1)
has_bit n kind = contains-kinds_of n kind ∙ ap (λ b. b && bit_at n (discriminant_of kind) == 1) (among_all kind)

-- the larger of two bits is set exactly if one of them is
either_bit : (x y : ℕ) → x < 2 → y < 2 → (max x y == 1) ≡ (x == 1 || y == 1)
either_bit zero zero l m = refl
either_bit zero (suc zero) l m = refl
either_bit (suc zero) zero l m = refl
either_bit (suc zero) (suc zero) l m = refl
either_bit (suc (suc x)) y l m = absurd (omega arith)
either_bit x (suc (suc y)) l m = absurd (omega arith)

-- the set of two numbers joined by `|` is the union of their sets
pub kinds_of-or : (a b : ℕ) → kinds_of (bit_or a b) ≡ union (kinds_of a) (kinds_of b)
kinds_of-or a b = same_members _ _ (λ kind.
    has_bit (bit_or a b) kind
    ∙ ap (λ n. n == 1) (bit_at_or a b (discriminant_of kind))
    ∙ either_bit (bit_at a (discriminant_of kind)) (bit_at b (discriminant_of kind)) (bit_at-lt a (discriminant_of kind)) (bit_at-lt b (discriminant_of kind))
    ∙ (λ i. sym (has_bit a kind) i || sym (has_bit b kind) i)
    ∙ sym (contains-union kind_cmp_total (kinds_of a) (kinds_of b) kind))

-- the set of 0 is empty
pub kinds_of-zero : kinds_of 0 ≡ empty
kinds_of-zero = same_members _ _ (λ kind. has_bit 0 kind ∙ ap (λ n. n == 1) (bit_at-zero (discriminant_of kind)) ∙ sym (contains-empty kind_cmp kind))

-- a power of two has one bit
power_bit : (p k : ℕ) → (bit_at (2 ^ p) k == 1) ≡ ((k == p) || false)
power_bit p k = elim (eqb_tells k p) [
  | inl (t, e) ↦ ap (λ n. bit_at (2 ^ p) n == 1) e ∙ ap (λ n. n == 1) (bit_at-pow_same p) ∙ sym (ap (λ b. b || false) t)
  | inr (t, d) ↦ ap (λ n. n == 1) (bit_at-pow_other p k d) ∙ sym (ap (λ b. b || false) t)
]

-- the number that the code makes for a kind is a power of two
kind_bit : (kind : SyntaxKind) → 1 * 2 ^ tag_of the_type kind % 2 ^ 128 ≡ 2 ^ discriminant_of kind
kind_bit kind =
    let low : discriminant_of kind < kind_count = discriminant_in_range kind in
    let fits : 2 ^ discriminant_of kind < 2 ^ 128 = pow-lt {i = discriminant_of kind} {j = 128} (omega arith) in
    omega arith

-- the set of a kind's bit is that of this kind alone
pub kinds_of-one : (only : SyntaxKind) → kinds_of (1 * 2 ^ tag_of the_type only % 2 ^ 128) ≡ set_of (only ∷ [])
kinds_of-one only = ap kinds_of (kind_bit only) ∙ same_members _ _ (λ kind.
    has_bit (2 ^ discriminant_of only) kind
    ∙ power_bit (discriminant_of only) (discriminant_of kind)
    ∙ sym (contains-set_of (only ∷ []) kind))

-- a bit in any place is nonzero exactly if it is set
masked : (b m : ℕ) → b < 2 → 0 < m → not (nat_eq (b * m) 0) ≡ (b == 1)
masked zero m l p = ap (λ n. not (nat_eq n 0)) (let z : zero * m ≡ 0 = omega arith in z)
masked (suc zero) m l p = elim (eqb_tells (1 * m) 0) [ inl (t, e) ↦ absurd (omega arith) | inr (t, d) ↦ ap not t ]
masked (suc (suc b)) m l p = absurd (omega arith)

-- the test of a kind's bit decides whether the kind is in the set of the number
pub tests_bit : (n : ℕ) (kind : SyntaxKind) → not (nat_eq (bit_and n (1 * 2 ^ tag_of the_type kind % 2 ^ 128)) 0) ≡ contains (kinds_of n) kind
tests_bit n kind =
    ap (λ m. not (nat_eq (bit_and n m) 0)) (kind_bit kind)
    ∙ ap (λ m. not (nat_eq m 0)) (and_pow n (discriminant_of kind))
    ∙ masked (bit_at n (discriminant_of kind)) (2 ^ discriminant_of kind) (bit_at-lt n (discriminant_of kind)) (pow_pos (discriminant_of kind))
    ∙ sym (has_bit n kind)

joined_test : (a b : Bool) → (a || (b || false)) ≡ (b || a)
joined_test true true = refl
joined_test true false = refl
joined_test false true = refl
joined_test false false = refl

one_test : (a b : Bool) → ((a || false) || b) ≡ (a || b)
one_test true b = refl
one_test false b = refl

-- a union with one kind inserts this kind
pub union-one : (set : KindSet) (only : SyntaxKind) → union set (set_of (only ∷ [])) ≡ insert set only
union-one set only = same_members _ _ (λ kind.
    contains-union kind_cmp_total set (set_of (only ∷ [])) kind
    ∙ ap (λ b. contains set kind || b) (contains-from_list kind_cmp_total (only ∷ []) kind)
    ∙ joined_test (contains set kind) (eq_by_cmp kind_cmp kind only)
    ∙ sym (contains-insert kind_cmp_total set only kind))

-- so does a union of one kind with a set
pub one-union : (only : SyntaxKind) (set : KindSet) → union (set_of (only ∷ [])) set ≡ insert set only
one-union only set = same_members _ _ (λ kind.
    contains-union kind_cmp_total (set_of (only ∷ [])) set kind
    ∙ ap (λ b. b || contains set kind) (contains-from_list kind_cmp_total (only ∷ []) kind)
    ∙ one_test (eq_by_cmp kind_cmp kind only) (contains set kind)
    ∙ sym (contains-insert kind_cmp_total set only kind))

-- the set of some kinds and one more is their set with this one inserted
pub set_of_more : (kinds : List SyntaxKind) (kind : SyntaxKind) → set_of (kinds ++ kind ∷ []) ≡ insert (set_of kinds) kind
set_of_more = from_list_push kind_cmp_total kind_cmp_same

as_bit_test : (b : Bool) → (as_bit b == 1) ≡ b
as_bit_test true = refl
as_bit_test false = refl

number_of-bit : (set : KindSet) (kind : SyntaxKind) → bit_at (number_of set) (discriminant_of kind) ≡ as_bit (contains set kind)
number_of-bit set kind = bit_at-number_of set (discriminant_of kind) kind (discriminant_in_range kind)
    ∙ ap (λ k. as_bit (contains set k)) (kind_at_discriminant kind kind)

-- the set of a set's number is the set
pub kinds_of-number_of : (set : KindSet) → kinds_of (number_of set) ≡ set
kinds_of-number_of set = same_members _ _ (λ kind. has_bit (number_of set) kind ∙ ap (λ n. n == 1) (number_of-bit set kind) ∙ as_bit_test (contains set kind))

-- sets are equal exactly if their numbers are
pub same_number-decides : (a b : KindSet) → Decides (same_number a b) (a ≡ b)
same_number-decides a b = Decides-like (same_number a b) (λ e. sym (kinds_of-number_of a) ∙ ap kinds_of e ∙ kinds_of-number_of b) (ap number_of)
    (Decides-eqb (number_of a) (number_of b))

-- sets have the same number exactly if they have the same members
pub same_number-members : (a b : KindSet) → Decides (same_number a b) ((kind : SyntaxKind) → contains a kind ≡ contains b kind)
same_number-members a b =
    (λ e kind. ap (λ s. contains s kind) ((same_number-decides a b).0 e), λ same. (same_number-decides a b).1 (same_members a b same))
