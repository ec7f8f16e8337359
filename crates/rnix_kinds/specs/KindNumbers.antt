-- The numbers that represent sets of kinds.
use Rattle.std.specs.Prelude.{ℕ, ◌≡◌, ◌<◌, ◌^◌, ◌+◌, ◌*◌, ◌/◌, ◌==◌, ◌&&◌, ◌||◌, Bool, true, false, List, [], ◌∷◌, length, if◌then◌else◌, refl}
use Rattle.std.proofs.Common.{zero, suc, ap, sym, ◌∙◌, arith, get_or}
use Rattle.std.specs.Int.{bit_at}
use Rattle.std.specs.List.{list_all, list_any}
use Rattle.std.specs.Ordering.{eq_by_cmp}
use Rattle.std.specs.declared.cmp.Ordering.TheVariants.{Equal}
use Rattle.std.specs.Cmp.{IsEquivalence, IsTotalOrder, nat_eq_equiv, on_equiv, on_total, nat_cmp_total, unsigned_tied}
use Rattle.std.specs.FinSet as set
use Rattle.std.specs.FinSet.{nat_cmp-IsAntisymmetric, contains-retain, contains-from_list}
use Rattle.std.proofs.lemmas.Bool.{and_parts}
use Rattle.std.proofs.lemmas.Bool.Decides.{Decides-eqb}
use Rattle.std.proofs.Math.Nat.{pow-succ'}
use Rattle.std.proofs.lemmas.Nat.Bits.{bit_at-lt, bit_at_lowest, bit_at-suc, same_from_bits_below}
use Rattle.rnix_kinds.specs.declared.kinds.SyntaxKind.{SyntaxKind}
use Rattle.rnix_kinds.specs.declared.kinds.SyntaxKind.TheVariants.{TOKEN_ADD}
use Rattle.rnix_kinds.specs.declared.kinds.TheConstants.{ALL}
use Rattle.rnix_kinds.specs.SyntaxKind.{kind_count, discriminant_of}
use Rattle.rnix_kinds.specs.TokenSet.{kind_cmp, KindSet, set_of}

-- a bit that is set or not
abbrev pub as_bit : Bool → ℕ
as_bit b = if b then 1 else 0

-- the kinds whose bits are set in a number
pub kinds_of : ℕ → KindSet
kinds_of number = set.retain (set_of ALL) (λ kind. bit_at number (discriminant_of kind) == 1)

-- the number with a bit for each kind of a list that passes, the first kind's bit the lowest
abbrev number_from : (SyntaxKind → Bool) → List SyntaxKind → ℕ
number_from passes [] = 0
number_from passes (kind ∷ kinds) = as_bit (passes kind) + 2 * number_from passes kinds

-- the number with a bit for each kind in the set
pub number_of : KindSet → ℕ
number_of kinds = number_from (set.contains kinds) ALL

-- two sets have the same number
abbrev pub same_number : KindSet → KindSet → Bool
same_number a b = number_of a == number_of b

-- having the same number is an equivalence
pub same_number_laws : IsEquivalence same_number
same_number_laws = on_equiv number_of nat_eq_equiv

-- the order of kinds is total
pub kind_cmp_total : IsTotalOrder kind_cmp
unfolding kind_cmp
kind_cmp_total = on_total discriminant_of nat_cmp_total

-- two kinds are equal in the order exactly if they have the same discriminant
pub tied_by_discriminant : (a b : SyntaxKind) → eq_by_cmp kind_cmp a b ≡ (discriminant_of a == discriminant_of b)
unfolding kind_cmp
tied_by_discriminant a b = unsigned_tied (discriminant_of a) (discriminant_of b)

-- a kind is in the set of a list exactly if a kind of the list has its discriminant
pub contains-set_of : (kinds : List SyntaxKind) (kind : SyntaxKind) → set.contains (set_of kinds) kind
    ≡ list_any (λ k. discriminant_of kind == discriminant_of k) kinds
contains-set_of kinds kind = contains-from_list kind_cmp_total kinds kind ∙ same_any kinds
  where
    same_any : (ks : List SyntaxKind) → list_any (eq_by_cmp kind_cmp kind) ks ≡ list_any (λ k. discriminant_of kind == discriminant_of k) ks
    same_any [] = refl
    same_any (k ∷ ks) = λ i. tied_by_discriminant kind k i || same_any ks i

as_bit_back : (n : ℕ) → n < 2 → as_bit (n == 1) ≡ n
as_bit_back zero low = refl
as_bit_back (suc zero) low = refl
as_bit_back (suc (suc n)) low = absurd (omega arith)

as_bit-lt : (b : Bool) → as_bit b < 2
as_bit-lt true = omega arith
as_bit-lt false = omega arith

-- the bit at i is set exactly if the kind at i passes
number_from-bit : (passes : SyntaxKind → Bool) (kinds : List SyntaxKind) (i : ℕ) (d : SyntaxKind) → i < length kinds
    → bit_at (number_from passes kinds) i ≡ as_bit (passes (get_or kinds i d))
number_from-bit passes [] i d l = absurd (omega arith)
number_from-bit passes (k ∷ ks) zero d l =
    let low : as_bit (passes k) < 2 = as_bit-lt (passes k) in
    bit_at_lowest (number_from passes (k ∷ ks)) ∙ (omega arith)
number_from-bit passes (k ∷ ks) (suc i) d l =
    let low : as_bit (passes k) < 2 = as_bit-lt (passes k) in
    let half : number_from passes (k ∷ ks) / 2 ≡ number_from passes ks = omega arith in
    bit_at-suc (number_from passes (k ∷ ks)) i ∙ ap (λ n. bit_at n i) half ∙ number_from-bit passes ks i d (omega arith)

number_from-lt : (passes : SyntaxKind → Bool) (kinds : List SyntaxKind) → number_from passes kinds < 2 ^ length kinds
number_from-lt passes [] = omega arith
number_from-lt passes (k ∷ ks) =
    let low : as_bit (passes k) < 2 = as_bit-lt (passes k) in
    let more : number_from passes ks < 2 ^ length ks = number_from-lt passes ks in
    let power : 2 ^ suc (length ks) ≡ 2 * 2 ^ length ks = pow-succ' 2 (length ks) in
    omega (arith, power)

-- the discriminants of the kinds in a list are n and the numbers after it, in order
abbrev have_discriminants : ℕ → List SyntaxKind → Bool
have_discriminants n [] = true
have_discriminants n (k ∷ ks) = discriminant_of k == n && have_discriminants (suc n) ks

discriminant_at : (n i : ℕ) (kinds : List SyntaxKind) (d : SyntaxKind) → have_discriminants n kinds ≡ true → i < length kinds
    → discriminant_of (get_or kinds i d) ≡ n + i
discriminant_at n i [] d h l = absurd (omega arith)
discriminant_at n zero (k ∷ ks) d h l = (Decides-eqb (discriminant_of k) n).0 (and_parts (discriminant_of k == n) _ h).0 ∙ (omega arith)
discriminant_at n (suc i) (k ∷ ks) d h l = discriminant_at (suc n) i ks d (and_parts (discriminant_of k == n) _ h).1 (omega arith) ∙ (omega arith)

all_at : (test : SyntaxKind → Bool) (kinds : List SyntaxKind) (i : ℕ) (d : SyntaxKind) → list_all test kinds ≡ true → i < length kinds
    → test (get_or kinds i d) ≡ true
all_at test [] i d h l = absurd (omega arith)
all_at test (k ∷ ks) zero d h l = (and_parts (test k) (list_all test ks) h).0
all_at test (k ∷ ks) (suc i) d h l = all_at test ks i d (and_parts (test k) (list_all test ks) h).1 (omega arith)

-- kinds that are equal in the order have the same bit in a number
same_bit : (n : ℕ) (a b : SyntaxKind) → kind_cmp a b ≡ Equal → (bit_at n (discriminant_of b) == 1) ≡ (bit_at n (discriminant_of a) == 1)
unfolding kind_cmp
same_bit n a b e = ap (λ p. bit_at n p == 1) (sym (nat_cmp-IsAntisymmetric (discriminant_of a) (discriminant_of b) e))

-- the kinds of a number are all those whose bits are set in it
pub contains-kinds_of : (n : ℕ) (kind : SyntaxKind) → set.contains (kinds_of n) kind ≡ (set.contains (set_of ALL) kind && bit_at n (discriminant_of kind) == 1)
unfolding kinds_of
contains-kinds_of n kind = contains-retain (set_of ALL) (λ k. bit_at n (discriminant_of k) == 1) kind (same_bit n kind)

-- the bit at i of a set's number is set exactly if the set contains the kind at i
pub bit_at-number_of : (kinds : KindSet) (i : ℕ) (d : SyntaxKind) → i < kind_count → bit_at (number_of kinds) i ≡ as_bit (set.contains kinds (get_or ALL i d))
unfolding number_of
bit_at-number_of kinds i d l = number_from-bit (set.contains kinds) ALL i d l

number_of-lt : (kinds : KindSet) → number_of kinds < 2 ^ kind_count
unfolding number_of
number_of-lt kinds = number_from-lt (set.contains kinds) ALL

-- a number that has bits for kinds only is the number of the kinds whose bits are set in it
pub number_of-kinds_of : (n : ℕ) → n < 2 ^ kind_count → number_of (kinds_of n) ≡ n
number_of-kinds_of n low = same_from_bits_below kind_count (number_of (kinds_of n)) n (number_of-lt (kinds_of n)) low bits
  where
    bits : (i : ℕ) → i < kind_count → bit_at (number_of (kinds_of n)) i ≡ bit_at n i
    bits i l =
        let kind : SyntaxKind = get_or ALL i TOKEN_ADD in
        let index_is : discriminant_of kind ≡ i = discriminant_at 0 i ALL TOKEN_ADD refl l ∙ (omega arith) in
        let all : set.contains (set_of ALL) kind ≡ true =
        contains-set_of ALL kind ∙ all_at (λ k. list_any (λ a. discriminant_of k == discriminant_of a) ALL) ALL i TOKEN_ADD refl l in
        bit_at-number_of (kinds_of n) i TOKEN_ADD l
        ∙ ap as_bit (contains-kinds_of n kind ∙ ap (λ b. b && bit_at n (discriminant_of kind) == 1) all ∙ ap (λ p. bit_at n p == 1) index_is)
        ∙ as_bit_back (bit_at n i) (bit_at-lt n i)
