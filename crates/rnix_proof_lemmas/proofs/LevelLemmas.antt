-- Which kinds of operands fit which levels, and the binding powers of tokens.
use Rattle.std.{specs.List.list_all, proofs.{lemmas.Bool.{and_parts, cases_lt, agree_below_at, Decides.nat_tests}, Common.{◌≡◌, ◌⊎◌, inl, inr, ℕ}}}
use Rattle.std.proofs.Common.{zero, suc, ◌+◌, ◌≤◌, ◌<◌, Bool, true, false, refl, ap, sym, ◌∙◌, arith, ◌&&◌, if◌then◌else◌, nat_eq, nat_le}
use Rattle.rnix_kinds.{specs.declared.kinds.SyntaxKind.{SyntaxKind}, proofs.AllKinds.{all_kinds, every, implied}}
use Rattle.rnix_grammar.specs.{Levels.{binding_power, right_of, max_bp_of}, NodeClasses.{is_atom, is_simple, is_negated, is_questioned, is_operand}}
use Rattle.{rnix_grammar.specs.NodeClasses.{is_expression, fits, is_infix}}

-- every atom is simple
pub atom_simple : (k : SyntaxKind) → is_atom k ≡ true → is_simple k ≡ true
atom_simple = implied is_atom is_simple refl

-- from level 15 on a kind fits exactly if it may be an argument
fits_tight : (n : ℕ) (k : SyntaxKind) → 15 ≤ n → fits n k ≡ is_simple k
fits_tight n k l = by (nat_eq n 0) (nat_le n 12) (nat_eq n 13) (nat_eq n 14) (grind (arith, nat_tests, l)) (grind (arith, nat_tests, l))
    (grind (arith, nat_tests, l)) (grind (arith, nat_tests, l))
  where
    by : (x y z w : Bool) → x ≡ false → y ≡ false → z ≡ false → w ≡ false
        → (if x then is_expression k else (if y then is_operand k else
        (if z then is_questioned k else (if w then is_negated k else is_simple k)))) ≡ is_simple k
    by false false false false a b c d = refl
    by _ _ _ _ a b c d = absurd (cc)

-- a kind that fits a level fits the next looser one
fits_before : (n : ℕ) (k : SyntaxKind) → fits (suc n) k ≡ true → fits n k ≡ true
fits_before n k h = by (cases_lt n 15)
  where
    by : (n < 15) ⊎ (15 ≤ n) → fits n k ≡ true
    by (inl l) = implied (fits (suc n)) (fits n) (agree_below_at (λ m. list_all (λ k. if fits (suc m) k then fits m k else true) all_kinds)
        (λ m. true) 15 n refl l) k h
    by (inr l) = fits_tight n k l ∙ sym (fits_tight (suc n) k (omega (arith, l))) ∙ h

-- a kind that fits a level fits each looser one
pub fits_looser : (n m : ℕ) (k : SyntaxKind) → n ≤ m → fits m k ≡ true → fits n k ≡ true
fits_looser zero zero k l h = h
fits_looser (suc n) zero k l h = absurd (omega (arith, l))
fits_looser n (suc m) k l h = by (cases_lt n (suc m)) (λ o. fits_looser n m k o (fits_before m k h))
  where
    by : (n < suc m) ⊎ (suc m ≤ n) → (n ≤ m → fits n k ≡ true) → fits n k ≡ true
    by (inl o) more = more (omega (arith, o))
    by (inr o) more = let e : n ≡ suc m = omega (arith, l, o) in ap (λ i. fits i k) e ∙ h

-- a kind that may be an argument fits every level
pub simple_fits : (n : ℕ) (k : SyntaxKind) → is_simple k ≡ true → fits n k ≡ true
simple_fits n k h = fits_looser n (15 + n) k (omega arith) (fits_tight (15 + n) k (omega arith) ∙ h)

-- an atom fits every level
pub atom_fits : (n : ℕ) (k : SyntaxKind) → is_atom k ≡ true → fits n k ≡ true
atom_fits n k h = simple_fits n k (atom_simple k h)

-- the test whether a number is at most another decides this
pub at_most : (m n : ℕ) → nat_le m n ≡ true → m ≤ n
at_most m n h = grind (arith, nat_tests, h)

-- the test whether two numbers are equal decides this
pub same_number : (m n : ℕ) → nat_eq m n ≡ true → m ≡ n
same_number m n h = grind (arith, nat_tests, h)

-- the test is true if a number is at most another
pub at_most_true : (m n : ℕ) → m ≤ n → nat_le m n ≡ true
at_most_true m n h = grind (arith, nat_tests, h)

-- the two tests of a number between two others decide this
pub within : (l m n : ℕ) → (nat_le l m && nat_le m n) ≡ true → (l ≤ m) × (m ≤ n)
within l m n h = let q = and_parts (nat_le l m) (nat_le m n) h in (at_most l m q.0, at_most m n q.1)

-- no binding power is above 16
pub binding_power_max : (j : SyntaxKind) → binding_power j ≤ 16
binding_power_max j = at_most (binding_power j) 16 (every (λ k. nat_le (binding_power k) 16) refl j)

-- the binding power of an operator is between 1 and 12, and at least its `max_bp`
pub record Operates (k : SyntaxKind) : Type 0 where
  pub positive : 1 ≤ binding_power k
  pub most : binding_power k ≤ 12
  pub max_bp : max_bp_of k ≤ binding_power k

-- each binary operator has such a binding power
pub operates : (k : SyntaxKind) → is_infix k ≡ true → Operates k
operates k h =
    let q = within 1 (binding_power k) 12 (implied is_infix (λ o. nat_le 1 (binding_power o) && nat_le (binding_power o) 12) refl k h) in
    record {
      positive = q.0;
      most = q.1;
      max_bp = at_most (max_bp_of k) (binding_power k) (implied is_infix (λ o. nat_le (max_bp_of o) (binding_power o)) refl k h);
    }

-- the minimum of a right operand is between 1 and 16
pub right_within : (k : SyntaxKind) → (1 ≤ right_of k) × (right_of k ≤ 16)
right_within k = within 1 (right_of k) 16 (every (λ o. nat_le 1 (right_of o) && nat_le (right_of o) 16) refl k)
