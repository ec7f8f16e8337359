-- Tests of numbers decide what they test.
use Rattle.std.{proofs.{Common.{◌≡◌, ℕ, ◌<◌, ◌≤◌, ◌==◌, nat_lt, Bool, true, false, refl, arith}, lemmas.Bool.Decides.nat_tests}, specs.Prelude.if◌then◌else◌}

-- if the test is true, the number is less
pub below_true : (a b : ℕ) → nat_lt a b ≡ true → a < b
below_true a b h = grind (arith, nat_tests)

-- if the test is false, it is not
pub below_false : (a b : ℕ) → nat_lt a b ≡ false → b ≤ a
below_false a b h = grind (arith, nat_tests)

-- if a number is less, the test is true
pub is_below : (a b : ℕ) → a < b → nat_lt a b ≡ true
is_below a b h = grind (arith, nat_tests)

-- if it is not, the test is false
pub is_not_below : (a b : ℕ) → b ≤ a → nat_lt a b ≡ false
is_not_below a b h = grind (arith, nat_tests)

-- if two numbers are equal, the test is true
pub is_same : (a b : ℕ) → a ≡ b → (a == b) ≡ true
is_same a b h = grind (arith, nat_tests)

-- if one is greater, the test is false
pub is_above : (a b : ℕ) → b < a → (a == b) ≡ false
is_above a b h = grind (arith, nat_tests)

-- two choices by the same test are equal if their values are
pub same_choice : {A : Type 0} (test : Bool) (x y u v : A) → (test ≡ true → x ≡ u) → (test ≡ false → y ≡ v) → (if test then x else y) ≡ (if test then u else v)
same_choice true x y u v h k = h refl
same_choice false x y u v h k = k refl

-- a number that is not less and not equal is greater
pub other : (a b : ℕ) → (a == b) ≡ false → b ≤ a → b < a
other a b h l = grind (arith, nat_tests)
