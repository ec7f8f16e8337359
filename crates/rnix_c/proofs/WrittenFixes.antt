-- The result of a call for a fix.
use Rattle.std.proofs.Common.{◌≡◌, List, ℕ, ℤ, inl, inr, subst, IsUtf8}
use Rattle.rnix_c.specs.{declared.fixes.RnixFix.{RnixFix}, Answers.{Answers}, FixCalls.{WritesFixAt, WritesFixIn}}

-- what is written for a text is the result of the call for its bytes
pub answered : (text bytes : List ℕ) (given answer : ℤ) (number : ℕ) (was is : RnixFix) (old new : List ℕ) → IsUtf8 bytes →
    text ≡ bytes → given ≡ answer → WritesFixIn text number given was is old new →
    Answers bytes answer ((is ≡ was) × (new ≡ old)) (λ tree faults. WritesFixAt bytes tree faults number answer was is old new)
answered text bytes given answer number was is old new utf8 same equal written =
    let of_bytes = subst (λ (t : List ℕ). WritesFixIn t number given was is old new) same written in
    elim (subst (λ (z : ℤ). WritesFixIn bytes number z was is old new) equal of_bytes) [
      | inl refused ↦ inl (inr (inr (refused.0, utf8)), (refused.1, refused.2))
      | inr found ↦ inr (utf8, found)
    ]
