-- The table of classes agrees with the definitions of the classes for each of the 256 bytes.
use Rattle.std.{proofs.{Common.{◌≡◌, ℕ, zero, suc, ◌<◌, Bool, true, false, ◌&&◌, refl, inl, inr, arith}, lemmas.Bool.{and_parts, cases_eq}}, specs.Bool.beq}
use Rattle.rnix_kinds.specs.{declared.tokenizer.text.Class.Class, Lexical.{Classes.class_test, ClassTable.has_flag}}

-- two tests agree on the numbers below `n`
unfoldable pub agree : (ℕ → Bool) → (ℕ → Bool) → ℕ → Bool
agree p q zero = true
agree p q (suc n) = beq (p n) (q n) && agree p q n

same : (a b : Bool) → beq a b ≡ true → a ≡ b
same true true e = refl
same true false e = cc
same false true e = cc
same false false e = refl

agree_at : (p q : ℕ → Bool) (n : ℕ) → agree p q n ≡ true → (b : ℕ) → b < n → p b ≡ q b
unfolding agree
agree_at p q zero h b low = absurd (omega arith)
agree_at p q (suc n) h b low =
    let parts = and_parts (beq (p n) (q n)) (agree p q n) h in
    elim (cases_eq b n) [ inl here ↦ rw here (same (p n) (q n) parts.0) | inr before ↦ agree_at p q n parts.1 b (omega arith) ]

-- if a class agrees with its flag on all bytes, the flag decides it
pub from_table : (flag : ℕ) (class : Class) (b : ℕ) → b < 256 → agree (has_flag flag) (class_test class) 256 ≡ true → has_flag flag b ≡ class_test class b
from_table flag class b low h = agree_at (has_flag flag) (class_test class) 256 h b low
