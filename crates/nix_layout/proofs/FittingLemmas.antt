-- A number of each element of a list.
use Rattle.std.proofs.Common.{◌≡◌, ℕ, zero, suc, ◌<◌, ◌≤◌, List, [], ◌∷◌, length, map, get_or, refl, arith}

-- the number of an element of the list
pub mapped : {A : Type 0} (number_of : A → ℕ) (xs : List A) (i : ℕ) (a : A) → i < length xs → get_or (map number_of xs) i 0 ≡ number_of (get_or xs i a)
mapped number_of [] i a within = absurd (omega (arith, within))
mapped number_of (a ∷ xs) zero b within = refl
mapped number_of (a ∷ xs) (suc i) b within = mapped number_of xs i b (omega (arith, within))

-- beyond the list there is no number
pub mapped_beyond : {A : Type 0} (number_of : A → ℕ) (xs : List A) (i : ℕ) → length xs ≤ i → get_or (map number_of xs) i 0 ≡ 0
mapped_beyond number_of [] i beyond = refl
mapped_beyond number_of (a ∷ xs) zero beyond = absurd (omega (arith, beyond))
mapped_beyond number_of (a ∷ xs) (suc i) beyond = mapped_beyond number_of xs i (omega (arith, beyond))
