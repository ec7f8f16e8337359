-- Arrays that are filled from the front.
use Rattle.std.proofs.Common.{◌≡◌, ℕ, zero, suc, ◌+◌, ◌<◌, ◌≤◌, min, List, [], ◌∷◌, ◌++◌, length, take, get_or, refl, sym, ap, ◌∙◌, arith, add-one}
use Rattle.std.proofs.{Common.{inl, inr}, Math.{ListN.set, Seq.{take-nil, drop-nil}}, lemmas.{Bool.cases_lt, List.set_past}}
use Rattle.rnix_c.specs.Answers.{filled}

-- if nothing is written, the array is unchanged
pub filled-none : {A : Type 0} → (room : List A) → room ≡ filled [] room
filled-none room = ap (λ front. front ++ room) (sym (take-nil (length room)))

-- what does not fit is not written
pub filled-beyond : {A : Type 0} → (n : ℕ) (things room : List A) → length room ≤ n → filled (take n things) room ≡ filled things room
filled-beyond n things [] l = drop-nil (length (take n things)) ∙ sym (drop-nil (length things))
filled-beyond zero things (r ∷ room) l = absurd (omega arith)
filled-beyond (suc n) [] (r ∷ room) l = refl
filled-beyond (suc n) (x ∷ things) (r ∷ room) l = ap (λ rest. x ∷ rest) (filled-beyond n things room (omega arith))

-- after `n` items, the next one is written after them
filled-suc : {A : Type 0} → (n : ℕ) (things room : List A) (x : A) → n < length things → n < length room → x ≡ get_or things n x
    → set (filled (take n things) room) n x ≡ filled (take (suc n) things) room
filled-suc n [] room x l m e = absurd (omega arith)
filled-suc n (y ∷ things) [] x l m e = absurd (omega arith)
filled-suc zero (y ∷ things) (r ∷ room) x l m e = (λ i. e i ∷ room) ∙ ap (λ front. y ∷ (front ++ room)) (sym (take-nil (length room)))
filled-suc (suc n) (y ∷ things) (r ∷ room) x l m e = ap (λ rest. y ∷ rest) (filled-suc n things room x (omega arith) (omega arith) e)

-- the same, for an array that contains the first `n` items
pub filled-more : {A : Type 0} → (n : ℕ) (things room now : List A) (x : A) → n < length things → n < length room → now ≡ filled (take n things) room →
    x ≡ get_or things n x
    → set now n x ≡ filled (take (n + 1) things) room
filled-more n things room now x l m is e =
    ap (λ array. set array n x) is ∙ filled-suc n things room x l m e ∙ ap (λ k. filled (take k things) room) (sym (add-one n))

-- if the array is full, it stays unchanged
pub filled-past : {A : Type 0} → (n : ℕ) (things room now : List A) → length room ≤ n → now ≡ filled (take n things) room →
    now ≡ filled (take (n + 1) things) room
filled-past n things room now l is = is ∙ filled-beyond n things room l ∙ sym (filled-beyond (n + 1) things room (omega arith))

-- writing does not change the length of an array
length-filled : {A : Type 0} → (things room : List A) → length (filled things room) ≡ length room
length-filled {A = A} [] room = ap (length {A = A}) (sym (filled-none room))
length-filled {A = A} (x ∷ things) [] = ap (length {A = A}) (drop-nil (length (x ∷ things)))
length-filled (x ∷ things) (r ∷ room) = ap suc (length-filled things room)

-- the next item is written if it fits
pub filled-next : {A : Type 0} → (n : ℕ) (things room now : List A) (x : A) → n < length things → now ≡ filled (take n things) room → x ≡ get_or things n x
    → set now n x ≡ filled (take (n + 1) things) room
filled-next {A = A} n things room now x l is e = elim (cases_lt n (length room)) [
  | inl less ↦ filled-more n things room now x l less is e
  | inr more ↦ set_past now n x (omega (arith, ap (length {A = A}) is, length-filled (take n things) room, more)) ∙ filled-past n things room now more is
]

-- the array is filled once all items are written or the array is full
pub filled-all : {A : Type 0} → (n : ℕ) (things room : List A) → min (length things) (length room) ≤ n → filled (take n things) room ≡ filled things room
filled-all zero [] room l = refl
filled-all (suc n) [] room l = refl
filled-all n (x ∷ things) [] l = filled-beyond n (x ∷ things) [] (omega arith)
filled-all zero (x ∷ things) (r ∷ room) l = absurd (omega arith)
filled-all (suc n) (x ∷ things) (r ∷ room) l = ap (λ rest. x ∷ rest) (filled-all n things room (omega arith))
