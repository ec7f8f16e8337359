-- Lists that are compared element by element, and how many numbers are at most a given one.
use Rattle.std.proofs.Common.{◌≡◌, ℕ, zero, suc, ◌+◌, ◌<◌, ◌≤◌, Bool, true, false, cond, List, ◌++◌, [], ◌∷◌, length, get_or, take, ap, sym, ◌∙◌, subst, arith}
use Rattle.std.proofs.lemmas.{List.{take_more, Elements.AllZip-push, Sums.length-filter, Sorted.sum_by-IsPermutation}, Bool.{cond-true, cond-false}}
use Rattle.{std.specs.{Prelude.nat_le, List.{AllWithin, AllZip, filter, Sorted.IsPermutation}}, nix_scopes.specs.Alike.{rename_of, ended_by}}

-- if the first n elements are related pairwise, and so are the next ones, then so are the first n + 1
pub alike_more : {X : Type 0} (R : X → X → Type 0) (xs ys : List X) (n : ℕ) (x y : X) → n < length xs → n < length ys →
    x ≡ get_or xs n x → y ≡ get_or ys n y → AllZip R (take n xs) (take n ys) → R x y → AllZip R (take (n + 1) xs) (take (n + 1) ys)
alike_more R xs ys n x y there other at other_at so_far same =
    subst (λ l. AllZip R l (take (n + 1) ys)) (sym (take_more xs n x there))
    (subst (λ l. AllZip R (take n xs ++ get_or xs n x ∷ []) l) (sym (take_more ys n y other))
    (AllZip-push R (take n xs) (take n ys) (get_or xs n x) (get_or ys n y) so_far
    (subst (λ a. R a (get_or ys n y)) at (subst (λ b. R x b) other_at same))))

-- if exactly the first n numbers pass, n is how many pass
pub counted : (p : ℕ → Bool) (xs : List ℕ) (n : ℕ) → n ≤ length xs → AllWithin (λ x. p x ≡ true) xs 0 n →
    AllWithin (λ x. p x ≡ false) xs n (length xs) → n ≡ length (filter p xs)
counted p [] n there pass fail = omega (arith, there)
counted p (x ∷ xs) zero there pass fail =
    counted p xs zero (omega arith) (λ k d l m. absurd (omega (arith, m))) (λ k d l m. fail (suc k) d (omega arith) (omega (arith, m)))
    ∙ ap length (sym (cond-false (p x) (x ∷ filter p xs) (filter p xs) (fail 0 x (omega arith) (omega arith))))
counted p (x ∷ xs) (suc n) there pass fail =
    ap suc (counted p xs n (omega (arith, there)) (λ k d l m. pass (suc k) d (omega arith) (omega (arith, m)))
    (λ k d l m. fail (suc k) d (omega (arith, l)) (omega (arith, m))))
    ∙ ap length (sym (cond-true (p x) (x ∷ filter p xs) (filter p xs) (pass 0 x (omega arith) (omega arith))))

-- the order of a list does not change how many elements pass
pub counted_again : (p : ℕ → Bool) (xs ys : List ℕ) → IsPermutation xs ys → length (filter p ys) ≡ length (filter p xs)
counted_again p xs ys same =
    length-filter p ys ∙ sum_by-IsPermutation (λ x. cond (p x) 1 0) xs ys same ∙ sym (length-filter p xs)

-- the order of the occurrences' ends does not change the new name
pub same_rename : (number old : ℕ) (name xs ys : List ℕ) → IsPermutation xs ys →
    rename_of number old name (ended_by ys) ≡ rename_of number old name (ended_by xs)
same_rename number old name xs ys same = λ i. rename_of number old name (λ offset. counted_again (λ end. nat_le end offset) xs ys same i)
