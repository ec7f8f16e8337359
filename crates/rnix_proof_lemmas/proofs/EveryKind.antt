-- What follows for each kind from a test of all kinds.
use Rattle.std.{specs.List.list_all, proofs.Common.{◌≡◌, ◌≤◌, ℕ, Bool, true, false, ap, sym, ◌∙◌, arith, ◌&&◌, if◌then◌else◌, nat_eq, nat_le}}
use Rattle.std.proofs.lemmas.Bool.Decides.{nat_tests}
use Rattle.rnix_kinds.{specs.{SyntaxKind.{discriminant_of}, declared.kinds.SyntaxKind.SyntaxKind}, proofs.AllKinds.{same_discriminant, every, all_kinds, implied}}
use Rattle.{rnix_proof_lemmas.proofs.Basics.{true_is_not_false}}

-- two tests that are never passed together are not both passed
pub not_together : {v w : Bool} → (v && w) ≡ false → v ≡ true → w ≡ true → ⊥
not_together {v = true} h e f = true_is_not_false (sym f ∙ h)
not_together {v = false} h e f = true_is_not_false (sym e)

-- numbers that are tested as equal are equal
equal : (m n : ℕ) → nat_eq m n ≡ true → m ≡ n
equal m n h = grind (arith, nat_tests, h)

-- kinds at the same position of the list are the same
pub same : (k w : SyntaxKind) → nat_eq (discriminant_of k) (discriminant_of w) ≡ true → k ≡ w
same k w h = same_discriminant k w (equal (discriminant_of k) (discriminant_of w) h)

-- if one listed kind alone passes a test, each kind that passes it is that kind
pub only : (a : SyntaxKind → Bool) (w : SyntaxKind) → list_all (λ k. if a k then nat_eq (discriminant_of k) (discriminant_of w) else true) all_kinds ≡ true
    → (k : SyntaxKind) → a k ≡ true → k ≡ w
only a w h k e = same k w (implied a (λ j. nat_eq (discriminant_of j) (discriminant_of w)) h k e)

-- if each listed kind that passes two tests passes a third, so does every kind
pub whenever_both : (a b c : SyntaxKind → Bool) → list_all (λ k. if a k then (if b k then c k else true) else true) all_kinds ≡ true → (k : SyntaxKind)
    → a k ≡ true → b k ≡ true → c k ≡ true
whenever_both a b c h k e f =
    sym (ap (λ w. if w then c k else true) f) ∙ sym (ap (λ w. if w then (if b k then c k else true) else true) e)
    ∙ every (λ j. if a j then (if b j then c j else true) else true) h k

-- if one listed kind alone passes two tests, each kind that passes both is that kind
pub only_both : (a b : SyntaxKind → Bool) (w : SyntaxKind) → list_all
    (λ k. if a k then (if b k then nat_eq (discriminant_of k) (discriminant_of w) else true) else true) all_kinds ≡ true
    → (k : SyntaxKind) → a k ≡ true → b k ≡ true → k ≡ w
only_both a b w h k e f = same k w (whenever_both a b (λ j. nat_eq (discriminant_of j) (discriminant_of w)) h k e f)

-- if no listed kind passes two tests, no kind passes both
pub never : (a b : SyntaxKind → Bool) → list_all (λ k. if a k then (if b k then false else true) else true) all_kinds ≡ true → (k : SyntaxKind) → a k ≡ true
    → b k ≡ true → ⊥
never a b h k e f = true_is_not_false (sym (every (λ j. if a j then (if b j then false else true) else true) h k)
    ∙ ap (λ w. if w then (if b k then false else true) else true) e ∙ ap (λ w. if w then false else true) f)

-- if each two listed kinds that pass a test pass another, so do any two kinds
pub whenever_two : (a b : SyntaxKind → SyntaxKind → Bool) → list_all (λ j. list_all (λ k. if a j k then b j k else true) all_kinds) all_kinds ≡ true
    → (j k : SyntaxKind) → a j k ≡ true → b j k ≡ true
whenever_two a b h j k e = implied (a j) (b j) (every (λ i. list_all (λ l. if a i l then b i l else true) all_kinds) h j) k e

-- if one number of each listed kind that passes a test is at most another, this holds for every kind
pub at_most : (a : SyntaxKind → Bool) (f g : SyntaxKind → ℕ) → list_all (λ k. if a k then nat_le (f k) (g k) else true) all_kinds ≡ true → (k : SyntaxKind)
    → a k ≡ true → f k ≤ g k
at_most a f g h k e = let l : nat_le (f k) (g k) ≡ true = implied a (λ j. nat_le (f j) (g j)) h k e in grind (arith, nat_tests, l)

-- if two numbers of each listed kind that passes a test are equal, this holds for every kind
pub alike : (a : SyntaxKind → Bool) (f g : SyntaxKind → ℕ) → list_all (λ k. if a k then nat_eq (f k) (g k) else true) all_kinds ≡ true → (k : SyntaxKind)
    → a k ≡ true → f k ≡ g k
alike a f g h k e = let l : nat_eq (f k) (g k) ≡ true = implied a (λ j. nat_eq (f j) (g j)) h k e in grind (arith, nat_tests, l)
