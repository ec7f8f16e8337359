-- Every kind is in the list of all kinds, so what holds of all kinds is shown by one computation.
use Rattle.std.proofs.Common.{◌≡◌, ◌<◌, ◌≤◌, ◌+◌, ℕ, zero, suc, Bool, true, List, [], ◌∷◌, refl, ap, sym, ◌∙◌, get_or, arith, inl, inr}
use Rattle.std.{proofs.lemmas.{Option.slice_get_cases, Bool.{Decides.nat_tests, and_parts}}, specs.Prelude.{if◌then◌else◌, nat_lt, ◌==◌, ◌&&◌, slice_get}}
use Rattle.{std.specs.{Prelude.{Option, Some, None, IfSome, IfNone}, List.{All, list_all}}, rnix_kinds.specs.declared.kinds.SyntaxKind.SyntaxKind}
use Rattle.rnix_kinds.specs.{declared.kinds.{SyntaxKind.TheVariants.TOKEN_ADD, TheConstants.ALL}, SyntaxKind.{name_of, kind_count, discriminant_of}}

-- all kinds, in the order of their declaration
abbrev pub all_kinds : List SyntaxKind
all_kinds = ALL

pub kind_at_discriminant : (k d : SyntaxKind) → get_or all_kinds (discriminant_of k) d ≡ k
kind_at_discriminant TOKEN_ADD d = refl
kind_at_discriminant _ d = refl

-- kinds with the same number are equal
pub same_discriminant : (a b : SyntaxKind) → discriminant_of a ≡ discriminant_of b → a ≡ b
same_discriminant a b e = sym (kind_at_discriminant a a) ∙ ap (λ n. get_or all_kinds n a) e ∙ kind_at_discriminant b a

-- a test that all elements and a default pass is passed at each index
all_at : {A : Type 0} (test : A → Bool) (xs : List A) (i : ℕ) (d : A) → list_all test xs ≡ true → test d ≡ true → test (get_or xs i d) ≡ true
all_at test [] i d h e = e
all_at test (x ∷ xs) zero d h e = (and_parts (test x) (list_all test xs) h).0
all_at test (x ∷ xs) (suc i) d h e = all_at test xs i d (and_parts (test x) (list_all test xs) h).1 e

-- a test that each kind in the list passes is passed by every kind
pub every : (test : SyntaxKind → Bool) → list_all test all_kinds ≡ true → (k : SyntaxKind) → test k ≡ true
every test h k = ap test (sym (kind_at_discriminant k TOKEN_ADD)) ∙ all_at test all_kinds (discriminant_of k) TOKEN_ADD h (and_parts (test TOKEN_ADD) _ h).0

-- if each listed kind that passes one test passes another, so does every kind
pub implied : (first second : SyntaxKind → Bool) → list_all (λ k. if first k then second k else true) all_kinds ≡ true → (k : SyntaxKind) → first k ≡ true
    → second k ≡ true
implied first second h k e = sym (ap (λ w. if w then second k else true) e) ∙ every (λ k. if first k then second k else true) h k

below : (m n : ℕ) → nat_lt m n ≡ true → m < n
below m n h = grind (arith, nat_tests, h)

pub discriminant_in_range : (k : SyntaxKind) → discriminant_of k < kind_count
discriminant_in_range k = below (discriminant_of k) kind_count (every (λ k. nat_lt (discriminant_of k) kind_count) refl k)

-- if no listed kind has the name, no kind has it
pub none_named : (name : List ℕ) → All (λ (kind : SyntaxKind). ¬ (name_of kind ≡ name)) ALL → (kind : SyntaxKind) → ¬ (name_of kind ≡ name)
none_named name none kind h =
    none (discriminant_of kind) kind (discriminant_in_range kind) (ap name_of (kind_at_discriminant kind kind) ∙ h)

same_number : (m n : ℕ) → (m == n) ≡ true → m ≡ n
same_number m n h = grind (arith, nat_tests, h)

-- the kinds of a list have the numbers from `n` on
are_numbered : ℕ → List SyntaxKind → Bool
are_numbered n [] = true
are_numbered n (k ∷ ks) = discriminant_of k == n && are_numbered (suc n) ks

-- so each has the number of its index
numbered : (n : ℕ) (ks : List SyntaxKind) (i : ℕ) (k : SyntaxKind) → are_numbered n ks ≡ true → slice_get ks i ≡ Some k → discriminant_of k ≡ n + i
unfolding are_numbered
numbered n [] i k h e = cc
numbered n (x ∷ xs) zero k h e =
    let same : x ≡ k = cc in
    let first : discriminant_of x ≡ n = same_number (discriminant_of x) n (and_parts (discriminant_of x == n) (are_numbered (suc n) xs) h).0 in
    sym (ap discriminant_of same) ∙ first ∙ omega arith
numbered n (x ∷ xs) (suc i) k h e =
    let next = numbered (suc n) xs i k (and_parts (discriminant_of x == n) (are_numbered (suc n) xs) h).1 e in
    omega (arith, next)

-- a kind has the number of its index in the list of all kinds
pub number_in_all : (i : ℕ) (found : Option SyntaxKind) → found ≡ slice_get ALL i → IfSome found (λ kind. discriminant_of kind ≡ i)
unfolding are_numbered
number_in_all i None e = tt
number_in_all i (Some k) e = let index_is = numbered 0 ALL i k refl (sym e) in omega (arith, index_is)

-- if the list has no kind at an index, no kind has that number
pub none_in_all : (i : ℕ) (found : Option SyntaxKind) → found ≡ slice_get ALL i → IfNone found (kind_count ≤ i)
none_in_all i (Some k) e = tt
none_in_all i None e = elim (slice_get_cases ALL i).1 [ inl h ↦ cc | inr h ↦ h.0 ]
