-- Small facts that many proofs use.
use Rattle.std.proofs.Common.{◌≡◌, Bool, true, false, List, [], ◌∷◌, ◌++◌, Some, refl, sym, if◌then◌else◌}

-- true and false are different
pub true_is_not_false : true ≡ false → ⊥
true_is_not_false h = cc

-- a test is false if its negation is true
pub not_if : (b : Bool) → (if b then false else true) ≡ true → b ≡ false
not_if true h = absurd (true_is_not_false (sym h))
not_if false h = refl

-- what holds of both values of a choice holds of the chosen one
pub choice : {A : Type 0} (P : A → Type 0) (b : Bool) {x y : A} → P x → P y → P (if b then x else y)
choice P true h k = h
choice P false h k = k

-- the values in two equal options are equal
pub some_same : {A : Type 0} (x y : A) → Some x ≡ Some y → x ≡ y
some_same x y h = cc

-- a list with a first element is not empty
pub not_nil : {A : Type 0} {x : A} {xs : List A} → x ∷ xs ≡ [] → ⊥
not_nil h = cc

-- if two joined lists are empty, the first one is
pub none_remaining : {A : Type 0} (xs ys : List A) → xs ++ ys ≡ [] → xs ≡ []
none_remaining [] ys h = refl
none_remaining (x ∷ xs) ys h = absurd (not_nil h)

-- if two joined lists are empty, the second one is
pub none_right : {A : Type 0} (xs ys : List A) → xs ++ ys ≡ [] → ys ≡ []
none_right [] ys h = h
none_right (x ∷ xs) ys h = absurd (not_nil h)

-- a statement that must hold only if a test is true
abbrev pub Where : Bool → Type 0 → Type 0
Where true P = P
Where false P = Unit {0}

-- it holds if the statement holds anyway
pub where_any : {P : Type 0} (w : Bool) → P → Where w P
where_any true h = h
where_any false h = tt

-- if the test is true, the statement holds
pub where_one : {P : Type 0} (w : Bool) → w ≡ true → Where w P → P
where_one true e h = h
where_one false e h = absurd (true_is_not_false (sym e))
