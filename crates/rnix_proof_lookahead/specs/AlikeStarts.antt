-- Two lists of items that begin alike, and continue with an item of the same kind.
use Rattle.std.specs.Prelude.{◌≡◌, ℕ, zero, suc, true, List, [], ◌∷◌, Option, Some, nat_eq}
use Rattle.rnix_kinds.specs.declared.kinds.SyntaxKind.{SyntaxKind}
use Rattle.rnix_grammar.specs.AnnotatedForest.{Token}
use Rattle.rnix_proof_layout.specs.AlikeItems.{may_join}

-- the next items have the same kind and, where a path may continue, touch in both lists or in none; or there are none. Known are the kind of the item
-- before and where it ends in the first and in the second list
abbrev pub AreNextAlike : Option SyntaxKind → ℕ → ℕ → List Token → List Token → Type 0
AreNextAlike prev n m [] [] = Unit {0}
AreNextAlike prev n m (t ∷ ts) (u ∷ us) = (t.kind ≡ u.kind) × (may_join prev t.kind ≡ true → nat_eq t.start n ≡ nat_eq u.start m)
AreNextAlike prev n m ts us = ⊥

-- the first k items are alike, and so are the next ones except for their texts
abbrev pub BeginAlike : ℕ → Option SyntaxKind → ℕ → ℕ → List Token → List Token → Type 0
BeginAlike zero prev n m ts us = AreNextAlike prev n m ts us
BeginAlike (suc k) prev n m [] [] = Unit {0}
BeginAlike (suc k) prev n m (t ∷ ts) (u ∷ us) =
    (t.kind ≡ u.kind) × (t.text ≡ u.text) × (may_join prev t.kind ≡ true → nat_eq t.start n ≡ nat_eq u.start m)
    × BeginAlike k (Some t.kind) t.end u.end ts us
BeginAlike (suc k) prev n m ts us = ⊥

-- the first of both lists have the same kind, and both touch what ends at n or neither does; or there are none
abbrev pub AreNext : ℕ → List Token → List Token → Type 0
AreNext n [] [] = Unit {0}
AreNext n (t ∷ ts) (u ∷ us) = (t.kind ≡ u.kind) × (nat_eq t.start n ≡ nat_eq u.start n)
AreNext n ts us = ⊥
