-- What is shown for each listed kind holds of every kind.
use Rattle.std.proofs.Common.{ℕ, zero, suc, List, [], ◌∷◌, get_or, subst}
use Rattle.rnix_kinds.{specs.{declared.kinds.SyntaxKind.{SyntaxKind, TheVariants.TOKEN_ADD}, SyntaxKind.discriminant_of}, proofs.AllKinds.{all_kinds, kind_at_discriminant}}

-- a property holds of each of some kinds
abbrev pub Each : (SyntaxKind → Type 0) → List SyntaxKind → Type 0
Each P [] = Unit {0}
Each P (k ∷ ks) = P k × Each P ks

each_at : (P : SyntaxKind → Type 0) (ks : List SyntaxKind) (i : ℕ) (d : SyntaxKind) → Each P ks → P d → P (get_or ks i d)
each_at P [] i d h e = e
each_at P (k ∷ ks) zero d h e = h.0
each_at P (k ∷ ks) (suc i) d h e = each_at P ks i d h.1 e

-- a property of each listed kind holds of every kind
pub each_kind : (P : SyntaxKind → Type 0) → Each P all_kinds → (k : SyntaxKind) → P k
each_kind P h k = subst P (kind_at_discriminant k TOKEN_ADD) (each_at P all_kinds (discriminant_of k) TOKEN_ADD h h.0)
