-- Each operator has one kind.
use Rattle.std.{specs.{Prelude.{◌≡◌, ℕ, Bool, false, Option, Some, None, find, nat_eq}, Option.unwrap_or}, proofs.Common.{ap, sym, refl, ◌∙◌}}
use Rattle.rnix_kinds.{specs.declared.kinds.SyntaxKind.SyntaxKind, proofs.AllKinds.all_kinds}
use Rattle.rnix_base.specs.{contracts.operators.{BinOpKind.the_type as binary_type, UnaryOpKind.the_type as unary_type}, declared.operators.BinOpKind.BinOpKind}
use Rattle.rnix_base.specs.{declared.operators.UnaryOpKind.UnaryOpKind, TokenOperators.{binary_operator, unary_operator, EachHasOneKind}}
use Rattle.rnix_kinds.specs.declared.kinds.SyntaxKind.TheVariants as k
use denote.Enum.Declared.{tag_of}

-- the operator is the one with this number
abbrev is_of : {A : Type 0} → (A → ℕ) → A → Option A → Bool
is_of number a None = false
is_of number a (Some b) = nat_eq (number a) (number b)

-- the first kind whose tokens stand for the operator
abbrev first_kind : {A : Type 0} → (A → ℕ) → (SyntaxKind → Option A) → A → SyntaxKind
first_kind number operator a = unwrap_or (find (λ k. is_of number a (operator k)) all_kinds) k.TOKEN_ERROR

abbrev binary_kind : BinOpKind → SyntaxKind
binary_kind = first_kind (tag_of binary_type) binary_operator

abbrev unary_kind : UnaryOpKind → SyntaxKind
unary_kind = first_kind (tag_of unary_type) unary_operator

-- the kind of an operator, if there is one
abbrev kind_in : {A : Type 0} → (A → SyntaxKind) → Option A → SyntaxKind
kind_in kind None = k.TOKEN_ERROR
kind_in kind (Some a) = kind a

-- an operator from which the kind can be computed has only this kind
one_kind : {A : Type 0} (operator : SyntaxKind → Option A) (kind : A → SyntaxKind)
    → ((k : SyntaxKind) (a : A) → operator k ≡ Some a → kind_in kind (operator k) ≡ k) → EachHasOneKind operator
one_kind operator kind back k l a p q = sym (back k a p) ∙ ap (kind_in kind) (p ∙ sym q) ∙ back l a q

binary_back : (k : SyntaxKind) (a : BinOpKind) → binary_operator k ≡ Some a → kind_in binary_kind (binary_operator k) ≡ k
binary_back k.TOKEN_CONCAT a p = refl
binary_back _ a p = cc

unary_back : (k : SyntaxKind) (a : UnaryOpKind) → unary_operator k ≡ Some a → kind_in unary_kind (unary_operator k) ≡ k
unary_back k.TOKEN_INVERT a p = refl
unary_back k.TOKEN_SUB a p = refl
unary_back _ a p = absurd (cc)

-- each binary operator has one kind
pub binary_has_one_kind : EachHasOneKind binary_operator
binary_has_one_kind = one_kind binary_operator binary_kind binary_back

pub unary_has_one_kind : EachHasOneKind unary_operator
unary_has_one_kind = one_kind unary_operator unary_kind unary_back
