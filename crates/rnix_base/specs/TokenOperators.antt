-- The operators of tokens.
use Rattle.std.specs.Prelude.{◌≡◌, List, [], ◌∷◌, Option, Some, None}
use Rattle.rnix_kinds.specs.declared.kinds.SyntaxKind.{SyntaxKind}
use Rattle.rnix_kinds.specs.declared.kinds.SyntaxKind.TheVariants as k
use Rattle.rnix_green.specs.Tree.{Located, item_of}
use Rattle.rnix_base.specs.declared.operators.BinOpKind.{BinOpKind}
use Rattle.rnix_base.specs.declared.operators.BinOpKind.TheVariants as b
use Rattle.rnix_base.specs.declared.operators.UnaryOpKind.{UnaryOpKind}
use Rattle.rnix_base.specs.declared.operators.UnaryOpKind.TheVariants as u

-- the operator between two operands of a kind of tokens
abbrev pub binary_operator : SyntaxKind → Option BinOpKind
binary_operator k.TOKEN_CONCAT = Some b.Concat
binary_operator k.TOKEN_UPDATE = Some b.Update
binary_operator k.TOKEN_ADD = Some b.Add
binary_operator k.TOKEN_SUB = Some b.Sub
binary_operator k.TOKEN_MUL = Some b.Mul
binary_operator k.TOKEN_DIV = Some b.Div
binary_operator k.TOKEN_AND_AND = Some b.And
binary_operator k.TOKEN_EQUAL = Some b.Equal
binary_operator k.TOKEN_IMPLICATION = Some b.Implication
binary_operator k.TOKEN_LESS = Some b.Less
binary_operator k.TOKEN_LESS_OR_EQ = Some b.LessOrEq
binary_operator k.TOKEN_MORE = Some b.More
binary_operator k.TOKEN_MORE_OR_EQ = Some b.MoreOrEq
binary_operator k.TOKEN_NOT_EQUAL = Some b.NotEqual
binary_operator k.TOKEN_OR_OR = Some b.Or
binary_operator k.TOKEN_PIPE_RIGHT = Some b.PipeRight
binary_operator k.TOKEN_PIPE_LEFT = Some b.PipeLeft
binary_operator _ = None

-- the operator before an operand of a kind of tokens
abbrev pub unary_operator : SyntaxKind → Option UnaryOpKind
unary_operator k.TOKEN_INVERT = Some u.Invert
unary_operator k.TOKEN_SUB = Some u.Negate
unary_operator _ = None

-- no operator is that of two kinds
abbrev pub EachHasOneKind : {A : Type 0} → (SyntaxKind → Option A) → Type 0
EachHasOneKind {A} operator = (k l : SyntaxKind) (a : A) → operator k ≡ Some a → operator l ≡ Some a → k ≡ l

-- the first of two, if it is there, and else the second
abbrev pub or_else : {A : Type 0} → Option A → Option A → Option A
or_else (Some a) other = Some a
or_else None other = other

-- the operator of the first token that is one
abbrev pub first_operator : {A : Type 0} → (SyntaxKind → Option A) → List Located → Option A
first_operator operator [] = None
first_operator operator (token ∷ tokens) = or_else (operator (item_of token).kind) (first_operator operator tokens)
