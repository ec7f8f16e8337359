-- The children of a node, by their kinds.
use Rattle.std.specs.Prelude.{◌≡◌, ℕ, Option, is_some, IsSome}
use Rattle.rnix_kinds.specs.declared.kinds.SyntaxKind.{SyntaxKind}
use Rattle.rnix_green.specs.Equality.{same_kind}
use Rattle.rnix_green.specs.Tree.{Located}
use Rattle.rnix_base.specs.Select.{child_of, token_of}
use Rattle.rnix.specs.NodeKinds.{is_expr}

-- a child of the node is a token of the kind
abbrev pub HasToken : SyntaxKind → Located → Type 0
HasToken kind n = IsSome (token_of (same_kind kind) n)

-- a child of the node is a node of the kind
abbrev pub HasNode : SyntaxKind → Located → Type 0
HasNode kind n = IsSome (child_of (same_kind kind) 0 n)

-- the node has a child expression of this number
abbrev pub HasExpr : ℕ → Located → Type 0
HasExpr number n = IsSome (child_of is_expr number n)

-- both are there, or neither is
abbrev pub AreTogether : {A B : Type 0} → Option A → Option B → Type 0
AreTogether a b = is_some a ≡ is_some b
