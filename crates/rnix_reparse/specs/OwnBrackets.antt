-- Nodes of a tree that end with a bracket of their own, and begin with one, or with `rec` or `let` before one.
use Rattle.std.specs.Prelude.{◌≡◌, ◌≤◌, ◌<◌, ◌+◌, ℕ, true, false, Some}
use Rattle.rnix_kinds.specs.declared.kinds.SyntaxKind.{SyntaxKind}
use Rattle.rnix_kinds.specs.declared.kinds.SyntaxKind.TheVariants.{TOKEN_L_BRACE}
use Rattle.rnix_kinds.specs.SyntaxKind.{is_trivia}
use Rattle.rnix_green.specs.Range.{Extent}
use Rattle.rnix_green.specs.Relatives.{IsNodeIn}
use Rattle.rnix_green.specs.Splice.{HasOnlyChild}
use Rattle.rnix_green.specs.Tree.{Tree, item, text_at}
use Rattle.rnix_proof_reparse.specs.Bracketed.{IsBracketed, precedes_brace}

-- an element is a token of a kind
pub record IsTokenOf (t : Tree) (n : ℕ) (kind : SyntaxKind) : Type 0 where
  pub is_token : (item t n).is_node ≡ false
  pub is_kind : (item t n).kind ≡ kind

-- the node of a number begins with a bracket of its own, or with `rec` or `let`, and ends with a bracket of its own
pub record HasBrackets (t : Tree) (n : ℕ) : Type 0 where
  pub node : IsNodeIn t n
  pub both : 2 ≤ (item t n).below
  pub brackets : IsBracketed (item t n).kind (item t (n + 1)).kind (item t (n + (item t n).below)).kind
  pub opening : (item t (n + 1)).is_node ≡ false
  pub closing : (item t (n + (item t n).below)).is_node ≡ false
  pub parent : (item t (n + (item t n).below)).parent ≡ Some n

-- an element of t and one of u are the same token
pub record AreSameToken (t : Tree) (n : ℕ) (u : Tree) (m : ℕ) : Type 0 where
  pub old : (item t n).is_node ≡ false
  pub new : (item u m).is_node ≡ false
  pub kind : (item t n).kind ≡ (item u m).kind
  pub text : text_at record { tree = t; number = n } ≡ text_at record { tree = u; number = m }

-- from two numbers on, the elements of t and u are the same trivia and then the same `{`
pub data HaveSameBraceAt (t u : Tree) : ℕ → ℕ → Type 0 where
  at_brace : (n m : ℕ) → AreSameToken t n u m → (item t n).kind ≡ TOKEN_L_BRACE → HaveSameBraceAt t u n m
  past_trivia : (n m : ℕ) → AreSameToken t n u m → is_trivia (item t n).kind ≡ true → HaveSameBraceAt t u (n + 1) (m + 1) → HaveSameBraceAt t u n m

-- the only child of the root of u is a node of the same kind as the node of a number in t, with the same tokens up to the opening bracket, and the same
-- closing bracket
pub record HasSameBrackets (t : Tree) (n : ℕ) (u : Tree) : Type 0 where
  pub old : HasBrackets t n
  pub only : HasOnlyChild u
  pub new : HasBrackets u 1
  pub kind : (item t n).kind ≡ (item u 1).kind
  pub opening : AreSameToken t (n + 1) u 2
  pub closing : AreSameToken t (n + (item t n).below) u (1 + (item u 1).below)
  pub same_brace : precedes_brace (item t (n + 1)).kind ≡ true → HaveSameBraceAt t u (n + 2) 3

-- the range is inside the node, and neither begins nor ends with it
pub record IsBetween (t : Tree) (n : ℕ) (range : Extent) : Type 0 where
  pub start : (item t n).start < range.start
  pub end : range.end < (item t n).end
