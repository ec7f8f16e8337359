-- Which children, trivia aside, are a row of a node's kind, and which begin one.
use Rattle.std.specs.Prelude.{◌≡◌, Bool, true, List, [], ◌∷◌}
use Rattle.rnix_kinds.specs.declared.kinds.SyntaxKind.{SyntaxKind}
use Rattle.rnix_grammar.specs.Rules.{Row, row, after, may_end}

-- what is left of a row after some children
abbrev pub after_all : Row → List SyntaxKind → Row
after_all r [] = r
after_all r (kind ∷ kinds) = after_all (after r kind) kinds

-- children of these kinds are a row of a node of the kind
abbrev pub is_row : SyntaxKind → List SyntaxKind → Bool
is_row node kinds = may_end (after_all (row node) kinds)

-- children of these kinds begin such a row
pub record IsBeginning (node : SyntaxKind) (kinds : List SyntaxKind) : Type 0 where
  pub more : List SyntaxKind
  pub is : may_end (after_all (after_all (row node) kinds) more) ≡ true
