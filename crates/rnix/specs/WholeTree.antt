-- What a law says of all nodes of a tree without errors.
use Rattle.std.specs.Prelude.{◌≡◌, true}
use Rattle.rnix_kinds.specs.declared.kinds.SyntaxKind.{SyntaxKind}
use Rattle.rnix_green.specs.Tree.{Tree, Located, forest_of}
use Rattle.rnix_base.specs.Select.{HasKind}
use Rattle.rnix_grammar.specs.Derivation.{has_tokens_alone}
use Rattle.rnix.specs.Whole.{HasParts}

-- a node of the kind has its parts
abbrev pub IsWhole : SyntaxKind → Located → Type 0
IsWhole kind n = HasKind kind n → HasParts kind n

-- each leaf of a tree has the kind of a token
abbrev pub HasTokensAlone : Tree → Type 0
HasTokensAlone tree = has_tokens_alone (forest_of tree) ≡ true

-- an element is in the same tree as another
abbrev pub IsInTree : Located → Located → Type 0
IsInTree n c = c.tree ≡ n.tree
