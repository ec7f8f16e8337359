-- What commas do not change: the other children of a node, and whether they form a pattern.
use Rattle.std.specs.Prelude.{◌≡◌, ◌↔◌, ℕ, not, Bool, true, false, List}
use Rattle.rnix_kinds.specs.declared.kinds.SyntaxKind.{SyntaxKind}
use Rattle.rnix_kinds.specs.declared.kinds.SyntaxKind.TheVariants.{NODE_PAT_ENTRY, TOKEN_COMMA, TOKEN_R_BRACE, TOKEN_WHITESPACE}
use Rattle.rnix_green.specs.Forest.{Forest, empty, leaf, node}
use Rattle.rnix_grammar.specs.Grammar.{Formals}
use Rattle.rnix_parser.specs.Significant.{leaf_unless}
use Rattle.nix_formatting.specs.Outline.{outline}
use Rattle.nix_formatting.specs.WithoutCommas.{without_commas}

-- a node before other trees, or these alone if the flag is false
abbrev pub node_if : Bool → SyntaxKind → Forest → Forest → Forest
node_if true k c f = node k c f
node_if false k c f = f

-- those trees that have one of the kinds
abbrev pub trees_of : (SyntaxKind → Bool) → Forest → Forest
trees_of kinds empty = empty
trees_of kinds (leaf k t f) = leaf_unless (not (kinds k)) k t (trees_of kinds f)
trees_of kinds (node k c f) = node_if (kinds k) k c (trees_of kinds f)

-- a set of kinds without commas and white space
pub record IsOfParts (kinds : SyntaxKind → Bool) : Type 0 where
  pub no_comma : kinds TOKEN_COMMA ≡ false
  pub no_space : kinds TOKEN_WHITESPACE ≡ false

-- if the children of two nodes are the same but for commas, white space, the contents of strings and the marks of comments, so are those of some kinds
abbrev pub KeepsParts : Type 0
KeepsParts = (kinds : SyntaxKind → Bool) (old new : Forest) → IsOfParts kinds → without_commas (outline new) ≡ without_commas (outline old)
    → without_commas (outline (trees_of kinds new)) ≡ without_commas (outline (trees_of kinds old))

-- a pattern may have a comma after its last argument exactly if it may have none
abbrev pub AllowsLastComma : Type 0
AllowsLastComma = (bound : Bool) (names : List (List ℕ)) (c f : Forest) (s t : List ℕ)
    → Formals bound names (node NODE_PAT_ENTRY c (leaf TOKEN_R_BRACE s f))
    ↔ Formals bound names (node NODE_PAT_ENTRY c (leaf TOKEN_COMMA t (leaf TOKEN_R_BRACE s f)))
