-- Where there are no trivia: at the edges of nodes, inside names, and before the name of an entry.
use Rattle.std.specs.Prelude.{◌≡◌, Bool, true, false, List, [], ◌∷◌, ◌++◌}
use Rattle.rnix_kinds.specs.declared.kinds.SyntaxKind.{SyntaxKind}
use Rattle.rnix_kinds.specs.declared.kinds.SyntaxKind.TheVariants.{NODE_IDENT, NODE_PAT_ENTRY}
use Rattle.rnix_kinds.specs.SyntaxKind.{is_trivia}
use Rattle.rnix_green.specs.Forest.{Forest, empty, leaf, node}
use Rattle.rnix_grammar.specs.AnnotatedForest.{Token, AnnotatedForest, blank, token, branch, fault, tokens_in}

-- the first kind is not trivia
abbrev pub BeginsWithItem : List SyntaxKind → Type 0
BeginsWithItem [] = Unit {0}
BeginsWithItem (k ∷ ks) = is_trivia k ≡ false

-- the last kind is not trivia
abbrev pub EndsWithItem : List SyntaxKind → Type 0
EndsWithItem [] = Unit {0}
EndsWithItem (k ∷ []) = is_trivia k ≡ false
EndsWithItem (k ∷ (j ∷ ks)) = EndsWithItem (j ∷ ks)

-- the kinds of a forest's leaves
abbrev pub leaf_kinds : Forest → List SyntaxKind
leaf_kinds empty = []
leaf_kinds (leaf k t f) = k ∷ leaf_kinds f
leaf_kinds (node k c f) = leaf_kinds c ++ leaf_kinds f

-- the kinds of some tokens
abbrev pub token_kinds : List Token → List SyntaxKind
token_kinds [] = []
token_kinds (t ∷ ts) = t.kind ∷ token_kinds ts

-- no error node of a forest begins or ends with trivia
abbrev pub AreFaultsTrimmed : AnnotatedForest → Type 0
AreFaultsTrimmed blank = Unit {0}
AreFaultsTrimmed (token k t f) = AreFaultsTrimmed f
AreFaultsTrimmed (branch k c f) = AreFaultsTrimmed c × AreFaultsTrimmed f
AreFaultsTrimmed (fault n c f) = BeginsWithItem (token_kinds (tokens_in c)) × EndsWithItem (token_kinds (tokens_in c)) × AreFaultsTrimmed c × AreFaultsTrimmed f

-- no node of a forest begins or ends with trivia
abbrev pub AreNodesTrimmed : Forest → Type 0
AreNodesTrimmed empty = Unit {0}
AreNodesTrimmed (leaf k t f) = AreNodesTrimmed f
AreNodesTrimmed (node k c f) = BeginsWithItem (leaf_kinds c) × EndsWithItem (leaf_kinds c) × AreNodesTrimmed c × AreNodesTrimmed f

-- a forest has at most one tree, a token
abbrev pub is_single_token : AnnotatedForest → Bool
is_single_token blank = true
is_single_token (token k t blank) = true
is_single_token f = false

-- a forest begins with a node
abbrev pub begins_with_node : AnnotatedForest → Bool
begins_with_node (branch k c f) = true
begins_with_node f = false

-- the node of a name contains at most one token, and an entry of a pattern begins with its name
abbrev pub HasSingleTokenName : SyntaxKind → AnnotatedForest → Type 0
HasSingleTokenName kind c = (kind ≡ NODE_IDENT → is_single_token c ≡ true) × (kind ≡ NODE_PAT_ENTRY → begins_with_node c ≡ true)

-- the same for each node of a forest
abbrev pub AreNamesSingleTokens : AnnotatedForest → Type 0
AreNamesSingleTokens blank = Unit {0}
AreNamesSingleTokens (token k t f) = AreNamesSingleTokens f
AreNamesSingleTokens (branch k c f) = HasSingleTokenName k c × AreNamesSingleTokens c × AreNamesSingleTokens f
AreNamesSingleTokens (fault n c f) = AreNamesSingleTokens c × AreNamesSingleTokens f
