-- The shape of a tree: each node has a row of its kind, and neither begins nor ends with trivia; the names of a pattern's entries differ.
use Rattle.std.specs.Prelude.{◌≡◌, ℕ, Bool, true, false, ◌&&◌, List, [], ◌∷◌, ◌++◌, Option, Some, None, if◌then◌else◌}
use Rattle.rnix_kinds.specs.declared.kinds.SyntaxKind.{SyntaxKind}
use Rattle.rnix_kinds.specs.declared.kinds.SyntaxKind.TheVariants.{NODE_IDENT, NODE_PAT_BIND, NODE_PAT_ENTRY}
use Rattle.rnix_kinds.specs.SyntaxKind.{is_trivia}
use Rattle.rnix_green.specs.Forest.{Forest, empty, leaf, node}
use Rattle.rnix_green.specs.Tree.{Tree, forest_of}
use Rattle.rnix_grammar.specs.Fault.{Fault}
use Rattle.rnix_grammar.specs.AnnotatedForest.{AnnotatedForest, blank, token, branch, fault, ◌⊕◌, one_token, one_branch, one_fault, tokens_in, without_trivia}
use Rattle.rnix_grammar.specs.Reports.{report, repeats}
use Rattle.rnix_grammar.specs.CompleteRows.{is_row}
use Rattle.rnix_grammar.specs.Trim.{AreNodesTrimmed}
use Rattle.rnix_grammar.specs.Tables.{is_among}

-- the kinds of a forest's trees, without trivia
abbrev pub item_kinds : Forest → List SyntaxKind
item_kinds empty = []
item_kinds (leaf k t f) = if is_trivia k then item_kinds f else k ∷ item_kinds f
item_kinds (node k c f) = k ∷ item_kinds f

-- without trivia, a forest begins with a leaf
abbrev pub begins_with_leaf : Forest → Bool
begins_with_leaf empty = false
begins_with_leaf (leaf k t f) = if is_trivia k then begins_with_leaf f else true
begins_with_leaf (node k c f) = false

-- the node of a pattern's name begins with the name if it is the first child, and with `@` otherwise
abbrev pub is_bind_formed : Bool → SyntaxKind → Forest → Bool
is_bind_formed true NODE_PAT_BIND c = if begins_with_leaf c then false else true
is_bind_formed false NODE_PAT_BIND c = begins_with_leaf c
is_bind_formed first k c = true

-- the same for each of some children, which begin with the first child or follow it
abbrev pub are_binds_formed : Bool → Forest → Bool
are_binds_formed first empty = true
are_binds_formed first (leaf k t f) = if is_trivia k then are_binds_formed first f else are_binds_formed false f
are_binds_formed first (node k c f) = is_bind_formed first k c && are_binds_formed false f

-- each node's children, without trivia, are a row of its kind
abbrev pub AreRows : Forest → Type 0
AreRows empty = Unit {0}
AreRows (leaf k t f) = AreRows f
AreRows (node k c f) = (is_row k (item_kinds c) ≡ true) × (are_binds_formed true c ≡ true) × AreRows c × AreRows f

-- the children of each node are a row of its kind, and no node below the root begins or ends with trivia
abbrev pub IsShaped : Tree → Type 0
IsShaped tree = (is_row tree.kind (item_kinds tree.children) ≡ true) × AreRows tree.children × AreNodesTrimmed tree.children

-- the text of the first leaf of a forest that is not trivia
abbrev pub leaf_text : Forest → Option (List ℕ)
leaf_text empty = None
leaf_text (leaf k t f) = if is_trivia k then leaf_text f else Some t
leaf_text (node k c f) = None

-- the name, if the node is one
abbrev pub text_if : SyntaxKind → Forest → Option (List ℕ)
text_if NODE_IDENT c = leaf_text c
text_if k c = None

-- the name that an entry of a pattern begins with
abbrev pub name_in : Forest → Option (List ℕ)
name_in empty = None
name_in (leaf k t f) = if is_trivia k then name_in f else None
name_in (node k c f) = text_if k c

-- the name of a node that is an entry
abbrev pub name_if : SyntaxKind → Forest → Option (List ℕ)
name_if NODE_PAT_ENTRY c = name_in c
name_if k c = None

-- a name before others, if there is one
abbrev pub with_name : Option (List ℕ) → List (List ℕ) → List (List ℕ)
with_name None names = names
with_name (Some name) names = name ∷ names

-- the names of the entries in a forest, in order
abbrev pub entry_names : Forest → List (List ℕ)
entry_names empty = []
entry_names (leaf k t f) = entry_names f
entry_names (node k c f) = with_name (name_if k c) (entry_names f)

-- no name is one of those before it
abbrev pub AreNew : List (List ℕ) → List (List ℕ) → Type 0
AreNew before [] = Unit {0}
AreNew before (name ∷ names) = (is_among name before ≡ false) × AreNew (before ++ (name ∷ [])) names

-- no entry of a pattern has the name of an entry before it
abbrev pub AreUnrepeated : Forest → Type 0
AreUnrepeated empty = Unit {0}
AreUnrepeated (leaf k t f) = AreUnrepeated f
AreUnrepeated (node k c f) = AreNew [] (entry_names c) × AreUnrepeated c × AreUnrepeated f

-- the same for all nodes of a tree
abbrev pub IsUnrepeated : Tree → Type 0
IsUnrepeated tree = AreUnrepeated (forest_of tree)

-- the errors of a forest's error nodes and of its repeated entries, in the order in which these close; some siblings precede the forest
abbrev pub reports_within : AnnotatedForest → AnnotatedForest → List Fault
reports_within b blank = []
reports_within b (token k t f) = reports_within (b ⊕ one_token k t) f
reports_within b (branch k c f) = reports_within blank c ++ (repeats k (without_trivia b) (without_trivia c) ++ reports_within (b ⊕ one_branch k c) f)
reports_within b (fault n c f) = reports_within blank c ++ (report n (tokens_in c) ∷ reports_within (b ⊕ one_fault n c) f)
