-- Which elements of a tree the errors belong to, and what an error says of its element: its range, its parent and its children.
use Rattle.std.specs.Prelude.{◌≡◌, ℕ, ◌+◌, Bool, true, false, ◌||◌, List, [], ◌∷◌, ◌++◌, Option, Some, None, if◌then◌else◌}
use Rattle.rnix_kinds.specs.declared.kinds.SyntaxKind.{SyntaxKind}
use Rattle.rnix_kinds.specs.declared.kinds.SyntaxKind.TheVariants.{NODE_ERROR, NODE_IDENT, NODE_PATTERN, NODE_PAT_ENTRY}
use Rattle.rnix_green.specs.Forest.{Forest, empty, leaf, node, element_count}
use Rattle.rnix_green.specs.Range.{Extent}
use Rattle.rnix_green.specs.Tree.{Tree, Located, forest_of, item, item_of, extent_of, text_at}
use Rattle.rnix_green.specs.Walk.{Event, preorder_of}
use Rattle.rnix_green.specs.Relatives.{IsNodeIn, IsTokenIn, IsChild}
use Rattle.rnix_grammar.specs.Fault.{Fault, unexpected_at, extra, unwanted, double_bind, unexpected_eof, unexpected_eof_wanted, duplicated_args}
use Rattle.rnix_grammar.specs.Shape.{name_if, with_name}
use Rattle.rnix_grammar.specs.Tables.{is_among, operand_kinds}
use Rattle.rnix_grammar.specs.Rules.{is_one_of}

-- the error is that of an error node: it is neither at the end of the text nor about a repeated name
abbrev pub is_of_node : Fault → Bool
is_of_node unexpected_eof = false
is_of_node (unexpected_eof_wanted kinds) = false
is_of_node (duplicated_args range name) = false
is_of_node e = true

-- the errors that are those of error nodes
abbrev pub of_nodes : List Fault → List Fault
of_nodes [] = []
of_nodes (e ∷ es) = if is_of_node e then e ∷ of_nodes es else of_nodes es

-- the kind of error nodes
abbrev pub is_error_node : SyntaxKind → Bool
is_error_node NODE_ERROR = true
is_error_node kind = false

-- the event leaves an error node
abbrev pub leaves_error : Event → Bool
leaves_error event = if event.0 then false else (if event.1.0 then is_error_node (item_of event.1.1).kind else false)

-- the numbers of the error nodes that a walk leaves, in order
abbrev pub errors_remaining : List Event → List ℕ
errors_remaining [] = []
errors_remaining (event ∷ events) = if leaves_error event then event.1.1.number ∷ errors_remaining events else errors_remaining events

-- the numbers of a tree's error nodes, in the order in which they close
abbrev pub error_nodes : Tree → List ℕ
error_nodes tree = errors_remaining (preorder_of record { tree = tree; number = 0 })

-- the range of an error, if it has one
abbrev pub range_in : Fault → Option Extent
range_in (unexpected_at range) = Some range
range_in (extra range) = Some range
range_in (unwanted kind range kinds) = Some range
range_in (double_bind range) = Some range
range_in (duplicated_args range name) = Some range
range_in e = None

-- a range, if there is one, is that of the element
abbrev pub IsRangeOf : Option Extent → Located → Type 0
IsRangeOf None e = Unit {0}
IsRangeOf (Some range) e = range ≡ extent_of e

-- an entry of a pattern begins with a name that has the range and the text
pub record IsEntryName (tree : Tree) (entry : ℕ) (range : Extent) (name : List ℕ) : Type 0 where
  pub entry_is : (item tree entry).kind ≡ NODE_PAT_ENTRY
  pub node : IsNodeIn tree (entry + 1)
  pub parent : (item tree (entry + 1)).parent ≡ Some entry
  pub node_is : (item tree (entry + 1)).kind ≡ NODE_IDENT
  pub range_is : range ≡ extent_of record { tree = tree; number = entry + 1 }
  pub name_is : name ≡ text_at record { tree = tree; number = entry + 1 }

-- a name, if there is one, is among others
abbrev pub is_among_if : Option (List ℕ) → List (List ℕ) → Bool
is_among_if None names = false
is_among_if (Some name) names = is_among name names

-- a node is an error node, or an entry with one of these names
abbrev pub is_at_fault : SyntaxKind → Forest → List (List ℕ) → Bool
is_at_fault k c names = is_error_node k || is_among_if (name_if k c) names

-- the numbers of a forest's error nodes and of its entries that repeat the name of an earlier entry, in the order in which they close; the first
-- element has the number n, and entries of these names precede the forest
abbrev pub at_fault_from : ℕ → List (List ℕ) → Forest → List ℕ
at_fault_from n names empty = []
at_fault_from n names (leaf k t f) = at_fault_from (n + 1) names f
at_fault_from n names (node k c f) =
    at_fault_from (n + 1) [] c
    ++ ((if is_at_fault k c names then n ∷ [] else []) ++ at_fault_from (n + 1 + element_count c) (with_name (name_if k c) names) f)

-- the same for a tree
abbrev pub at_fault : Tree → List ℕ
at_fault tree = at_fault_from 0 [] (forest_of tree)

-- the element begins with a token of the kind
pub record BeginsWith (tree : Tree) (m : ℕ) (kind : SyntaxKind) : Type 0 where
  pub token : IsTokenIn tree (m + 1)
  pub parent : (item tree (m + 1)).parent ≡ Some m
  pub kind_is : (item tree (m + 1)).kind ≡ kind

-- each child of the element is a token that has none of the kinds
abbrev pub HasOtherTokens : Tree → ℕ → List SyntaxKind → Type 0
HasOtherTokens tree m kinds =
    (n : ℕ) → IsChild (record { tree = tree; number = m }) n → IsTokenIn tree n × (is_one_of kinds (item tree n).kind ≡ false)

-- the element's parent is of the kind
pub record HasParent (tree : Tree) (m : ℕ) (kind : SyntaxKind) : Type 0 where
  pub parent : ℕ
  pub is_parent : (item tree m).parent ≡ Some parent
  pub kind_is : (item tree parent).kind ≡ kind

-- If tokens are wanted, the element begins with a token of the kind that the error names, and its children are tokens of no wanted kind; where
-- an operand is wanted, it has one child. The element of extra tokens is a child of the root, and that of a second name a child of a pattern.
abbrev pub HasFormOf : Tree → Fault → ℕ → Type 0
HasFormOf tree (unwanted kind range wanted) m =
    BeginsWith tree m kind × HasOtherTokens tree m wanted × (wanted ≡ operand_kinds → (item tree m).below ≡ 1)
HasFormOf tree (extra range) m = (item tree m).parent ≡ Some 0
HasFormOf tree (double_bind range) m = HasParent tree m NODE_PATTERN
HasFormOf tree e m = Unit {0}

-- the error is that of an error node, with its range and its form
pub record IsOfErrorNode (tree : Tree) (e : Fault) (m : ℕ) : Type 0 where
  pub kind_is : (item tree m).kind ≡ NODE_ERROR
  pub range_is : IsRangeOf (range_in e) record { tree = tree; number = m }
  pub form : HasFormOf tree e m

-- an error belongs to the element, which is an entry if a name is repeated, and otherwise an error node
abbrev pub IsErrorOf : Tree → Fault → ℕ → Type 0
IsErrorOf tree (duplicated_args range name) m = IsEntryName tree m range name
IsErrorOf tree e m = IsOfErrorNode tree e m

-- there are as many errors as elements, and each belongs to its element
abbrev pub AreErrorsOf : Tree → List Fault → List ℕ → Type 0
AreErrorsOf tree [] [] = Unit {0}
AreErrorsOf tree (e ∷ es) (m ∷ ms) = IsErrorOf tree e m × AreErrorsOf tree es ms
AreErrorsOf tree es ms = ⊥
