-- The errors of a whole text, and the elements of its tree to which they belong.
use Rattle.std.proofs.Common.{◌≡◌, List, [], None, Some, refl, sym, subst, append-nil}
use Rattle.{rnix_kinds.specs.{declared.kinds.SyntaxKind.TheVariants.NODE_ROOT, Lexical.Tokens.Lexeme}, rnix_green.specs.{Forest.empty, Tree.{Tree, forest_of}}}
use Rattle.rnix_grammar.specs.{Fault.Fault, AnnotatedForest.{AnnotatedForest, blank, forget, without_trivia}, Repaired.others, Reads.ReadsRoot}
use Rattle.rnix_grammar.specs.{Parsed.IsParsed, Ranges.{of_nodes, error_nodes, at_fault_from, at_fault, AreErrorsOf}}
use Rattle.rnix_proof_rows.proofs.{ReadsFilled.{reads_fault_tokens, fault_tokens_without_trivia}, PlacedTokens.{ArePlaced, placed_all}, RowsIn.{IsRowIn, row_of_tree, row_inside}}
use Rattle.rnix_proof_rows.proofs.{ErrorForms.root_forms, WithTriviaForms.forms_with_trivia, ErrorElements.IsSound, ErrorsOfWalk.{node_errors, walk_errors}, OrderedErrors.row_errors}

-- the tree of a forest
abbrev pub tree_of : AnnotatedForest → Tree
tree_of f = record { kind = NODE_ROOT; children = forget f }

-- the children of the root are the forest, in the tree
pub row_below : (f : AnnotatedForest) → IsRowIn (tree_of f) 1 0 (Some 0) (forget f)
row_below f = row_inside (tree_of f) 0 0 None NODE_ROOT (forget f) empty (row_of_tree (tree_of f))

-- the forest of a whole text has its tokens placed, and its error nodes have tokens
pub root_sound : {tokens : List Lexeme} {tree : Tree} {faults : List Fault} (h : IsParsed tokens tree faults)
    → ReadsRoot (without_trivia h.reading.annotated) faults → IsSound NODE_ROOT 0 h.reading.annotated
root_sound {tokens = tokens} h stands = record {
  placed = subst (ArePlaced 0) (sym h.reading.leaves) (placed_all 0 tokens);
  leaf_kind = h.leaf_kind;
  bare = h.bare;
  marked = fault_tokens_without_trivia h.reading.annotated (reads_fault_tokens stands);
  formed = forms_with_trivia NODE_ROOT h.reading.annotated h.leaf_kind h.trimmed (root_forms stands);
}

-- the elements at fault of a tree are those below its root
fault_below : (f : AnnotatedForest) → at_fault (tree_of f) ≡ at_fault_from 1 [] (forget f)
fault_below f = append-nil (at_fault_from 1 [] (forget f))

-- all errors but those at the end of the text belong, one by one, to the error nodes and to the entries that repeat a name, as these close
pub parsed_order : {tokens : List Lexeme} {tree : Tree} {faults : List Fault} → (h : IsParsed tokens tree faults)
    → ReadsRoot (without_trivia h.reading.annotated) faults → AreErrorsOf tree (others faults) (at_fault tree)
parsed_order {tree = tree} {faults = faults} h stands =
    let f : AnnotatedForest = h.reading.annotated in
    subst (λ z. AreErrorsOf z (others faults) (at_fault z)) (sym h.reading.tree_is)
    (subst (AreErrorsOf (tree_of f) (others faults)) (sym (fault_below f))
    (subst (λ z. AreErrorsOf (tree_of f) z (at_fault_from 1 [] (forget f))) (sym h.paired)
    (row_errors (tree_of f) NODE_ROOT 1 0 0 blank [] f (row_below f) (record { kind_is = refl; root = λ e. refl }) (root_sound h stands) (λ name. refl))))

-- the errors of error nodes belong, one by one, to the error nodes that a walk over the tree leaves
pub parsed_nodes : {tokens : List Lexeme} {tree : Tree} {faults : List Fault} → (h : IsParsed tokens tree faults)
    → ReadsRoot (without_trivia h.reading.annotated) faults → AreErrorsOf tree (of_nodes faults) (error_nodes tree)
parsed_nodes {tree = tree} {faults = faults} h stands =
    subst (AreErrorsOf tree (of_nodes faults)) (sym (walk_errors tree 0 0 None [] (forest_of tree) (row_of_tree tree)))
    (node_errors tree faults (at_fault tree) (parsed_order h stands))
