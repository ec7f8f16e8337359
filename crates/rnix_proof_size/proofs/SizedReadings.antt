-- A reading has at most three elements for each token, plus three.
use Rattle.std.proofs.Common.{◌≡◌, ◌≤◌, suc, ◌+◌, ◌*◌, List, [], ◌∷◌, length, refl, ap, ◌∙◌, arith}
use Rattle.{rnix_kinds.specs.{declared.kinds.SyntaxKind.TheVariants.NODE_ROOT, Lexical.Tokens.Lexeme}, rnix_green.specs.{Forest.element_count, Tree.Tree}}
use Rattle.{rnix_green.specs.Tree.forest_of, rnix_grammar.specs.{Fault.Fault, AnnotatedForest.{Token, AnnotatedForest, forget, tokens_in, is_some}}}
use Rattle.rnix_grammar.specs.{AnnotatedForest.{without_trivia, placed_from}, Layout.items, Reads.ReadsRoot, Reading.IsReading}
use Rattle.{rnix_proof_lemmas.proofs.{ReachableRows.known_row, ReportLemmas.without_trivia_tokens}, rnix_proof_rows.proofs.RowsWithoutAttrpath.no_attrpath_row}
use Rattle.rnix_proof_size.proofs.{Counts.{nodes, elements, nodes_without_trivia, length_placed, length_items}, EmptyRows.empty, LastRows.last}

-- below the root there are at most two nodes for each item, plus two
whole : (f : AnnotatedForest) (es : List Fault) → ReadsRoot f es → nodes f ≤ 2 * length (tokens_in f) + 2
whole f es r = by (tokens_in f) refl
  where
    by : (ts : List Token) → tokens_in f ≡ ts → nodes f ≤ 2 * length (tokens_in f) + 2
    by [] e =
        let none : nodes f ≤ 0 = empty r (known_row NODE_ROOT) refl refl e (λ b. no_attrpath_row r (known_row NODE_ROOT) refl b refl e) in
        omega (arith, none)
    by (t ∷ ts) e =
        let some : nodes f + 2 ≤ 2 * length (tokens_in f) + 4 = last r (known_row NODE_ROOT) refl refl (ap is_some e) in
        omega (arith, some)

-- the tree has at most two elements for each item and one for each token, plus three, the root included
pub sized : (ls : List Lexeme) (tree : Tree) (faults : List Fault) → IsReading ls tree faults
    → element_count (forest_of tree) ≤ 2 * length (items (placed_from 0 ls)) + length ls + 3
sized ls tree faults r =
    let f : AnnotatedForest = r.annotated in
    let bound : nodes (without_trivia f) ≤ 2 * length (tokens_in (without_trivia f)) + 2 = whole (without_trivia f) faults r.reads in
    let own : tokens_in (without_trivia f) ≡ items (placed_from 0 ls) = without_trivia_tokens f ∙ ap items r.leaves in
    let count : length (tokens_in (without_trivia f)) ≡ length (items (placed_from 0 ls)) = ap length own in
    let same : nodes (without_trivia f) ≡ nodes f = nodes_without_trivia f in
    let leaves : length (tokens_in f) ≡ length ls = ap length r.leaves ∙ length_placed 0 ls in
    let parts : element_count (forget f) ≡ nodes f + length (tokens_in f) = elements f in
    let tree_is : element_count (forest_of tree) ≡ suc (element_count (forget f) + 0) = ap (λ (t : Tree). element_count (forest_of t)) r.tree_is in
    omega (arith, bound, count, same, leaves, parts, tree_is)

-- so it has at most three elements for each token, plus three
pub sized_by_tokens : (ls : List Lexeme) (tree : Tree) (faults : List Fault) → IsReading ls tree faults → element_count (forest_of tree) ≤ 3 * length ls + 3
sized_by_tokens ls tree faults r =
    let bound : element_count (forest_of tree) ≤ 2 * length (items (placed_from 0 ls)) + length ls + 3 = sized ls tree faults r in
    let few : length (items (placed_from 0 ls)) ≤ length (placed_from 0 ls) = length_items (placed_from 0 ls) in
    let same : length (placed_from 0 ls) ≡ length ls = length_placed 0 ls in
    omega (arith, bound, few, same)
