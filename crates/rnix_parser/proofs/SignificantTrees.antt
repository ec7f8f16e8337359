-- The tree of a text, without its trivia, is that of the reading of its items.
use Rattle.{std.proofs.Common.{◌≡◌, ◌↔◌, ◌≤◌, Bool, true, false, List, [], refl, ap, sym, ◌∙◌, subst}, rnix_kinds.specs.declared.kinds.SyntaxKind.SyntaxKind}
use Rattle.rnix_kinds.specs.declared.kinds.SyntaxKind.TheVariants.{TOKEN_CUR_POS, TOKEN_IDENT, TOKEN_OR, NODE_CUR_POS, NODE_ERROR, NODE_IDENT, NODE_ROOT}
use Rattle.{rnix_kinds.specs.{Lexical.Tokens.Lexeme, SyntaxKind.is_trivia}, rnix_green.specs.{Forest.{Forest, node}, Tree.Tree}}
use Rattle.rnix_grammar.specs.AnnotatedForest.{Token, AnnotatedForest, blank, token, branch, fault, forget, without_trivia, token_if, placed_from, leaf_kind_as}
use Rattle.rnix_grammar.specs.{AnnotatedForest.HaveLeafKinds, Extensions.has_no_extension, Derivation.{annotate, IsDerivation}, Fault.Fault}
use Rattle.rnix_grammar.specs.{Grammar.IsExpression, Layout.items, Nest.nest, Parsed.IsParsed, PathPieces.ArePaths, Repaired.{repaired, ended_count}}
use Rattle.{rnix_grammar.specs.{Named.{is_repeated, Lacks}, Tables.depth_limit}, rnix_proof_rows.proofs.ErrorFreeDerivations.annotate_same}
use Rattle.rnix_proof_rows.proofs.{ReadsShapes.{AreErrorFreeRows, repaired_none, root_rows}, WithAllTrivia.without_trivia_items}
use Rattle.{rnix_proof_strict.proofs.GrammarLeaves.expression_fine, rnix_parser.specs.Significant.{leaf_unless, significant}}

-- a leaf is trivia exactly if its token is
leaf_trivia : (q k : SyntaxKind) → is_trivia (leaf_kind_as q k) ≡ is_trivia k
leaf_trivia NODE_IDENT TOKEN_OR = refl
leaf_trivia NODE_IDENT TOKEN_CUR_POS = refl
leaf_trivia NODE_CUR_POS TOKEN_IDENT = refl
leaf_trivia _ _ = refl

-- a leaf that is left out if it is trivia
forget_token_if : (b : Bool) (k : SyntaxKind) (t : Token) (f : AnnotatedForest) → forget (token_if b k t f) ≡ leaf_unless b k t.text (forget f)
forget_token_if true k t f = refl
forget_token_if false k t f = refl

-- removing trivia and removing annotations may be done in either order
significant_forget : (q : SyntaxKind) (f : AnnotatedForest) → HaveLeafKinds q f → significant (forget f) ≡ forget (without_trivia f)
significant_forget q blank h = refl
significant_forget q (token k t f) h =
    ap (λ b. leaf_unless b k t.text (significant (forget f))) (ap is_trivia h.0 ∙ leaf_trivia q t.kind)
    ∙ ap (leaf_unless (is_trivia t.kind) k t.text) (significant_forget q f h.1) ∙ sym (forget_token_if (is_trivia t.kind) k t (without_trivia f))
significant_forget q (branch k c f) h =
    ap (λ z. node k z (significant (forget f))) (significant_forget k c h.0) ∙ ap (node k (forget (without_trivia c))) (significant_forget q f h.1)
significant_forget q (fault n c f) h =
    ap (λ z. node NODE_ERROR z (significant (forget f))) (significant_forget NODE_ERROR c h.0)
    ∙ ap (node NODE_ERROR (forget (without_trivia c))) (significant_forget q f h.1)

-- the tree of a text without trivia is that of its items
pub significant_tree : {ls : List Lexeme} {tree : Tree} {faults : List Fault} (p : IsParsed ls tree faults)
    → significant tree.children ≡ forget (without_trivia p.reading.annotated)
significant_tree p = ap (λ (t : Tree). significant t.children) p.reading.tree_is ∙ significant_forget NODE_ROOT p.reading.annotated p.leaf_kind

-- if the items of a text have a derivation, its tree without trivia is this derivation
pub tree_found : {ls : List Lexeme} {tree : Tree} {faults : List Fault} → IsParsed ls tree faults
    → (d : Forest) → IsDerivation d (items (placed_from 0 ls)) → (faults ≡ []) × (significant tree.children ≡ d)
tree_found p d h = let r = p.found d h in (r.0, significant_tree p ∙ r.1)

-- without errors the tree nests within the limit
pub tree_nested : {ls : List Lexeme} {tree : Tree} {faults : List Fault} → IsParsed ls tree faults
    → faults ≡ [] → nest NODE_ROOT (significant tree.children) ≤ depth_limit
tree_nested p h = subst (λ f. nest NODE_ROOT f ≤ depth_limit) (sym (significant_tree p)) (p.nested h)

-- without errors the tree contains no error node
error_free : {ls : List Lexeme} {tree : Tree} {faults : List Fault} (p : IsParsed ls tree faults) → faults ≡ [] →
    AreErrorFreeRows (without_trivia p.reading.annotated)
error_free {faults = faults} p h =
    let f = without_trivia p.reading.annotated in
    ((root_rows p.reading.reads).0 h).nodes

-- without errors and extensions the tree is an expression of the strict grammar
pub tree_strict : {ls : List Lexeme} {tree : Tree} {faults : List Fault} → IsParsed ls tree faults
    → faults ≡ [] → has_no_extension NODE_ROOT (significant tree.children) ≡ true → IsExpression (significant tree.children)
tree_strict {tree = tree} p h o =
    let f = without_trivia p.reading.annotated in
    let same : repaired f ≡ significant tree.children = repaired_none f (error_free p h) ∙ sym (significant_tree p) in
    subst IsExpression same (p.converse (ap ended_count h) (subst (Lacks is_repeated) (sym h) tt) (ap (has_no_extension NODE_ROOT) same ∙ o))

-- without errors the tree, annotated with its items, is the one that was read
annotate_tree : {ls : List Lexeme} {tree : Tree} {faults : List Fault} (p : IsParsed ls tree faults) → faults ≡ []
    → annotate (significant tree.children) (items (placed_from 0 ls)) ≡ without_trivia p.reading.annotated
annotate_tree {ls = ls} p h =
    let f = without_trivia p.reading.annotated in
    rw (significant_tree p, without_trivia_items p.reading.annotated (placed_from 0 ls) p.reading.leaves) (annotate_same f (error_free p h))

-- the tree is a derivation exactly if there are no errors and no extensions, and the pieces of its paths touch
pub tree_exactly : {ls : List Lexeme} {tree : Tree} {faults : List Fault} → IsParsed ls tree faults
    → ((faults ≡ []) × (has_no_extension NODE_ROOT (significant tree.children) ≡ true) ×
    ArePaths (annotate (significant tree.children) (items (placed_from 0 ls))) [])
    ↔ IsDerivation (significant tree.children) (items (placed_from 0 ls))
tree_exactly {ls = ls} {tree = tree} {faults = faults} p = (there, back)
  where
    there : (faults ≡ []) × (has_no_extension NODE_ROOT (significant tree.children) ≡ true) ×
        ArePaths (annotate (significant tree.children) (items (placed_from 0 ls))) []
        → IsDerivation (significant tree.children) (items (placed_from 0 ls))
    there h =
        let paths = subst (λ f. ArePaths f []) (annotate_tree p h.0) h.2 in
        let d = (p.exactly paths).0 (h.0, ap (has_no_extension NODE_ROOT) (sym (significant_tree p)) ∙ h.1) in
        subst (λ t. IsDerivation t (items (placed_from 0 ls))) (sym (tree_found p d.0 d.1).1) d.1

    back : IsDerivation (significant tree.children) (items (placed_from 0 ls))
        → (faults ≡ []) × (has_no_extension NODE_ROOT (significant tree.children) ≡ true) ×
        ArePaths (annotate (significant tree.children) (items (placed_from 0 ls))) []
    back d =
        let t = significant tree.children in
        ((tree_found p t d).0, (expression_fine d.strict).extension, d.joined)
