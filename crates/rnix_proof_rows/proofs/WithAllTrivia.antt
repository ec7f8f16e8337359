-- The trees of a whole text, with the trivia that its items and tokens determine.
use Rattle.{std.proofs.Common.{◌≡◌, true, List, [], ◌++◌, ap, sym, ◌∙◌, append-nil, subst}, rnix_kinds.specs.declared.kinds.SyntaxKind.SyntaxKind}
use Rattle.{rnix_kinds.specs.{declared.kinds.SyntaxKind.TheVariants.NODE_ROOT, Lexical.Tokens.Lexeme}, rnix_green.specs.Tree.Tree}
use Rattle.rnix_grammar.specs.{Fault.Fault, AnnotatedForest.{Token, AnnotatedForest, tokens_in, without_trivia, placed_from, HaveLeafKinds, forget}}
use Rattle.rnix_grammar.specs.{Layout.{trivia_before, from_item, items, remaining_after, with_trivia, with_all_trivia}, Reads.ReadsRoot, Trim.AreFaultsTrimmed}
use Rattle.{rnix_grammar.specs.Trim.{AreNamesSingleTokens, AreNodesTrimmed}, rnix_proof_lemmas.specs.{Document.IsRead, Machine.with_leading}}
use Rattle.rnix_proof_lemmas.{specs.Spelled.AreSpelled, proofs.{AnnotatedForestLemmas.tokens_in-⊕, LayoutLemmas.{items-view, IsBared, bared}}}
use Rattle.rnix_proof_lemmas.proofs.LayoutLemmas.{with_trivia_tokens, trivia_tokens, nothing_from, leaf_kind-⊕, trivia_leaf_kinds, with_trivia_leaf_kinds}
use Rattle.rnix_proof_lemmas.proofs.{ReportLemmas.without_trivia_tokens, EdgeLemmas.{faults_trimmed-⊕, faults_trimmed_trivia}}
use Rattle.rnix_proof_rows.proofs.{WithTrivia.root_row_with_trivia, ReadsShapes.root_rows, ReadsFilled.reads_filled, ReadsLeafKinds.reads_leaf_kinds}
use Rattle.rnix_proof_rows.proofs.{ReadsLeafKinds.reads_single_names, WithTriviaEdges.{edged-⊕, edged_trivia, with_trivia_edged, with_trivia_trimmed}}
use Rattle.rnix_proof_rows.proofs.{WithTriviaEdges.nodes_trimmed, WithTriviaNames.{bare-⊕, trivia_names, with_trivia_names}}

-- if a forest has all items, none follow it
pub all_items : (f : AnnotatedForest) (ts : List Token) → items ts ≡ tokens_in f → items ts ≡ tokens_in f ++ []
all_items f ts e = e ∙ sym (append-nil (tokens_in f))

-- a forest over all items, with its trivia, has all tokens
pub with_all_trivia_tokens : (f : AnnotatedForest) (ts : List Token) → items ts ≡ tokens_in f → tokens_in (with_all_trivia f ts) ≡ ts
with_all_trivia_tokens f ts e =
    let us : List Token = remaining_after f ts in
    let w : IsBared f ts [] = bared f ts [] (all_items f ts e) in
    let none : from_item us ≡ [] = nothing_from (from_item us) (sym (items-view us) ∙ w.remaining) in
    let rest : tokens_in (trivia_before us) ≡ us =
    sym (append-nil (tokens_in (trivia_before us))) ∙ ap (λ x. tokens_in (trivia_before us) ++ x) (sym none) ∙ trivia_tokens us in
    tokens_in-⊕ (with_trivia f ts) (trivia_before us) ∙ ap (λ x. tokens_in (with_trivia f ts) ++ x) rest ∙ with_trivia_tokens f ts [] (all_items f ts e)

-- if the leaves of a forest have their kinds, so have those of the forest with its trivia
pub with_all_trivia_leaf_kinds : (p : SyntaxKind) (f : AnnotatedForest) (ts : List Token) → HaveLeafKinds p f → HaveLeafKinds p (with_all_trivia f ts)
with_all_trivia_leaf_kinds p f ts h = leaf_kind-⊕ p (with_trivia f ts) (trivia_before (remaining_after f ts)) (with_trivia_leaf_kinds p f ts h)
    (trivia_leaf_kinds p (remaining_after f ts))

-- two forests over the same tokens and items, each with the trivia that these determine, are equal
pub with_trivia_same : (f g : AnnotatedForest) (ts : List Token) → f ≡ with_all_trivia (without_trivia f) ts → g ≡ with_all_trivia (without_trivia g) ts
    → without_trivia f ≡ without_trivia g → f ≡ g
with_trivia_same f g ts d e h = d ∙ ap (λ x. with_all_trivia x ts) h ∙ sym e

-- a forest over some tokens has, without trivia, their items
pub without_trivia_items : (f : AnnotatedForest) (ts : List Token) → tokens_in f ≡ ts → items ts ≡ tokens_in (without_trivia f)
without_trivia_items f ts e = ap items (sym e) ∙ sym (without_trivia_tokens f)

-- the trees of a text that is read have the trivia that their items and the text's tokens determine
pub read_with_trivia : (ls : List Lexeme) (tree : Tree) (faults : List Fault) (r : IsRead ls tree faults)
    → with_leading true r.root.children r.last.remaining
    ≡ with_all_trivia (without_trivia (with_leading true r.root.children r.last.remaining)) (placed_from 0 ls)
read_with_trivia ls tree faults r = root_row_with_trivia (placed_from 0 ls) r.last r.root r.runs r.alone r.nothing

-- each leaf of a whole text has its token's kind, as its parent remaps it
pub placed_leaf_kinds : (f g : AnnotatedForest) (ts : List Token) (es : List Fault) → g ≡ with_all_trivia f ts → ReadsRoot f es → HaveLeafKinds NODE_ROOT g
placed_leaf_kinds f g ts es e s = subst (HaveLeafKinds NODE_ROOT) (sym e) (with_all_trivia_leaf_kinds NODE_ROOT f ts (reads_leaf_kinds s))

-- no error node of a whole text begins or ends with trivia
pub placed_faults_trimmed : (f g : AnnotatedForest) (ts : List Token) (es : List Fault) → g ≡ with_all_trivia f ts → items ts ≡ tokens_in f → ReadsRoot f es
    → AreFaultsTrimmed g
placed_faults_trimmed f g ts es e i s =
    subst AreFaultsTrimmed (sym e)
    (faults_trimmed-⊕ (with_trivia f ts) (trivia_before (remaining_after f ts)) (with_trivia_trimmed f ts [] (all_items f ts i) (reads_filled s))
    (faults_trimmed_trivia (remaining_after f ts)))

-- names contain their tokens alone, and an entry of a pattern begins with its name
pub placed_names : (f g : AnnotatedForest) (ts : List Token) (es : List Fault) → g ≡ with_all_trivia f ts → AreSpelled (tokens_in f) → ReadsRoot f es
    → AreNamesSingleTokens g
placed_names f g ts es e a s =
    subst AreNamesSingleTokens (sym e) (bare-⊕ (with_trivia f ts) (trivia_before (remaining_after f ts)) (with_trivia_names f ts (reads_single_names s a))
    (trivia_names (remaining_after f ts)))

-- without errors no node of a whole text begins or ends with trivia
pub placed_nodes_trimmed : (f g : AnnotatedForest) (ts : List Token) (es : List Fault) → g ≡ with_all_trivia f ts → items ts ≡ tokens_in f → ReadsRoot f es
    → es ≡ []
    → AreNodesTrimmed (forget g)
placed_nodes_trimmed f g ts es e i s n =
    subst (λ (x : AnnotatedForest). AreNodesTrimmed (forget x)) (sym e)
    (nodes_trimmed NODE_ROOT (with_all_trivia f ts) (with_all_trivia_leaf_kinds NODE_ROOT f ts (reads_leaf_kinds s))
    (edged-⊕ (with_trivia f ts) (trivia_before (remaining_after f ts)) (with_trivia_edged f ts [] (all_items f ts i) ((root_rows s).0 n).nodes)
    (edged_trivia (remaining_after f ts))))
