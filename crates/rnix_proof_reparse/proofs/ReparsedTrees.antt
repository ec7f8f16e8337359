-- The tree of a text in which a bracketed node is replaced by another that is read alone without errors.
use Rattle.std.proofs.Common.{◌≡◌, ℕ, List, [], ◌∷◌, ◌++◌, map, None, refl, ap, sym, ◌∙◌, subst}
use Rattle.rnix_kinds.specs.declared.kinds.SyntaxKind.{SyntaxKind}
use Rattle.rnix_kinds.specs.declared.kinds.SyntaxKind.TheVariants.{NODE_ROOT}
use Rattle.rnix_kinds.specs.SyntaxKind.{is_trivia}
use Rattle.rnix_kinds.specs.Lexical.Tokens.{Lexeme}
use Rattle.rnix_green.specs.Forest.{Forest, empty, leaf, join}
use Rattle.rnix_green.specs.Tree.{Tree}
use Rattle.rnix_grammar.specs.AnnotatedForest.{Token, lexeme_of, AnnotatedForest, blank, token, branch}
use Rattle.rnix_grammar.specs.AnnotatedForest.{fault, ◌⊕◌, one_token, tokens_in, forget, without_trivia}
use Rattle.rnix_grammar.specs.AnnotatedForest.{placed_from, leaf_kind, HaveLeafKinds}
use Rattle.rnix_grammar.specs.Fault.{Fault}
use Rattle.rnix_grammar.specs.Layout.{items, with_all_trivia}
use Rattle.rnix_grammar.specs.Nesting.{depth_of}
use Rattle.rnix_grammar.specs.Reading.{IsReading}
use Rattle.rnix_grammar.specs.Reads.{ReadsRoot}
use Rattle.rnix_grammar.specs.Rules.{row}
use Rattle.rnix_proof_lemmas.proofs.AnnotatedForestLemmas.{forget-⊕, tokens_two, tokens_in-⊕}
use Rattle.rnix_proof_lemmas.proofs.LayoutLemmas.{leaf_kind-⊕}
use Rattle.rnix_proof_lemmas.proofs.ReportLemmas.{without_trivia_tokens}
use Rattle.rnix_proof_rows.proofs.ReadsShapes.{root_rows}
use Rattle.rnix_proof_uniqueness.proofs.AllReads.{one_row}
use Rattle.rnix_proof_layout.specs.AlikeItems.{AreAlike, AreSameFaults}
use Rattle.rnix_proof_layout.proofs.AlikeReadings.{alike_readings}
use Rattle.rnix_parser.proofs.OneReading.{reading_items}
use Rattle.rnix_proof_reparse.specs.Bracketed.{IsBracketed}
use Rattle.rnix_proof_reparse.specs.LevelsAround.{between}
use Rattle.rnix_proof_reparse.proofs.CarriedReadings.{ending}
use Rattle.rnix_proof_reparse.proofs.ReplacedReadings.{MayStand}
use Rattle.rnix_proof_reparse.proofs.BracketedNodes.{starting, bracketed, BeginsItself, may_stand}
use Rattle.rnix_proof_reparse.proofs.PlacedAgain.{StopsWithItem, HaveItemEdges, placed_again}
use Rattle.rnix_proof_reparse.proofs.SwappedEdges.{HasItemEdges, stops_later}
use Rattle.rnix_proof_reparse.proofs.DressedTrees.{dressed_same}
use Rattle.rnix_proof_reparse.proofs.BareNodes.{bracket_kinds, kind_alone, bare_bracketed}
use Rattle.rnix_proof_reparse.proofs.NodeReadings.{IsAlone}
use Rattle.rnix_proof_reparse.proofs.ReparsedTokens.{lexemes_placed}

-- the tokens of a bracketed node, before others
pub bracket_tokens : (l : SyntaxKind) (t : Token) (x : AnnotatedForest) (r : SyntaxKind) (u : Token) (ts : List Token)
    → tokens_in (bracketed l t x r u) ++ ts ≡ t ∷ (tokens_in x ++ (u ∷ ts))
bracket_tokens l t x r u ts = ap (λ z. t ∷ z) (tokens_two x (one_token r u) ts)

-- the nodes between the brackets, and the closing bracket, begin and end with items
edges_join : (x : AnnotatedForest) (r : SyntaxKind) (u : Token) → HaveItemEdges x → HaveItemEdges (x ⊕ one_token r u)
edges_join blank r u h = tt
edges_join (token j t x) r u h = edges_join x r u h
edges_join (branch j c x) r u h = (h.0, h.1, h.2, edges_join x r u h.3)
edges_join (fault n c x) r u h = absurd h

pub edges_first : (x : AnnotatedForest) (r : SyntaxKind) (u : Token) → HaveItemEdges (x ⊕ one_token r u) → HaveItemEdges x
edges_first blank r u h = tt
edges_first (token j t x) r u h = edges_first x r u h
edges_first (branch j c x) r u h = (h.0, h.1, h.2, edges_first x r u h.3)
edges_first (fault n c x) r u h = absurd h

-- the kinds of the brackets and of the leaves between them
pub record HaveEndKinds (k l r : SyntaxKind) (t u : Token) (x : AnnotatedForest) : Type 0 where
  pub opening : t.kind ≡ l
  pub closing : u.kind ≡ r
  pub inner : HaveLeafKinds k x

kinds_last : (k : SyntaxKind) (x : AnnotatedForest) (r : SyntaxKind) (u : Token) → HaveLeafKinds k (x ⊕ one_token r u)
    → HaveLeafKinds k x × (r ≡ leaf_kind k u)
kinds_last k blank r u h = (tt, h.0)
kinds_last k (token j t x) r u h = let w = kinds_last k x r u h.1 in ((h.0, w.0), w.1)
kinds_last k (branch j c x) r u h = let w = kinds_last k x r u h.1 in ((h.0, w.0), w.1)
kinds_last k (fault n c x) r u h = let w = kinds_last k x r u h.1 in ((h.0, w.0), w.1)

pub end_kinds : {k l r : SyntaxKind} (w : IsBracketed k l r) (t u : Token) (x : AnnotatedForest) → HaveLeafKinds k (bracketed l t x r u)
    → HaveEndKinds k l r t u x
end_kinds {k} {l} {r} w t u x h =
    let m = kinds_last k x r u h.1 in
    record { opening = sym (h.0 ∙ kind_alone w t.kind); closing = sym (m.1 ∙ kind_alone w u.kind); inner = m.0 }

-- a bracketed node with the brackets' ranges of another one
module _ {k l r : SyntaxKind} (w : IsBracketed k l r) (t u a b : Token) (x y : AnnotatedForest) (was : HaveEndKinds k l r t u x)
    (now : HaveEndKinds k l r a b y) where
  abbrev pub moved : AnnotatedForest
  moved = bracketed l (starting a t.start) y r (ending b u.end)

  pub moved_kinds : HaveLeafKinds k moved
  moved_kinds = (
    sym (kind_alone w a.kind ∙ now.opening),
    leaf_kind-⊕ k y (one_token r (ending b u.end)) now.inner (sym (kind_alone w b.kind ∙ now.closing), tt),
  )

  pub moved_edges : HaveItemEdges y → HasItemEdges moved
  moved_edges h = record {
    starts = ap is_trivia now.opening ∙ (bracket_kinds w).0;
    stops = subst (λ z. StopsWithItem (starting a t.start ∷ z)) (sym (tokens_in-⊕ y (one_token r (ending b u.end))))
        (stops_later (starting a t.start ∷ tokens_in y) (ending b u.end ∷ []) tt (ap is_trivia now.closing ∙ (bracket_kinds w).1));
    nodes = edges_join y r (ending b u.end) h;
  }

  pub moved_stands : BeginsItself k l t (without_trivia x) r u → BeginsItself k l a (without_trivia y) r b → IsAlone k (bracketed l a (without_trivia y) r b)
      → MayStand k (without_trivia (bracketed l t x r u)) (without_trivia moved) (depth_of (row k) (bracketed l a (without_trivia y) r b))
  moved_stands old new alone =
      subst (λ z. MayStand k z (without_trivia moved) (depth_of (row k) (bracketed l a (without_trivia y) r b)))
      (sym (bare_bracketed l r t u x (ap is_trivia was.opening ∙ (bracket_kinds w).0) (ap is_trivia was.closing ∙ (bracket_kinds w).1)))
      (subst (λ z. MayStand k (bracketed l t (without_trivia x) r u) z (depth_of (row k) (bracketed l a (without_trivia y) r b)))
      (sym (bare_bracketed l r (starting a t.start) (ending b u.end) y (ap is_trivia now.opening ∙ (bracket_kinds w).0)
      (ap is_trivia now.closing ∙ (bracket_kinds w).1)))
      (may_stand w t u (without_trivia x) a b (without_trivia y) was.opening was.closing now.opening now.closing old new alone.reads alone.ended))

  -- the trees of that node
  pub moved_forest : (s : List ℕ) (d : Forest) (v : List ℕ) → a.text ≡ s → forget y ≡ d → b.text ≡ v → forget moved ≡ between l s d r v
  moved_forest s d v e h g =
      ap (leaf l a.text) (forget-⊕ y (one_token r (ending b u.end)) ∙ ap (λ z. join z (leaf r b.text empty)) h ∙ ap (λ z. join d (leaf r z empty)) g)
      ∙ ap (λ z. leaf l z (join d (leaf r v empty))) e

-- errors that are the same as none are none
no_errors : (xs ys : List Token) (es : List Fault) → AreSameFaults xs ys [] es → es ≡ []
no_errors xs ys [] h = refl
no_errors xs ys (e ∷ es) h = absurd h

-- trees that are read without errors are the tree of a text whose items are like theirs
pub read_as_trees : (p : AnnotatedForest) → ReadsRoot (without_trivia p) [] → HaveLeafKinds NODE_ROOT p → HaveItemEdges p → (ls : List Lexeme)
    → map lexeme_of (tokens_in p) ≡ ls → AreAlike None 0 0 (items (tokens_in p)) (items (placed_from 0 ls))
    → (tree : Tree) (faults : List Fault) → IsReading ls tree faults → (tree ≡ record { kind = NODE_ROOT; children = forget p }) × (faults ≡ [])
read_as_trees p reads kinds edges ls same alike tree faults s =
    let f : AnnotatedForest = without_trivia p in
    let g : AnnotatedForest = without_trivia s.annotated in
    let here : tokens_in f ≡ items (tokens_in p) = without_trivia_tokens p in
    let there : tokens_in g ≡ items (placed_from 0 ls) = reading_items s in
    let moved : AreAlike None 0 0 (tokens_in f) (tokens_in g) =
    subst (λ (z : List Token). AreAlike None 0 0 z (tokens_in g)) (sym here)
    (subst (λ (z : List Token). AreAlike None 0 0 (items (tokens_in p)) z) (sym there) alike) in
    let one = alike_readings one_row f g [] faults reads s.reads moved in
    let none : faults ≡ [] = no_errors (tokens_in f) (tokens_in g) faults one.1 in
    let trees : forget (with_all_trivia g (placed_from 0 ls)) ≡ forget (with_all_trivia f (tokens_in p)) =
    dressed_same g f ((root_rows s.reads).0 none).nodes ((root_rows reads).0 refl).nodes (placed_from 0 ls) (tokens_in p) (sym one.0)
    (lexemes_placed 0 ls ∙ sym same) in (
      s.tree_is ∙ ap (λ (z : Forest). record { kind = NODE_ROOT; children = z })
          (ap forget s.placed ∙ trees ∙ ap forget (placed_again NODE_ROOT p kinds edges)),
      none,
    )
