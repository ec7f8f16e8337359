-- The tree of a text that is read without errors.
use Rattle.std.proofs.Common.{◌≡◌, List, [], refl, ap, sym, subst}
use Rattle.rnix_kinds.specs.declared.kinds.SyntaxKind.TheVariants.{NODE_ROOT}
use Rattle.rnix_kinds.specs.Lexical.Tokens.{Lexeme}
use Rattle.rnix_green.specs.Forest.{Forest}
use Rattle.rnix_green.specs.Tree.{Tree}
use Rattle.rnix_grammar.specs.AnnotatedForest.{Token, AnnotatedForest, tokens_in, forget, without_trivia, placed_from, HaveLeafKinds}
use Rattle.rnix_grammar.specs.Layout.{trivia_before, remaining_after, with_trivia}
use Rattle.rnix_grammar.specs.Reading.{IsReading}
use Rattle.rnix_grammar.specs.Reads.{ReadsRoot}
use Rattle.rnix_proof_rows.proofs.ReadsShapes.{AreErrorFreeRows, root_rows}
use Rattle.rnix_proof_rows.proofs.WithAllTrivia.{all_items, without_trivia_items, placed_leaf_kinds}
use Rattle.rnix_proof_rows.proofs.WithTriviaEdges.{AreEdged, edged-⊕, edged_trivia, with_trivia_edged}
use Rattle.rnix_proof_reparse.proofs.PlacedAgain.{HaveItemEdges}
use Rattle.rnix_proof_reparse.proofs.BareNodes.{item_edges}

pub record IsCleanTree (ls : List Lexeme) (f : Forest) : Type 0 where
  pub annotated : AnnotatedForest
  pub forest : forget annotated ≡ f
  pub tokens : tokens_in annotated ≡ placed_from 0 ls
  pub kinds : HaveLeafKinds NODE_ROOT annotated
  pub edges : HaveItemEdges annotated
  pub reads : ReadsRoot (without_trivia annotated) []

pub clean_tree : (ls : List Lexeme) (f : Forest) → IsReading ls (record { kind = NODE_ROOT; children = f }) [] → IsCleanTree ls f
clean_tree ls f r =
    let a : AnnotatedForest = r.annotated in
    let bare : AnnotatedForest = without_trivia a in
    let ts : List Token = placed_from 0 ls in
    let rows : AreErrorFreeRows bare = ((root_rows r.reads).0 refl).nodes in
    let edged : AreEdged a = subst AreEdged (sym r.placed)
    (edged-⊕ (with_trivia bare ts) (trivia_before (remaining_after bare ts))
    (with_trivia_edged bare ts [] (all_items bare ts (without_trivia_items a ts r.leaves)) rows) (edged_trivia (remaining_after bare ts))) in
    record {
      annotated = a;
      forest = sym (ap (λ (t : Tree). t.children) r.tree_is);
      tokens = r.leaves;
      kinds = placed_leaf_kinds bare a ts [] r.placed r.reads;
      edges = item_edges a edged rows;
      reads = r.reads;
    }
