-- Everything that is promised about a text follows from its reading.
use Rattle.{std.proofs.Common.{◌≡◌, ◌↔◌, ◌≤◌, true, List, [], refl, ap, sym, ◌∙◌, subst}, rnix_kinds.specs.declared.kinds.SyntaxKind.TheVariants.NODE_ROOT}
use Rattle.{rnix_kinds.specs.Lexical.Tokens.Lexeme, rnix_green.specs.{Forest.Forest, Tree.Tree}, rnix_grammar.specs.{Tables.depth_limit, AnnotatedForest.Token}}
use Rattle.rnix_grammar.specs.{AnnotatedForest.{AnnotatedForest, blank, forget, tokens_in, without_trivia, placed_from, HaveLeafKinds}, Layout.items}
use Rattle.rnix_grammar.specs.{Trim.{AreFaultsTrimmed, AreNodesTrimmed}, Shape.{IsShaped, IsUnrepeated}, TriviaBetween.AreTriviaBetween, Named.is_repeated}
use Rattle.rnix_grammar.specs.{Named.Lacks, Repaired.{repaired, ended_count}, Extensions.has_no_extension, Fault.Fault, PathPieces.ArePaths, Nest.nest}
use Rattle.rnix_grammar.specs.{Grammar.IsExpression, Derivation.IsDerivation, Reads.ReadsRoot, Reading.IsReading, Parsed.IsParsed}
use Rattle.rnix_proof_lemmas.{specs.{RowReports.reports, Spelled.AreSpelled}, proofs.{ReachableRows.known_row, SpelledLemmas.{AreRuled, spelled_from}}}
use Rattle.{rnix_proof_lemmas.proofs.SpelledLemmas.without_trivia_spelled, rnix_proof_rows.proofs.{ReadsFaults.{Errors, reads_errors}, RootReadings.root_few}}
use Rattle.rnix_proof_rows.proofs.{RootReadings.{root_end_errors, root_begun, root_last}, TreeShapes.{root_shaped, without_trivia_reports}}
use Rattle.rnix_proof_rows.proofs.{TriviaBetweenLemmas.trivia_between, ReadsNest.reads_nested, NamedRows.are_named, WithAllTrivia.without_trivia_items}
use Rattle.rnix_proof_rows.proofs.WithAllTrivia.{placed_leaf_kinds, placed_faults_trimmed, placed_names, placed_nodes_trimmed}
use Rattle.rnix_proof_rows.proofs.{ReadsLeafKinds.reads_leaf_kinds, ReadsShapes.{AreErrorFreeRows, repaired_none, root_rows}, ErrorFreeDerivations.derived}
use Rattle.{rnix_proof_soundness.proofs.Converse.converse, rnix_proof_strict.proofs.GrammarLeaves.expression_fine, rnix_parser.proofs.Found.derivation_found}

-- what is known of a tree without trivia that may be a derivation
record IsFit (f : AnnotatedForest) (ts : List Token) (es : List Fault) : Type 0 where
  pub tokens : tokens_in f ≡ ts
  pub bare : es ≡ [] → AreErrorFreeRows f
  pub leaf_kind : HaveLeafKinds NODE_ROOT f
  pub spelled : AreSpelled (tokens_in f)
  pub nested : es ≡ [] → nest NODE_ROOT (forget f) ≤ depth_limit
  pub strict : es ≡ [] → has_no_extension NODE_ROOT (repaired f) ≡ true → IsExpression (repaired f)
  pub found : (t : Forest) → IsDerivation t ts → (es ≡ []) × (forget f ≡ t)

-- it is a derivation exactly if there is no error and no accepted extension
exact : (f : AnnotatedForest) (ts : List Token) (es : List Fault) → IsFit f ts es → ArePaths f [] →
    ((es ≡ []) × (has_no_extension NODE_ROOT (forget f) ≡ true)) ↔ ((t : Forest) × IsDerivation t ts)
exact f ts es w paths = (there, back)
  where
    there : (es ≡ []) × (has_no_extension NODE_ROOT (forget f) ≡ true) → (t : Forest) × IsDerivation t ts
    there h =
        let same : repaired f ≡ forget f = repaired_none f (w.bare h.0) in (
          forget f,
          subst (IsDerivation (forget f)) w.tokens (derived f (w.bare h.0) w.leaf_kind w.spelled
              (subst IsExpression same (w.strict h.0 (ap (has_no_extension NODE_ROOT) same ∙ h.1))) (w.nested h.0) paths),
        )

    back : ((t : Forest) × IsDerivation t ts) → (es ≡ []) × (has_no_extension NODE_ROOT (forget f) ≡ true)
    back h =
        let r = w.found h.0 h.1 in
        (r.0, ap (has_no_extension NODE_ROOT) r.1 ∙ (expression_fine h.1.strict).extension)

-- everything that is promised of a tree and its errors follows if they are a reading
pub all_follows : (ls : List Lexeme) (tree : Tree) (faults : List Fault) → AreRuled ls → IsReading ls tree faults → IsParsed ls tree faults
all_follows ls tree faults ruled r =
    let ts : List Token = placed_from 0 ls in
    let g : AnnotatedForest = r.annotated in
    let own : items ts ≡ tokens_in (without_trivia g) = without_trivia_items g ts r.leaves in
    let reads : ReadsRoot (without_trivia g) faults = r.reads in
    let errors : Errors (without_trivia g) [] (reports (without_trivia g)) faults = reads_errors reads (known_row NODE_ROOT) in
    let leaf_kind : HaveLeafKinds NODE_ROOT g = placed_leaf_kinds (without_trivia g) g ts faults r.placed reads in
    let trimmed : AreFaultsTrimmed g = placed_faults_trimmed (without_trivia g) g ts faults r.placed own reads in
    let nodes : faults ≡ [] → AreNodesTrimmed (forget g) = placed_nodes_trimmed (without_trivia g) g ts faults r.placed own reads in
    let spelled : AreSpelled (tokens_in (without_trivia g)) = without_trivia_spelled g (subst AreSpelled (sym r.leaves) (spelled_from 0 ls ruled)) in
    let nested : faults ≡ [] → nest NODE_ROOT (forget (without_trivia g)) ≤ depth_limit =
    λ h. reads_nested (without_trivia g) faults reads ((root_rows reads).0 h) in
    let strict : ended_count faults ≡ 0 → Lacks is_repeated faults → has_no_extension NODE_ROOT (repaired (without_trivia g)) ≡ true →
    IsExpression (repaired (without_trivia g)) = λ n r o.
    converse (without_trivia g) faults reads (are_named reads) spelled n r o in
    let met : (t : Forest) → IsDerivation t (items ts) → (faults ≡ []) × (forget (without_trivia g) ≡ t) =
    derivation_found (without_trivia g) (items ts) faults r.reads (sym own) in
    record {
      reading = r;
      leaf_kind = leaf_kind;
      trimmed = trimmed;
      bare = placed_names (without_trivia g) g ts faults r.placed spelled reads;
      paired = errors.reports ∙ without_trivia_reports blank g trimmed;
      named = errors.named;
      shaped = subst (λ (t : Tree). (faults ≡ []) ↔ (IsShaped t × IsUnrepeated t)) (sym r.tree_is)
          (root_shaped (without_trivia g) g faults reads refl leaf_kind nodes);
      few_incomplete = root_few reads;
      no_incomplete = root_end_errors reads;
      begun = root_begun reads;
      last_incomplete = root_last reads;
      settled = errors.settled;
      between = λ h. subst AreTriviaBetween (sym r.tree_is) (trivia_between (record { kind = NODE_ROOT; children = forget g }) (nodes h));
      nested = nested;
      found = met;
      converse = strict;
      exactly = exact (without_trivia g) (items ts) faults
          (record {
            tokens = sym own;
            bare = λ h. ((root_rows reads).0 h).nodes;
            leaf_kind = reads_leaf_kinds reads;
            spelled = spelled;
            nested = nested;
            strict = λ h o. strict (ap ended_count h) (subst (Lacks is_repeated) (sym h) tt) o;
            found = met;
          });
    }
