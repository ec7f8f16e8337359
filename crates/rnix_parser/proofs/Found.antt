-- A derivation of a text is found, and there is no other.
use Rattle.{std.proofs.Common.{◌≡◌, List, [], ap, sym, subst, ◌∙◌}, rnix_green.specs.Forest.Forest}
use Rattle.rnix_grammar.specs.{Fault.Fault, AnnotatedForest.{Token, AnnotatedForest, tokens_in, forget}, Reads.ReadsRoot}
use Rattle.{rnix_grammar.specs.Derivation.{annotate, IsDerivation}, rnix_proof_lemmas.proofs.AnnotateLemmas.{IsAnnotatedRoot, annotate_root}}
use Rattle.{rnix_proof_completeness.proofs.{GrammarReads.expression_reads, OverTokens.{Over, over_trees}}, rnix_proof_uniqueness.proofs.AllReads.one_row}
use Rattle.rnix_proof_strict.proofs.GrammarLeaves.{expression_fine}

-- a derivation can be annotated with its items
pub annotate_derivation : (t : Forest) (ts : List Token) → IsDerivation t ts → IsAnnotatedRoot t ts
annotate_derivation t ts d = annotate_root t ts (expression_fine d.strict).tokens d.yields

-- a derivation is a reading of its items, without errors
pub derivation_reads : (t : Forest) (ts : List Token) → IsDerivation t ts → ReadsRoot (annotate t ts) []
derivation_reads t ts d =
    let l = annotate_derivation t ts d in
    let over : Over t (annotate t ts) = subst (λ z. Over z (annotate t ts)) l.forest (over_trees (annotate t ts) l.spelled) in
    expression_reads d.strict (annotate t ts) over d.joined d.shallow

-- if items with a derivation are read, they are read as this derivation, without errors
pub derivation_found : (f : AnnotatedForest) (ts : List Token) (es : List Fault) → ReadsRoot f es → tokens_in f ≡ ts → (t : Forest) → IsDerivation t ts →
    (es ≡ []) × (forget f ≡ t)
derivation_found f ts es r e t d =
    let l = annotate_derivation t ts d in
    let same = one_row f (annotate t ts) es [] r (derivation_reads t ts d) (e ∙ sym l.tokens) in
    (same.1, ap forget same.0 ∙ l.forest)

-- some items have at most one derivation
pub derivation_alone : (t u : Forest) (ts : List Token) → IsDerivation t ts → IsDerivation u ts → t ≡ u
derivation_alone t u ts d e =
    let l = annotate_derivation t ts d in
    sym l.forest ∙ (derivation_found (annotate t ts) ts [] (derivation_reads t ts d) l.tokens u e).1
