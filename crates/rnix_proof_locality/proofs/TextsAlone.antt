-- A text whose items are like those of an expression that is a derivation of them is read as that expression.
use Rattle.std.{specs.List.All, proofs.{Common.{◌≡◌, ℕ, List, [], ◌∷◌, None, refl, sym, ◌∙◌, subst, get_or}, lemmas.List.Elements.All-weaker}}
use Rattle.{rnix_kinds.specs.Lexical.Tokens.tokens_of, rnix_green.specs.Tree.Tree, rnix_grammar.specs.{Fault.Fault, AnnotatedForest.{Token, AnnotatedForest}}}
use Rattle.rnix_grammar.specs.{AnnotatedForest.{tokens_in, without_trivia}, Derivation.{annotate, IsDerivation}, Parsed.IsParsed}
use Rattle.{rnix_proof_lemmas.proofs.SpelledLemmas.AreRuled, rnix_proof_uniqueness.proofs.AllReads.one_row, rnix_proof_layout.specs.AlikeItems.AreAlike}
use Rattle.{rnix_proof_layout.{specs.AlikeItems.AreSameFaults, proofs.AlikeReadings.alike_readings}, rnix_parser.specs.Significant.significant}
use Rattle.rnix_parser.{specs.ReadAlike.items_of, proofs.{ParsedLemmas.all_follows, OneReading.reading_items, SignificantTrees.significant_tree}}
use Rattle.{rnix_parser.proofs.Found.{annotate_derivation, derivation_reads}, rnix_proof_locality.specs.Expressions.{Expression, alone, own_items}}
use Rattle.rnix_proof_locality.{specs.ReadAlone.{expressions_in, IsDerived, IsReadAsExpression}, proofs.DerivedExpressions.derived_expressions}

-- errors that are the same as none are none
no_errors : (xs ys : List Token) (es : List Fault) → AreSameFaults xs ys [] es → es ≡ []
no_errors xs ys [] h = refl
no_errors xs ys (e ∷ es) h = absurd h

-- a text whose items are like those of an expression that is a derivation is read as this expression
pub read_as : (y : List ℕ) → AreRuled (tokens_of y) → (e : Expression) → IsDerived e → IsReadAsExpression y e
read_as y ruled e d alike u es s =
    let l = annotate_derivation (alone e) (own_items e) d in
    let q : IsParsed (tokens_of y) u es = all_follows (tokens_of y) u es ruled s in
    let f : AnnotatedForest = annotate (alone e) (own_items e) in
    let g : AnnotatedForest = without_trivia q.reading.annotated in
    let there : tokens_in g ≡ items_of y = reading_items q.reading in
    let moved : AreAlike None 0 0 (tokens_in f) (tokens_in g) =
    subst (λ (z : List Token). AreAlike None 0 0 z (tokens_in g)) (sym l.tokens) (subst (AreAlike None 0 0 (own_items e)) (sym there) alike) in
    let same = alike_readings one_row f g [] es (derivation_reads (alone e) (own_items e) d) q.reading.reads moved in
    (no_errors (tokens_in f) (tokens_in g) es same.1, significant_tree q ∙ sym same.0 ∙ l.forest)

pub read_each : (y : List ℕ) → AreRuled (tokens_of y) → (es : List Expression) → All (λ e. IsDerived e → IsReadAsExpression y e) es
read_each y ruled es k d l = read_as y ruled (get_or es k d)

-- the same for each expression of a derivation of a text
pub read_parts : (x y : List ℕ) → AreRuled (tokens_of y) → (t : Tree) → IsDerivation (significant t.children) (items_of x)
    → All (IsReadAsExpression y) (expressions_in x t)
read_parts x y ruled t d =
    All-weaker IsDerived (IsReadAsExpression y) (read_as y ruled) (expressions_in x t) (derived_expressions (significant t.children) (items_of x) d)
