-- Two texts that begin with the same items and continue with an item of the same kind.
use Rattle.std.proofs.Common.{◌≡◌, ℕ, List, take, drop, None, ap, sym, ◌∙◌, subst}
use Rattle.{rnix_kinds.specs.Lexical.Tokens.tokens_of, rnix_proof_lemmas.proofs.SpelledLemmas.AreRuled, rnix_parser.specs.ReadAlike.items_of}
use Rattle.rnix_grammar.specs.{AnnotatedForest.{Token, AnnotatedForest, tokens_in, without_trivia, placed_from, end_from}, Parsed.IsParsed}
use Rattle.rnix_proof_prefix.proofs.Ordered.{AreOrdered, ordered_placed, ordered_items}
use Rattle.rnix_parser.proofs.{ParsedLemmas.all_follows, OneReading.reading_items, SignificantTrees.significant_tree}
use Rattle.rnix_proof_lookahead.specs.{Completed.completed, ErrorsBefore.errors_before, AlikeStarts.{BeginAlike, AreNext}, ReadAhead.{AreCompletedAlike, HaveSameErrors}}
use Rattle.rnix_proof_lookahead.proofs.SameTrees.{same_trees, same_errors}

-- their shared items complete the same trees
pub same_completed : (x y : List ℕ) → AreRuled (tokens_of x) → AreRuled (tokens_of y) → AreCompletedAlike x y
same_completed x y a b k alike t u ds es r s =
    let p : IsParsed (tokens_of x) t ds = all_follows (tokens_of x) t ds a r in
    let q : IsParsed (tokens_of y) u es = all_follows (tokens_of y) u es b s in
    let f : AnnotatedForest = without_trivia p.reading.annotated in
    let g : AnnotatedForest = without_trivia q.reading.annotated in
    let here : tokens_in f ≡ items_of x = reading_items p.reading in
    let there : tokens_in g ≡ items_of y = reading_items q.reading in
    let moved : BeginAlike k None 0 0 (tokens_in f) (tokens_in g) =
    subst (λ (z : List Token). BeginAlike k None 0 0 z (tokens_in g)) (sym here) (subst (BeginAlike k None 0 0 (items_of x)) (sym there) alike) in
    ap (completed k) (significant_tree p) ∙ same_trees k f g ds es p.reading.reads q.reading.reads moved ∙ sym (ap (completed k) (significant_tree q))

-- the items of a text are in order
in_order : (x : List ℕ) → AreOrdered 0 (items_of x)
in_order x = ordered_items 0 (placed_from 0 (tokens_of x)) (ordered_placed 0 (tokens_of x))

-- the first `k` items of two lists are the same, and the next ones have the same kind and touch alike, or there are none
abbrev SameBefore : ℕ → List Token → List Token → Type 0
SameBefore k ts us = (take k ts ≡ take k us) × AreNext (end_from 0 (take k ts)) (drop k ts) (drop k us)

pub same_errors_before : (x y : List ℕ) → HaveSameErrors x y
same_errors_before x y k same next t u ds es r s =
    let f : AnnotatedForest = without_trivia r.annotated in
    let g : AnnotatedForest = without_trivia s.annotated in
    let here : tokens_in f ≡ items_of x = reading_items r in
    let there : tokens_in g ≡ items_of y = reading_items s in
    let both : SameBefore k (tokens_in f) (tokens_in g) =
    subst (λ (z : List Token). SameBefore k z (tokens_in g)) (sym here) (subst (λ (z : List Token). SameBefore k (items_of x) z) (sym there) (same, next)) in
    subst (λ (z : List Token). errors_before (end_from 0 (take k z)) ds ≡ errors_before (end_from 0 (take k z)) es) here
    (same_errors k f g ds es r.reads s.reads (subst (AreOrdered 0) (sym here) (in_order x)) (subst (AreOrdered 0) (sym there) (in_order y)) both.0 both.1)
