-- Texts whose items are alike are read as the same tree apart from trivia.
use Rattle.{std.proofs.Common.{◌≡◌, ℕ, List, None, ap, sym, ◌∙◌, subst}, rnix_kinds.specs.Lexical.Tokens.{Lexeme, tokens_of}, rnix_green.specs.Tree.Tree}
use Rattle.rnix_grammar.specs.{Fault.Fault, AnnotatedForest.{Token, AnnotatedForest, forget, tokens_in, without_trivia, placed_from}, Layout.items}
use Rattle.{rnix_grammar.specs.{Reading.IsReading, Parsed.IsParsed}, rnix_proof_lemmas.proofs.{ReportLemmas.without_trivia_tokens, SpelledLemmas.AreRuled}}
use Rattle.{rnix_proof_uniqueness.proofs.AllReads.one_row, rnix_proof_layout.{specs.AlikeItems.{AreAlike, AreSameFaults}, proofs.AlikeReadings.alike_readings}}
use Rattle.rnix_parser.{specs.ReadAlike.{items_of, AreReadAlike}, proofs.{ParsedLemmas.all_follows, SignificantTrees.significant_tree}}

-- the items of a reading are those of its tokens
own_items : {ls : List Lexeme} {tree : Tree} {faults : List Fault} (r : IsReading ls tree faults)
    → tokens_in (without_trivia r.annotated) ≡ items (placed_from 0 ls)
own_items r = without_trivia_tokens r.annotated ∙ ap items r.leaves

pub alike_texts : (x y : List ℕ) → AreRuled (tokens_of x) → AreRuled (tokens_of y) → AreReadAlike x y
alike_texts x y a b alike t u ds es r s =
    let p : IsParsed (tokens_of x) t ds = all_follows (tokens_of x) t ds a r in
    let q : IsParsed (tokens_of y) u es = all_follows (tokens_of y) u es b s in
    let f : AnnotatedForest = without_trivia p.reading.annotated in
    let g : AnnotatedForest = without_trivia q.reading.annotated in
    let here : tokens_in f ≡ items_of x = own_items p.reading in
    let there : tokens_in g ≡ items_of y = own_items q.reading in
    let moved : AreAlike None 0 0 (tokens_in f) (tokens_in g) =
    subst (λ (z : List Token). AreAlike None 0 0 z (tokens_in g)) (sym here) (subst (AreAlike None 0 0 (items_of x)) (sym there) alike) in
    let same : (forget f ≡ forget g) × AreSameFaults (tokens_in f) (tokens_in g) ds es =
    alike_readings one_row f g ds es p.reading.reads q.reading.reads moved in (
      significant_tree p ∙ same.0 ∙ sym (significant_tree q),
      subst (λ (z : List Token). AreSameFaults z (items_of y) ds es) here (subst (λ (z : List Token). AreSameFaults (tokens_in f) z ds es) there same.1),
    )
