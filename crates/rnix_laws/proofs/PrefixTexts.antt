-- The items with which a text without errors begins have no error in any other text.
use Rattle.{std.proofs.Common.{◌≡◌, ℕ, false, List, take, None, refl, sym, subst}, rnix_kinds.specs.Lexical.Tokens.tokens_of}
use Rattle.rnix_grammar.specs.AnnotatedForest.{AnnotatedForest, tokens_in, without_trivia, placed_from, end_from}
use Rattle.{rnix_proof_uniqueness.proofs.AllReads.{ended_with, reads_runs}, rnix_proof_layout.specs.AlikeItems.AreAlike}
use Rattle.rnix_proof_prefix.{specs.Prefix.{BeginAllFrom, end_undecided}, proofs.{Ordered.{AreOrdered, ordered_placed, ordered_items}, PrefixReadings.AllRun}}
use Rattle.{rnix_proof_prefix.proofs.PrefixReadings.prefix_readings, rnix_parser.specs.ReadAlike.items_of, rnix_laws.specs.ReadPrefix.HasCorrectPrefix}
use Rattle.rnix_parser.proofs.OneReading.{reading_items}

-- each reading is the result of the steps
all_run : AllRun
all_run f ds r = record { last = ended_with f (end_from 0 (tokens_in f)) ds; runs = reads_runs f ds r; over = refl; clean = (tt, tt); faults = refl }

pub prefix_texts : (x y : List ℕ) → HasCorrectPrefix x y
prefix_texts x y k alike decided t u ds r s =
    let f : AnnotatedForest = without_trivia r.annotated in
    let g : AnnotatedForest = without_trivia s.annotated in
    let here = reading_items r in
    let there = reading_items s in
    subst (λ z. BeginAllFrom (end_from 0 (take k z)) ds) here
    (prefix_readings all_run k f g ds r.reads s.reads
    (subst (AreOrdered 0) (sym here) (ordered_items 0 (placed_from 0 (tokens_of x)) (ordered_placed 0 (tokens_of x))))
    (subst (λ z. AreAlike None 0 0 (take k z) (take k (tokens_in g))) (sym here)
    (subst (λ z. AreAlike None 0 0 (take k (items_of x)) (take k z)) (sym there) alike))
    (subst (λ z. end_undecided (take k z) ≡ false) (sym here) decided))
