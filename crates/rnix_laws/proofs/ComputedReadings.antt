-- The reading of a text, computed by the machine.
use Rattle.std.proofs.Common.{◌≡◌, ℕ, false, List, [], refl, ap, sym, ◌∙◌, subst}
use Rattle.rnix_kinds.specs.{declared.kinds.SyntaxKind.TheVariants.NODE_ROOT, Lexical.Tokens.tokens_of}
use Rattle.{rnix_green.specs.{Forest.Forest, Tree.Tree}, rnix_grammar.specs.{Fault.Fault, Layout.with_all_trivia, Reading.IsReading}}
use Rattle.rnix_grammar.specs.AnnotatedForest.{Token, AnnotatedForest, forget, tokens_in, without_trivia, placed_from, end_from}
use Rattle.rnix_proof_lemmas.specs.Machine.{Machine, initial_machine, step, Runs}
use Rattle.rnix_proof_uniqueness.proofs.AllReads.{ended_with, ended_once, innermost_children, reads_runs}
use Rattle.rnix_proof_prefix.proofs.PrefixExamples.{steps, run}
use Rattle.rnix_parser.{specs.ReadAlike.items_of, proofs.OneReading.{has_reading, reading_items}}

-- the machine after `n` steps on a text
abbrev pub after : ℕ → List ℕ → Machine
after n text = steps n (initial_machine (items_of text))

-- no step changes it any more
abbrev pub IsEnd : ℕ → List ℕ → Type 0
IsEnd n text = step false (after n text) ≡ after n text

-- the tree that it has made, with the trivia of the text
abbrev pub tree_after : ℕ → List ℕ → Tree
tree_after n text =
    record { kind = NODE_ROOT; children = forget (with_all_trivia (innermost_children (after n text).frames) (placed_from 0 (tokens_of text))) }

-- each reading of the text has this tree and the errors of the machine
pub read_as : (n : ℕ) (text : List ℕ) → IsEnd n text → (tree : Tree) (faults : List Fault) → IsReading (tokens_of text) tree faults
    → (tree_after n text ≡ tree) × ((after n text).faults ≡ faults)
read_as n text end tree faults r =
    let ts : List Token = placed_from 0 (tokens_of text) in
    let f : AnnotatedForest = without_trivia r.annotated in
    let k : ℕ = end_from 0 (tokens_in f) in
    let runs : Runs false (initial_machine (items_of text)) (ended_with f k faults) =
    subst (λ (z : List Token). Runs false (initial_machine z) (ended_with f k faults)) (reading_items r) (reads_runs f faults r.reads) in
    let same : (innermost_children (after n text).frames ≡ f) × ((after n text).faults ≡ faults) =
    ended_once (items_of text) f k faults (after n text) runs (run n (initial_machine (items_of text))) end in
    let made : tree ≡ record { kind = NODE_ROOT; children = forget (with_all_trivia f ts) } =
    r.tree_is ∙ ap (λ (g : AnnotatedForest). record { kind = NODE_ROOT; children = forget g }) r.placed in
    (ap (λ (g : AnnotatedForest). record { kind = NODE_ROOT; children = forget (with_all_trivia g ts) }) same.0 ∙ sym made, same.1)

-- and they are a reading
pub reading : (n : ℕ) (text : List ℕ) → IsEnd n text → IsReading (tokens_of text) (tree_after n text) (after n text).faults
reading n text end =
    let r = has_reading (tokens_of text) in
    let same : (tree_after n text ≡ r.0) × ((after n text).faults ≡ r.1.0) = read_as n text end r.0 r.1.0 r.1.1 in
    subst (λ (t : Tree). IsReading (tokens_of text) t (after n text).faults) (sym same.0)
    (subst (λ (es : List Fault). IsReading (tokens_of text) r.0 es) (sym same.1) r.1.1)
