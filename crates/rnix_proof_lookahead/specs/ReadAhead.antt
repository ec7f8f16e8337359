-- Two texts that begin alike.
use Rattle.std.specs.Prelude.{◌≡◌, ℕ, List, take, drop, None}
use Rattle.rnix_kinds.specs.Lexical.Tokens.{tokens_of}
use Rattle.rnix_green.specs.Tree.{Tree}
use Rattle.rnix_grammar.specs.Fault.{Fault}
use Rattle.rnix_grammar.specs.AnnotatedForest.{end_from}
use Rattle.rnix_grammar.specs.Reading.{IsReading}
use Rattle.rnix_parser.specs.Significant.{significant}
use Rattle.rnix_parser.specs.ReadAlike.{items_of}
use Rattle.rnix_proof_lookahead.specs.Completed.{completed}
use Rattle.rnix_proof_lookahead.specs.ErrorsBefore.{errors_before}
use Rattle.rnix_proof_lookahead.specs.AlikeStarts.{BeginAlike, AreNext}

-- if the first k items of two texts are alike, and the next ones except for their texts, the first k items complete the same trees
abbrev pub AreCompletedAlike : List ℕ → List ℕ → Type 0
AreCompletedAlike x y =
    (k : ℕ) → BeginAlike k None 0 0 (items_of x) (items_of y)
    → (t u : Tree) (ds es : List Fault) → IsReading (tokens_of x) t ds → IsReading (tokens_of y) u es
    → completed k (significant t.children) ≡ completed k (significant u.children)

-- if the first k items of two texts are the same, and the next ones have the same kind and touch alike, the errors about unexpected items that begin
-- before the end of the first k are the same, up to that end
abbrev pub HaveSameErrors : List ℕ → List ℕ → Type 0
HaveSameErrors x y =
    (k : ℕ) → take k (items_of x) ≡ take k (items_of y)
    → AreNext (end_from 0 (take k (items_of x))) (drop k (items_of x)) (drop k (items_of y))
    → (t u : Tree) (ds es : List Fault) → IsReading (tokens_of x) t ds → IsReading (tokens_of y) u es
    → errors_before (end_from 0 (take k (items_of x))) ds ≡ errors_before (end_from 0 (take k (items_of x))) es
