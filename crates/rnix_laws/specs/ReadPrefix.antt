-- A text whose items begin like those of a text without errors.
use Rattle.std.specs.Prelude.{◌≡◌, ℕ, false, List, [], take, None}
use Rattle.rnix_kinds.specs.Lexical.Tokens.{tokens_of}
use Rattle.rnix_green.specs.Tree.{Tree}
use Rattle.rnix_grammar.specs.Fault.{Fault}
use Rattle.rnix_grammar.specs.AnnotatedForest.{end_from}
use Rattle.rnix_grammar.specs.Reading.{IsReading}
use Rattle.rnix_proof_layout.specs.AlikeItems.{AreAlike}
use Rattle.rnix_proof_prefix.specs.Prefix.{BeginAllFrom, end_undecided}
use Rattle.rnix_parser.specs.ReadAlike.{items_of}

-- if the first k items of two texts are alike, and the second text is read without errors, each error of the first text that has a range begins after
-- these items, unless they end with `{` and `...`
abbrev pub HasCorrectPrefix : List ℕ → List ℕ → Type 0
HasCorrectPrefix x y =
    (k : ℕ) → AreAlike None 0 0 (take k (items_of x)) (take k (items_of y)) → end_undecided (take k (items_of x)) ≡ false
    → (t u : Tree) (ds : List Fault) → IsReading (tokens_of x) t ds → IsReading (tokens_of y) u []
    → BeginAllFrom (end_from 0 (take k (items_of x))) ds
