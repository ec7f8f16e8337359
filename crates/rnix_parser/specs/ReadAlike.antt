-- Two texts whose items are alike.
use Rattle.std.specs.Prelude.{◌≡◌, ℕ, List, None}
use Rattle.rnix_kinds.specs.Lexical.Tokens.{tokens_of}
use Rattle.rnix_green.specs.Tree.{Tree}
use Rattle.rnix_grammar.specs.Fault.{Fault}
use Rattle.rnix_grammar.specs.AnnotatedForest.{Token, placed_from}
use Rattle.rnix_grammar.specs.Layout.{items}
use Rattle.rnix_grammar.specs.Reading.{IsReading}
use Rattle.rnix_proof_layout.specs.AlikeItems.{AreAlike, AreSameFaults}
use Rattle.rnix_parser.specs.Significant.{significant}

-- the items of a text
abbrev pub items_of : List ℕ → List Token
items_of text = items (placed_from 0 (tokens_of text))

-- if the items of two texts are alike, they are read as the same tree apart from trivia, with the same errors of the same items
abbrev pub AreReadAlike : List ℕ → List ℕ → Type 0
AreReadAlike x y =
    AreAlike None 0 0 (items_of x) (items_of y)
    → (t u : Tree) (ds es : List Fault) → IsReading (tokens_of x) t ds → IsReading (tokens_of y) u es
    → (significant t.children ≡ significant u.children) × AreSameFaults (items_of x) (items_of y) ds es
