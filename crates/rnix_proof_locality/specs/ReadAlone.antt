-- The expressions of a text, and a text that has the items of one of them.
use Rattle.std.specs.Prelude.{◌≡◌, ℕ, List, [], None}
use Rattle.rnix_kinds.specs.Lexical.Tokens.{tokens_of}
use Rattle.rnix_green.specs.Tree.{Tree}
use Rattle.rnix_grammar.specs.Fault.{Fault}
use Rattle.rnix_grammar.specs.Derivation.{annotate, IsDerivation}
use Rattle.rnix_grammar.specs.Reading.{IsReading}
use Rattle.rnix_proof_layout.specs.AlikeItems.{AreAlike}
use Rattle.rnix_parser.specs.Significant.{significant}
use Rattle.rnix_parser.specs.ReadAlike.{items_of}
use Rattle.rnix_proof_locality.specs.Expressions.{Expression, alone, own_items, expressions}

-- the expressions of a text's tree, without trivia, with their items
abbrev pub expressions_in : List ℕ → Tree → List Expression
expressions_in text tree = expressions (annotate (significant tree.children) (items_of text))

-- an expression is a derivation of its own items
abbrev pub IsDerived : Expression → Type 0
IsDerived e = IsDerivation (alone e) (own_items e)

-- if the items of a text are like those of an expression, the text is read as that expression, without errors
abbrev pub IsReadAsExpression : List ℕ → Expression → Type 0
IsReadAsExpression text e =
    AreAlike None 0 0 (own_items e) (items_of text)
    → (tree : Tree) (faults : List Fault) → IsReading (tokens_of text) tree faults → (faults ≡ []) × (significant tree.children ≡ alone e)
