-- How an operand begins: its first three items decide the kind of its first tree.
use Rattle.std.specs.Prelude.{◌≡◌, ℕ, ◌≤◌, false, List, [], ◌∷◌, ◌++◌, Option, Some, None}
use Rattle.rnix_grammar.specs.AnnotatedForest.{Token, AnnotatedForest, tokens_in, head_kind}
use Rattle.rnix_grammar.specs.OperandStarts.{first_kind, second_kind}
use Rattle.rnix_grammar.specs.TreeLevels.{row_level}
use Rattle.rnix_grammar.specs.Operands.{first_tree, is_continued}

-- the first tree of an operand of a level has the kind that its first three items decide
abbrev pub BeginsAs : ℕ → AnnotatedForest → List Token → Type 0
BeginsAs level x [] = ⊥
BeginsAs level x (t ∷ ts) = first_kind level t.kind t.text (head_kind ts) (second_kind ts) ≡ first_tree x

-- an operand before some items, if the position requires a level: it binds at least as tightly as that level, begins as its items decide, and the next
-- item does not continue it
abbrev pub IsOperandOf : Option ℕ → AnnotatedForest → List Token → Type 0
IsOperandOf None x after = Unit {0}
IsOperandOf (Some level) x after = (level ≤ row_level x) × BeginsAs level x (tokens_in x ++ after) × (is_continued level x after ≡ false)
