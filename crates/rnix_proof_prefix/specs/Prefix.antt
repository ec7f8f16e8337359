-- Where errors begin, and how a text may begin so that the next item decides what it becomes.
use Rattle.std.specs.Prelude.{◌≤◌, ℕ, Bool, true, false, List, [], ◌∷◌}
use Rattle.rnix_kinds.specs.declared.kinds.SyntaxKind.{SyntaxKind}
use Rattle.rnix_kinds.specs.declared.kinds.SyntaxKind.TheVariants.{TOKEN_L_BRACE, TOKEN_ELLIPSIS}
use Rattle.rnix_grammar.specs.Fault.{Fault, unexpected_at, extra, unwanted, double_bind, duplicated_args}
use Rattle.rnix_grammar.specs.AnnotatedForest.{Token}

-- an error does not begin before a byte, if it has a range
abbrev pub BeginsFrom : ℕ → Fault → Type 0
BeginsFrom m (unexpected_at a) = m ≤ a.start
BeginsFrom m (extra a) = m ≤ a.start
BeginsFrom m (unwanted kind a wanted) = m ≤ a.start
BeginsFrom m (double_bind a) = m ≤ a.start
BeginsFrom m (duplicated_args a name) = m ≤ a.start
BeginsFrom m d = Unit {0}

-- no error begins before a byte, if it has a range
abbrev pub BeginAllFrom : ℕ → List Fault → Type 0
BeginAllFrom m [] = Unit {0}
BeginAllFrom m (d ∷ ds) = BeginsFrom m d × BeginAllFrom m ds

-- the tokens `{` and `...`, after which the next item decides whether a pattern or a set has begun
abbrev pub are_undecided : SyntaxKind → SyntaxKind → Bool
are_undecided TOKEN_L_BRACE TOKEN_ELLIPSIS = true
are_undecided j k = false

-- some items end with these two
abbrev pub end_undecided : List Token → Bool
end_undecided [] = false
end_undecided (t ∷ []) = false
end_undecided (t ∷ (u ∷ [])) = are_undecided t.kind u.kind
end_undecided (t ∷ (u ∷ (v ∷ vs))) = end_undecided (u ∷ (v ∷ vs))
