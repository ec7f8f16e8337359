-- Repaired trees, without error nodes, and which of their nodes are complete; which errors are at the end of the text.
use Rattle.std.specs.Prelude.{◌≡◌, ℕ, ◌+◌, Bool, true, false, List, [], ◌∷◌, codes, if◌then◌else◌}
use Rattle.rnix_kinds.specs.declared.kinds.SyntaxKind.{SyntaxKind}
use Rattle.rnix_kinds.specs.declared.kinds.SyntaxKind.TheVariants.{TOKEN_INTEGER, NODE_LITERAL}
use Rattle.rnix_green.specs.Forest.{Forest, empty, leaf, node}
use Rattle.rnix_grammar.specs.declared.expected_set.ExpectedSet.{ExpectedSet}
use Rattle.rnix_grammar.specs.declared.expected_set.ExpectedSet.TheVariants.{End}
use Rattle.rnix_grammar.specs.Fault.{Fault, extra, unwanted, unexpected_eof, unexpected_eof_wanted}
use Rattle.rnix_grammar.specs.Tables.{wanted_kinds}
use Rattle.rnix_grammar.specs.AnnotatedForest.{Note, Stray, TooDeep, AnnotatedForest, blank, token, branch, fault, tokens_in, is_some}
use Rattle.rnix_grammar.specs.CompleteRows.{is_row, IsBeginning}

-- an error node in place of an operand becomes a number; others are removed with all that they contain
abbrev pub repair : Note → Forest → Forest
repair Stray f = node NODE_LITERAL (leaf TOKEN_INTEGER (codes "0") empty) f
repair TooDeep f = node NODE_LITERAL (leaf TOKEN_INTEGER (codes "0") empty) f
repair n f = f

-- a repaired forest
abbrev pub repaired : AnnotatedForest → Forest
repaired blank = empty
repaired (token k t f) = leaf k t.text (repaired f)
repaired (branch k c f) = node k (repaired c) (repaired f)
repaired (fault n c f) = repair n (repaired f)

-- the repaired trees without the numbers that replace no token, which is what is nested too deep at the end of the text
abbrev pub repaired_nonempty : AnnotatedForest → Forest
repaired_nonempty blank = empty
repaired_nonempty (token k t f) = leaf k t.text (repaired_nonempty f)
repaired_nonempty (branch k c f) = node k (repaired_nonempty c) (repaired_nonempty f)
repaired_nonempty (fault n c f) = if is_some (tokens_in c) then repair n (repaired_nonempty f) else repaired_nonempty f

-- the kinds of a forest's trees
abbrev pub kinds_of : Forest → List SyntaxKind
kinds_of empty = []
kinds_of (leaf k t f) = k ∷ kinds_of f
kinds_of (node k c f) = k ∷ kinds_of f

-- how many nodes are incomplete
abbrev pub incomplete : Forest → ℕ
incomplete empty = 0
incomplete (leaf k t f) = incomplete f
incomplete (node k c f) = (if is_row k (kinds_of c) then 0 else 1) + incomplete c + incomplete f

-- each node's children begin a row of its kind
abbrev pub AreBegun : Forest → Type 0
AreBegun empty = Unit {0}
AreBegun (leaf k t f) = AreBegun f
AreBegun (node k c f) = IsBeginning k (kinds_of c) × AreBegun c × AreBegun f

-- the error is at the end of the text
abbrev pub is_ended : Fault → Bool
is_ended unexpected_eof = true
is_ended (unexpected_eof_wanted kinds) = true
is_ended e = false

-- how many errors are at the end of the text
abbrev pub ended_count : List Fault → ℕ
ended_count [] = 0
ended_count (e ∷ es) = (if is_ended e then 1 else 0) + ended_count es

-- the errors that are not at the end of the text
abbrev pub others : List Fault → List Fault
others [] = []
others (e ∷ es) = if is_ended e then others es else e ∷ others es

-- the error is about unwanted or extra tokens
abbrev pub is_misplaced : Fault → Bool
is_misplaced (unwanted kind range kinds) = true
is_misplaced (extra range) = true
is_misplaced e = false

-- no error is about unwanted or extra tokens
abbrev pub NoneMisplaced : List Fault → Type 0
NoneMisplaced [] = Unit {0}
NoneMisplaced (e ∷ es) = (is_misplaced e ≡ false) × NoneMisplaced es

-- after an error at the end of the text, no error is about unwanted or extra tokens
abbrev pub NoErrorAfterEnd : List Fault → Type 0
NoErrorAfterEnd [] = Unit {0}
NoErrorAfterEnd (e ∷ es) = NoErrorAfterEnd es × ((is_ended e ≡ true) → NoneMisplaced es)

-- the list of wanted kinds of an error, if it has one, is one of the fixed lists
abbrev pub IsNamedList : Fault → Type 0
IsNamedList (unexpected_eof_wanted kinds) = (until : ExpectedSet) × ((until ≡ End) → ⊥) × (kinds ≡ wanted_kinds until)
IsNamedList e = Unit {0}

-- the same for each error
abbrev pub AreNamedLists : List Fault → Type 0
AreNamedLists [] = Unit {0}
AreNamedLists (e ∷ es) = IsNamedList e × AreNamedLists es
