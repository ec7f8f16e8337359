-- What error nodes contain, and which parents they have.
use Rattle.std.specs.Prelude.{◌≡◌, true, false, List, [], ◌∷◌, Some, length}
use Rattle.rnix_kinds.specs.declared.kinds.SyntaxKind.{SyntaxKind}
use Rattle.rnix_kinds.specs.declared.kinds.SyntaxKind.TheVariants.{NODE_ROOT, NODE_PATTERN, NODE_ERROR}
use Rattle.rnix_grammar.specs.declared.expected_set.ExpectedSet.{ExpectedSet}
use Rattle.rnix_grammar.specs.Tables.{stops}
use Rattle.rnix_grammar.specs.AnnotatedForest.{Token, Note, Stray, Unwanted, Extra, DoubleBind, TooDeep, AnnotatedForest, blank, token, branch, fault, tokens_in, is_some}

-- none of the tokens stops the run
abbrev pub AreUnwanted : ExpectedSet → List Token → Type 0
AreUnwanted until [] = Unit {0}
AreUnwanted until (t ∷ ts) = (stops until (Some t.kind) ≡ false) × AreUnwanted until ts

-- An error node below a node of a kind contains one token for an operand; or unwanted tokens, and no wanted one; or, below the root, the tokens after the
-- expression; or, below a pattern, its second name; or all tokens that are left where the nesting limit is reached.
abbrev pub IsErrorNode : Note → SyntaxKind → List Token → Type 0
IsErrorNode Stray parent ts = length ts ≡ 1
IsErrorNode (Unwanted until) parent ts = (is_some ts ≡ true) × AreUnwanted until ts
IsErrorNode Extra parent ts = (is_some ts ≡ true) × (parent ≡ NODE_ROOT)
IsErrorNode DoubleBind parent ts = (is_some ts ≡ true) × (parent ≡ NODE_PATTERN)
IsErrorNode TooDeep parent ts = Unit {0}

-- each error node of a forest, whose parent is of the kind, is such a node
abbrev pub AreErrorNodes : SyntaxKind → AnnotatedForest → Type 0
AreErrorNodes parent blank = Unit {0}
AreErrorNodes parent (token k t f) = AreErrorNodes parent f
AreErrorNodes parent (branch k c f) = AreErrorNodes k c × AreErrorNodes parent f
AreErrorNodes parent (fault note c f) = IsErrorNode note parent (tokens_in c) × AreErrorNodes NODE_ERROR c × AreErrorNodes parent f
