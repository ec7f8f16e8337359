-- Which rows can be read further.
use Rattle.std.proofs.Common.{◌≡◌, ℕ, Bool, true, false, List, [], ◌∷◌, Option, Some, None, refl}
use Rattle.rnix_kinds.specs.declared.kinds.SyntaxKind.{SyntaxKind, TheVariants.{TOKEN_IDENT, TOKEN_R_BRACE, TOKEN_STRING_END}}
use Rattle.rnix_grammar.specs.{declared.rules.Part.TheVariants.{Child, Atom, First, Suffix, Binary, Operand, Many}, AnnotatedForest.{Token, blank}}
use Rattle.rnix_grammar.specs.{Tables.wanted_kinds, Rules.{Row, ◌·◌, ◌or◌, only, expects, IsExpected, level_at, counts}, Actions.expected_set_of}
use Rattle.{rnix_grammar.specs.declared.expected_set.ExpectedSet.ExpectedSet, rnix_proof_lemmas.proofs.{ReachableRows.is_viable, RowParts.is_remaining}}
use Rattle.rnix_grammar.specs.declared.expected_set.ExpectedSet.TheVariants as u

-- None is not Some
pub no_some : {A B : Type 0} (x : A) → ◌≡◌ {A = Option A} None (Some x) → B
no_some x h = absurd (cc)

-- if a choice by a test is viable, the test is true
pub viable_only : (w : Bool) (r : Row) → is_viable (only w r) ≡ true → w ≡ true
viable_only true r h = refl
viable_only false r h = absurd (cc)

-- at a position, a row expects the next item exactly if a reading says so
pub as_expected : (r : Row) → is_remaining r ≡ true → (n : ℕ) (ts : List Token) (own : Bool) → IsExpected r n ts own → expects r n ts ≡ own
as_expected (Child kind · r) i n ts own h = absurd (cc)
as_expected (Atom · r) i n ts own h = absurd (cc)
as_expected (First m · r) i n ts own h = absurd (cc)
as_expected (Suffix kind · r) i n ts own h = absurd (cc)
as_expected (Binary · r) i n ts own h = absurd (cc)
as_expected (r or s) i n ts own h = absurd (cc)
as_expected _ i n ts own h = h

-- a row that requires no level counts no operand
pub uncounted : (r : Row) → level_at r blank ≡ None → counts r ≡ false
uncounted (Operand n counted · r) e = absurd (cc)
uncounted (Many n closer · r) e = absurd (cc)
uncounted _ e = refl

-- the set of expected kinds that has this list
abbrev pub until_in : List SyntaxKind → ExpectedSet
until_in (k ∷ []) = expected_set_of k
until_in (TOKEN_STRING_END ∷ ks) = u.Piece
until_in (TOKEN_R_BRACE ∷ ks) = u.Entry
until_in (TOKEN_IDENT ∷ ks) = u.Attr
until_in ks = u.End

pub until_is : (until : ExpectedSet) → until_in (wanted_kinds until) ≡ until
until_is u.RParen = refl
until_is _ = refl
