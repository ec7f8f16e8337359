-- What is reported where a part of a row is missing.
use Rattle.std.proofs.Common.{◌≡◌, Bool, true, false, List, [], ◌∷◌, Option, Some, None, refl, ap, sym, ◌∙◌, subst}
use Rattle.rnix_kinds.specs.declared.kinds.SyntaxKind.{SyntaxKind, TheVariants.{TOKEN_R_PAREN, TOKEN_L_BRACE, TOKEN_R_BRACE, TOKEN_SEMICOLON}}
use Rattle.rnix_kinds.specs.declared.kinds.SyntaxKind.TheVariants.{TOKEN_ASSIGN, TOKEN_COLON, TOKEN_THEN, TOKEN_ELSE, TOKEN_INTERPOL_END, TOKEN_STRING_END}
use Rattle.rnix_kinds.specs.declared.kinds.SyntaxKind.TheVariants.{TOKEN_IDENT}
use Rattle.rnix_grammar.specs.{declared.expected_set.ExpectedSet.ExpectedSet, Fault.{Fault, unexpected_eof_wanted}, Tables.wanted_kinds, Repaired.{is_ended, IsNamedList}}
use Rattle.rnix_grammar.specs.{Rules.{Row, missing}}
use Rattle.rnix_proof_lemmas.proofs.{Basics.true_is_not_false, ReachableRows.{IsKnown, each_known}}
use Rattle.rnix_grammar.specs.declared.expected_set.ExpectedSet.TheVariants as u

-- the set of expected kinds whose list this is
abbrev expected_set_of : List SyntaxKind → ExpectedSet
expected_set_of (TOKEN_R_PAREN ∷ ks) = u.RParen
expected_set_of (TOKEN_L_BRACE ∷ ks) = u.LBrace
expected_set_of (TOKEN_R_BRACE ∷ []) = u.RBrace
expected_set_of (TOKEN_R_BRACE ∷ ks) = u.Entry
expected_set_of (TOKEN_SEMICOLON ∷ ks) = u.Semicolon
expected_set_of (TOKEN_ASSIGN ∷ ks) = u.Assign
expected_set_of (TOKEN_COLON ∷ ks) = u.Colon
expected_set_of (TOKEN_THEN ∷ ks) = u.Then
expected_set_of (TOKEN_ELSE ∷ ks) = u.Else
expected_set_of (TOKEN_INTERPOL_END ∷ ks) = u.InterpolEnd
expected_set_of (TOKEN_STRING_END ∷ []) = u.StringEnd
expected_set_of (TOKEN_STRING_END ∷ ks) = u.Piece
expected_set_of (TOKEN_IDENT ∷ []) = u.Ident
expected_set_of (TOKEN_IDENT ∷ ks) = u.Attr
expected_set_of ks = u.End

abbrev is_end : ExpectedSet → Bool
is_end u.End = true
is_end until = false

-- an error that lists kinds lists those of such a set
abbrev IsListed : Fault → Type 0
IsListed (unexpected_eof_wanted kinds) = (is_end (expected_set_of kinds) ≡ false) × (kinds ≡ wanted_kinds (expected_set_of kinds))
IsListed e = Unit {0}

listed : (e : Fault) → IsListed e → IsNamedList e
listed (unexpected_eof_wanted kinds) h = (expected_set_of kinds, λ e. true_is_not_false (sym (ap is_end e) ∙ h.0), h.1)
listed _ h = h

-- what is missing, if anything, is reported by an error at the end of the text
abbrev IsMissing : Option (Fault × Row) → Type 0
IsMissing None = Unit {0}
IsMissing (Some w) = (is_ended w.0 ≡ true) × IsListed w.0

-- what is missing is reported by an error at the end of the text
pub missing_ended : {i : SyntaxKind} {q r : Row} {e : Fault} → IsKnown i q → missing q ≡ Some (e, r) → (is_ended e ≡ true) × IsNamedList e
missing_ended {i} {q} {r} {e} k m =
    let both : IsMissing (Some (e, r)) = subst IsMissing m (each_known (λ i r. IsMissing (missing r)) (λ i. tt) (assumption) i q k) in
    (both.0, listed e both.1)
