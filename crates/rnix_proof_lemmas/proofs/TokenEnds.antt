-- Where two joined lists of tokens end, and how loose the left operand of an operator may be.
use Rattle.std.proofs.Common.{◌≡◌, ℕ, ◌≤◌, true, List, [], ◌∷◌, ◌++◌, refl}
use Rattle.rnix_kinds.specs.declared.kinds.SyntaxKind.{SyntaxKind}
use Rattle.rnix_grammar.specs.{AnnotatedForest.{Token, end_from}, NodeClasses.is_infix, Levels.{binding_power, left_of}}
use Rattle.rnix_proof_lemmas.proofs.EveryKind.{at_most}

-- two joined lists of tokens end where the second ends, if it begins where the first ends
pub end_behind : (n : ℕ) (ts us : List Token) → end_from n (ts ++ us) ≡ end_from (end_from n ts) us
end_behind n [] us = refl
end_behind n (t ∷ ts) us = end_behind t.end ts us

-- the left operand of an operator binds at least as tightly as the operator
pub left_least : (i : SyntaxKind) → is_infix i ≡ true → binding_power i ≤ left_of i
left_least = at_most is_infix binding_power left_of refl
