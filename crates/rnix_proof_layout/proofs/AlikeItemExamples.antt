-- Items that are alike, and items that are not.
use Rattle.{std.{proofs.Common.{ℕ, List, [], ◌∷◌, None, refl, sym, length}, specs.Prelude.{codes, ◌+◌}}, rnix_kinds.specs.declared.kinds.SyntaxKind.SyntaxKind}
use Rattle.rnix_kinds.specs.declared.kinds.SyntaxKind.TheVariants.{TOKEN_IDENT, TOKEN_ADD, TOKEN_INTERPOL_START, TOKEN_INTERPOL_END, TOKEN_PATH_REL}
use Rattle.{rnix_grammar.specs.AnnotatedForest.Token, rnix_proof_lemmas.proofs.Basics.true_is_not_false, rnix_proof_layout.specs.AlikeItems.AreAlike}

-- an item at a place
abbrev item : SyntaxKind → ℕ → List ℕ → Token
item kind n text = record { kind = kind; text = text; start = n; end = n + length text }

-- a path with an interpolation, and a path at a place
abbrev paths : ℕ → List Token
paths n =
    item TOKEN_PATH_REL 0 (codes "./a") ∷ item TOKEN_INTERPOL_START 3 (codes "${") ∷ item TOKEN_IDENT 5 (codes "b") ∷ item TOKEN_INTERPOL_END 6 (codes "}")
    ∷ item TOKEN_PATH_REL n (codes "./c") ∷ []

-- `a+b` and `a + b`
pub sums : AreAlike None 0 0 (item TOKEN_IDENT 0 (codes "a") ∷ item TOKEN_ADD 1 (codes "+") ∷ item TOKEN_IDENT 2 (codes "b") ∷ [])
    (item TOKEN_IDENT 0 (codes "a") ∷ item TOKEN_ADD 2 (codes "+") ∷ item TOKEN_IDENT 4 (codes "b") ∷ [])
sums = (
  refl,
  refl,
  λ h. absurd (true_is_not_false (sym h)),
  (refl, refl, λ h. absurd (true_is_not_false (sym h)), (refl, refl, λ h. absurd (true_is_not_false (sym h)), tt)),
)

-- `./a${b} ./c` with one space and with two
pub apart : AreAlike None 0 0 (paths 8) (paths 9)
apart = (refl, refl, λ h. refl, (refl, refl, λ h. refl, (refl, refl, λ h. refl, (refl, refl, λ h. refl, (refl, refl, λ h. refl, tt)))))

-- `./a${b}./c` and `./a${b} ./c`
pub joined : AreAlike None 0 0 (paths 7) (paths 8) → ⊥
joined h = true_is_not_false (h.3.3.3.3.2 refl)
