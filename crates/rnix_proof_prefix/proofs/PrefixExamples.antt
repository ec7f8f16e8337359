-- Two laws that do not hold: that the items `{` and `...` have no error, and that touching inside paths does not matter.
use Rattle.std.{proofs.Common.{◌≡◌, ℕ, zero, suc, ◌≤◌, false, List, [], ◌∷◌, ◌++◌, refl, arith}, specs.Prelude.{codes, map, ◌+◌}}
use Rattle.rnix_kinds.specs.declared.kinds.SyntaxKind.{SyntaxKind, TheVariants.{TOKEN_L_BRACE, TOKEN_ELLIPSIS, TOKEN_R_BRACE, TOKEN_COLON, TOKEN_IDENT}}
use Rattle.rnix_kinds.specs.declared.kinds.SyntaxKind.TheVariants.{TOKEN_PATH_REL, TOKEN_INTERPOL_START, TOKEN_INTERPOL_END}
use Rattle.{rnix_grammar.specs.AnnotatedForest.{Token, lexeme_of, end_from}, rnix_proof_lemmas.{specs.{Machine.{Machine, initial_machine, step, Runs, rest as here}}}}
use Rattle.{rnix_proof_lemmas.{specs.{Machine.{then as further}}}, rnix_proof_prefix.{specs.Prefix.BeginAllFrom, proofs.{Late.AreFrom, CleanSteps.HasNone}}}

-- an item at a place
abbrev pub item : SyntaxKind → List ℕ → ℕ → ℕ → Token
item kind text start end = record { kind = kind; text = text; start = start; end = end }

-- `{ ...` has an error at `...`, and `{ ... }: a` begins so and has none
abbrev brace : Token
brace = item TOKEN_L_BRACE (codes "{") 0 1

abbrev dots : Token
dots = item TOKEN_ELLIPSIS (codes "...") 2 5

-- what follows `{ ...` in the second text
abbrev others : List Token
others = item TOKEN_R_BRACE (codes "}") 6 7 ∷ item TOKEN_COLON (codes ":") 7 8 ∷ item TOKEN_IDENT (codes "a") 9 10 ∷ []

-- `n` steps of a machine
abbrev pub steps : ℕ → Machine → Machine
steps zero now = now
steps (suc n) now = steps n (step false now)

pub run : (n : ℕ) (now : Machine) → Runs false now (steps n now)
run zero now = here
run (suc n) now = further (run n (step false now))

-- the law that the items with which a text without errors begins have no error, whatever they end with
abbrev AreDecided : Type 0
AreDecided =
    (m : ℕ) (q xs zs : List Token) (first second : Machine) → AreFrom m xs
    → Runs false (initial_machine (q ++ xs)) first → Runs false (initial_machine (q ++ zs)) second → first.remaining ≡ [] → second.remaining ≡ []
    → HasNone second
    → BeginAllFrom m first.faults

pub undecided : AreDecided → ⊥
undecided claim =
    let broken : Machine = initial_machine (brace ∷ dots ∷ []) in
    let whole : Machine = initial_machine (brace ∷ dots ∷ others) in
    let h = claim 5 (brace ∷ dots ∷ []) [] others (steps 40 broken) (steps 40 whole) tt (run 40 broken) (run 40 whole) refl refl ((tt, tt), refl) in
    let l : 5 ≤ 2 = h.0 in
    omega (arith, l)

-- `./a${b} ${c}` has an error at the second `${`, and `./a${b}${c}` has none; here the second interpolation begins at a byte
abbrev path : ℕ → List Token
path n =
    item TOKEN_PATH_REL (codes "./a") 0 3 ∷ item TOKEN_INTERPOL_START (codes "${") 3 5 ∷ item TOKEN_IDENT (codes "b") 5 6
    ∷ item TOKEN_INTERPOL_END (codes "}") 6 7 ∷ item TOKEN_INTERPOL_START (codes "${") n (n + 2) ∷ item TOKEN_IDENT (codes "c") (n + 2) (n + 3)
    ∷ item TOKEN_INTERPOL_END (codes "}") (n + 3) (n + 4) ∷ []

-- the law that items with the same kinds and texts as those of a text without errors have no error
abbrev DecidedByTexts : Type 0
DecidedByTexts =
    (xs ys : List Token) (first second : Machine) → map lexeme_of xs ≡ map lexeme_of ys → Runs false (initial_machine xs) first
    → Runs false (initial_machine ys) second
    → first.remaining ≡ [] → second.remaining ≡ [] → HasNone second → BeginAllFrom (end_from 0 xs) first.faults

pub extents_decide : DecidedByTexts → ⊥
extents_decide claim =
    let apart : Machine = initial_machine (path 8) in
    let joined : Machine = initial_machine (path 7) in
    let h = claim (path 8) (path 7) (steps 40 apart) (steps 40 joined) refl (run 40 apart) (run 40 joined) refl refl ((tt, tt), refl) in
    let l : 12 ≤ 8 = h.0 in
    omega (arith, l)
