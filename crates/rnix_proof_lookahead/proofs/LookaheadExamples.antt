-- What the first items of some texts complete. Two laws that do not hold: that what follows the items does not matter, and that touching does not.
use Rattle.std.proofs.Common.{◌≡◌, ℕ, Bool, true, false, List, [], ◌∷◌, ◌++◌, length, refl, ap, sym, codes}
use Rattle.rnix_kinds.specs.declared.kinds.SyntaxKind.TheVariants.{TOKEN_COLON, TOKEN_IDENT, TOKEN_INTERPOL_END, TOKEN_INTERPOL_START}
use Rattle.rnix_kinds.specs.declared.kinds.SyntaxKind.TheVariants.{TOKEN_L_PAREN, TOKEN_PATH_REL, TOKEN_R_PAREN, NODE_APPLY, NODE_IDENT, NODE_IDENT_PARAM, NODE_PAREN}
use Rattle.{rnix_green.specs.Forest.{Forest, empty, leaf, node}, rnix_grammar.specs.AnnotatedForest.{Token, lexeme_of}}
use Rattle.rnix_proof_lemmas.specs.Machine.{Machine, initial_machine, Runs}
use Rattle.{rnix_grammar.specs.Fault.{extra, unwanted}, rnix_proof_lemmas.proofs.Basics.true_is_not_false}
use Rattle.rnix_proof_prefix.proofs.PrefixExamples.{item, steps, run}
use Rattle.rnix_proof_lookahead.{specs.{Completed.completed, ErrorsBefore.errors_before}, proofs.KeptSteps.trees_in}

-- a name before other trees
abbrev name : List ℕ → Forest → Forest
name text f = node NODE_IDENT (leaf TOKEN_IDENT text empty) f

-- `a b` before other trees
abbrev inner : Forest → Forest
inner f = node NODE_APPLY (name (codes "a") (name (codes "b") empty)) f

-- `f (a b)`
abbrev call : Forest
call = node NODE_APPLY (name (codes "f") (node NODE_PAREN (leaf TOKEN_L_PAREN (codes "(") (inner (leaf TOKEN_R_PAREN (codes ")") empty))) empty)) empty

-- its first three items complete two names, the fourth the inner call, and the last one everything
three : completed 3 call ≡ name (codes "f") (leaf TOKEN_L_PAREN (codes "(") (name (codes "a") empty))
three = refl

four : completed 4 call ≡ name (codes "f") (leaf TOKEN_L_PAREN (codes "(") (inner empty))
four = refl

five : completed 5 call ≡ call
five = refl

-- only the part before byte 5 counts of an error from byte 2 to 9, and nothing of an error at byte 6
cut : errors_before 5 (unwanted TOKEN_COLON (record { start = 2; end = 9 }) [] ∷ extra (record { start = 6; end = 7 }) ∷ [])
    ≡ unwanted TOKEN_COLON (record { start = 2; end = 5 }) [] ∷ []
cut = refl

-- in `a b` the item `a` completes a name, and in `a: b` also a parameter
abbrev first_name : Token
first_name = item TOKEN_IDENT (codes "a") 0 1

abbrev second_name : Token
second_name = item TOKEN_IDENT (codes "b") 3 4

abbrev is_parameter : Forest → Bool
is_parameter (node NODE_IDENT_PARAM c f) = true
is_parameter f = false

-- the law that the first items complete the same trees whatever follows
abbrev DecidedByItems : Type 0
DecidedByItems =
    (q : List Token) (x y : Token) (xs ys : List Token) (first second : Machine)
    → Runs false (initial_machine (q ++ x ∷ xs)) first → Runs false (initial_machine (q ++ y ∷ ys)) second → first.remaining ≡ [] → second.remaining ≡ []
    → completed (length q) (trees_in first.frames) ≡ completed (length q) (trees_in second.frames)

pub kind_decides : DecidedByItems → ⊥
kind_decides claim =
    let colon : Token = item TOKEN_COLON (codes ":") 1 2 in
    let applied : Machine = initial_machine (first_name ∷ second_name ∷ []) in
    let function : Machine = initial_machine (first_name ∷ colon ∷ second_name ∷ []) in
    let h = claim (first_name ∷ []) second_name colon [] (second_name ∷ []) (steps 40 applied) (steps 40 function) (run 40 applied) (run 40 function)
    refl refl in
    true_is_not_false (sym (ap is_parameter h))

-- in `./a${b} ./c` the item `}` completes a path, and in `./a${b}./c` it does not
abbrev path : List Token
path =
    item TOKEN_PATH_REL (codes "./a") 0 3 ∷ item TOKEN_INTERPOL_START (codes "${") 3 5 ∷ item TOKEN_IDENT (codes "b") 5 6
    ∷ item TOKEN_INTERPOL_END (codes "}") 6 7 ∷ []

abbrev piece : ℕ → ℕ → Token
piece start end = item TOKEN_PATH_REL (codes "./c") start end

abbrev is_leaf : Forest → Bool
is_leaf (leaf k t f) = true
is_leaf f = false

-- the law that they complete the same trees if the same item follows, touching or not
abbrev DecidedByNext : Type 0
DecidedByNext =
    (q : List Token) (x y : Token) (xs ys : List Token) (first second : Machine) → lexeme_of x ≡ lexeme_of y
    → Runs false (initial_machine (q ++ x ∷ xs)) first → Runs false (initial_machine (q ++ y ∷ ys)) second → first.remaining ≡ [] → second.remaining ≡ []
    → completed (length q) (trees_in first.frames) ≡ completed (length q) (trees_in second.frames)

pub touch_decides : DecidedByNext → ⊥
touch_decides claim =
    let joined : Machine = initial_machine (path ++ piece 7 10 ∷ []) in
    let apart : Machine = initial_machine (path ++ piece 8 11 ∷ []) in
    let h = claim path (piece 7 10) (piece 8 11) [] [] (steps 40 joined) (steps 40 apart) refl (run 40 joined) (run 40 apart) refl refl in
    true_is_not_false (ap is_leaf h)
