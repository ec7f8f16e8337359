-- The number of steps for some texts, by computation. The first three need as many as any text of their length may.
use Rattle.std.proofs.Common.{◌≡◌, ℕ, zero, suc, true, List, [], ◌∷◌, if◌then◌else◌, codes, refl}
use Rattle.rnix_kinds.specs.Lexical.Tokens.{Lexeme}
use Rattle.rnix_kinds.specs.declared.kinds.SyntaxKind.TheVariants.{TOKEN_WHITESPACE, TOKEN_LET, TOKEN_INTERPOL_START, TOKEN_STRING_START, TOKEN_IDENT, TOKEN_PATH_REL}
use Rattle.rnix_grammar.specs.AnnotatedForest.{placed_from}
use Rattle.rnix_proof_lemmas.specs.Machine.{Machine, initial_machine, step}
use Rattle.rnix_proof_steps.specs.StepCount.{is_finished}

-- the number of steps until the root is complete, up to a maximum
abbrev steps_until : ℕ → Machine → ℕ
steps_until zero m = 0
steps_until (suc n) m = if is_finished true m then 0 else suc (steps_until n (step true m))

abbrev steps_for : List Lexeme → ℕ
steps_for tokens = steps_until 100 (initial_machine (placed_from 0 tokens))

abbrev space : Lexeme
space = (TOKEN_WHITESPACE, codes " ")

abbrev let_begun : List Lexeme → List Lexeme
let_begun tokens = (TOKEN_LET, codes "let") ∷ (space ∷ tokens)

-- the empty text needs one step; then `let ''` and `let ${let ''`
pub for_nothing : steps_for [] ≡ 1
for_nothing = refl

pub for_two_items : steps_for (let_begun ((TOKEN_STRING_START, codes "''") ∷ [])) ≡ 16
for_two_items = refl

pub for_four_items : steps_for (let_begun ((TOKEN_INTERPOL_START, codes "${") ∷ let_begun ((TOKEN_STRING_START, codes "''") ∷ []))) ≡ 31
for_four_items = refl

abbrev path_after : List Lexeme → List Lexeme
path_after tokens = space ∷ ((TOKEN_PATH_REL, codes "./a") ∷ tokens)

-- `f ./a` and `f ./a ./a`: four steps for each argument
pub for_one_path : steps_for ((TOKEN_IDENT, codes "f") ∷ path_after []) ≡ 6
for_one_path = refl

pub for_two_paths : steps_for ((TOKEN_IDENT, codes "f") ∷ path_after (path_after [])) ≡ 10
for_two_paths = refl
