-- Laws that fail only for texts that nest deep.
use Rattle.std.proofs.Common.{◌≡◌, ◌≤◌, ◌+◌, ◌*◌, ℕ, zero, suc, Bool, true, false, List, [], ◌∷◌, ◌++◌, length, if◌then◌else◌, refl, ap, sym, codes, arith}
use Rattle.std.specs.Str.{chars}
use Rattle.rnix_kinds.specs.declared.kinds.SyntaxKind.{SyntaxKind, TheVariants.{NODE_LIST, NODE_UNARY_OP, TOKEN_INTERPOL_START, TOKEN_INVERT, TOKEN_L_BRACK}}
use Rattle.rnix_kinds.specs.declared.kinds.SyntaxKind.TheVariants.{TOKEN_LET, TOKEN_R_BRACK, TOKEN_STRING_START, TOKEN_WHITESPACE}
use Rattle.rnix_kinds.specs.Lexical.{Texts.{space_len, begins_space, char_len}, Tokens.{Lexeme, normal_cut, cut_at, tokens_behind, tokens_of}}
use Rattle.rnix_green.specs.{Context.{Context, here, behind_leaf, inside, filled, text_before}, Forest.{Forest, empty, leaf, node, text_of}, Tree.Tree}
use Rattle.rnix_grammar.specs.{AnnotatedForest.placed_from, Fault.Fault, Layout.items, Reading.IsReading}
use Rattle.rnix_proof_lemmas.{specs.Machine.{Machine, initial_machine, step}, proofs.Basics.true_is_not_false}
use Rattle.rnix_proof_steps.specs.StepCount.{is_finished}
use Rattle.rnix_proof_reparse.specs.{Bracketed.{IsBracketed, list}, LevelsAround.between, Reparsed.rooted}
use Rattle.rnix_parser.specs.ReadingLaws.{OfRead}
use Rattle.rnix_laws.proofs.ComputedReadings.{reading}
use lib.Utf8.{encode}

-- a byte, `n` times
abbrev repeated : ℕ → ℕ → List ℕ
repeated zero b = []
repeated (suc n) b = b ∷ repeated n b

-- a place after `n` operators `!`
abbrev inverted : ℕ → Context
inverted zero = here empty
inverted (suc n) = inside NODE_UNARY_OP (behind_leaf TOKEN_INVERT (codes "!") (inverted n)) empty

-- the law that a bracketed node may be replaced by another one however deep it nests there
abbrev AnyDepthIsReparsed : Type 0
AnyDepthIsReparsed =
    (before old after new : List ℕ) (place : Context) (kind left right : SyntaxKind) (opening closing : List ℕ) (before_end edited : Forest)
    → IsBracketed kind left right → text_before place ≡ before → text_of (between left opening before_end right closing) ≡ old
    → IsReading (tokens_of (before ++ (old ++ after))) (rooted (filled place kind (between left opening before_end right closing))) []
    → IsReading (tokens_of new) (rooted (node kind (between left opening edited right closing) empty)) []
    → OfRead (before ++ (new ++ after)) (λ tree faults. (tree ≡ rooted (filled place kind (between left opening edited right closing))) × (faults ≡ []))

abbrev is_nothing : List Fault → Bool
is_nothing [] = true
is_nothing (d ∷ ds) = false

abbrev depth : ℕ
depth = 511

-- a list with these children after `[`, before other trees
abbrev list_of : Forest → Forest → Forest
list_of c f = node NODE_LIST (leaf TOKEN_L_BRACK (codes "[") c) f

abbrev bracket : Forest
bracket = leaf TOKEN_R_BRACK (codes "]") empty

-- `[[]]`
abbrev lists : Forest
lists = list_of (list_of bracket bracket) empty

-- `[]` after 511 times `!`, and `[[[]]]` there
pub depth_counts : AnyDepthIsReparsed → ⊥
unfolding chars encode tokens_behind normal_cut cut_at space_len begins_space char_len
depth_counts claim =
    let before : List ℕ = repeated depth 33 in
    let h = claim before (codes "[]") [] (codes "[[[]]]") (inverted depth) NODE_LIST TOKEN_L_BRACK TOKEN_R_BRACK (codes "[") (codes "]") empty lists list
    refl refl (reading 2600 (before ++ codes "[]") refl) (reading 60 (codes "[[[]]]") refl) _ _ (reading 2600 (before ++ codes "[[[]]]") refl) in
    true_is_not_false (sym (ap is_nothing h.1))

-- the number of steps until the root is complete, up to a maximum
abbrev steps_until : ℕ → Machine → ℕ
steps_until zero m = 0
steps_until (suc n) m = if is_finished true m then 0 else suc (steps_until n (step true m))

-- the law that a text is read in at most three steps for each item, and 3,585 more
abbrev HasThreeStepsForEachItem : Type 0
HasThreeStepsForEachItem =
    (most : ℕ) (tokens : List Lexeme) → steps_until most (initial_machine (placed_from 0 tokens)) ≤ 3 * length (items (placed_from 0 tokens)) + 3585

abbrev let_begun : List Lexeme → List Lexeme
let_begun tokens = (TOKEN_LET, codes "let") ∷ ((TOKEN_WHITESPACE, codes " ") ∷ tokens)

-- `let ${let ${ .. let ''`
abbrev nested_lets : ℕ → List Lexeme
nested_lets zero = let_begun ((TOKEN_STRING_START, codes "''") ∷ [])
nested_lets (suc n) = let_begun ((TOKEN_INTERPOL_START, codes "${") ∷ nested_lets n)

-- 421 of them take 6,316 steps for 842 items
pub lets_have_more : HasThreeStepsForEachItem → ⊥
lets_have_more claim =
    let l : 6316 ≤ 6111 = claim 6400 (nested_lets 420) in
    omega (arith, l)
