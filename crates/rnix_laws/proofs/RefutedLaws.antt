-- Laws that do not hold: each is a law of this library with a condition less, or with more in what follows.
use Rattle.std.{proofs.{lemmas.Bool.eqb-false, Common.{◌≡◌, ◌≤◌, ◌+◌, ◌*◌, ℕ, suc, Bool, true, false, List, [], ◌∷◌, ◌++◌, length, take, drop, None, refl, ap, sym, arith}}}
use Rattle.std.specs.{Prelude.{codes, slice_index, if◌then◌else◌}, Str.chars}
use Rattle.rnix_kinds.specs.declared.kinds.SyntaxKind.{SyntaxKind, TheVariants.{NODE_STRING, TOKEN_IDENT, TOKEN_INTERPOL_END, TOKEN_INTERPOL_START}}
use Rattle.rnix_kinds.specs.declared.kinds.SyntaxKind.TheVariants.{TOKEN_L_BRACE, TOKEN_L_BRACK, TOKEN_R_BRACK, TOKEN_STRING_END, TOKEN_STRING_START}
use Rattle.rnix_kinds.specs.declared.tokenizer.text.Class.TheVariants.{Name}
use Rattle.rnix_kinds.specs.Lexical.{Classes.class_test, Texts.{space_len, begins_space, char_len}, Strings.content_from}
use Rattle.rnix_kinds.specs.Lexical.Tokens.{Lexeme, normal_cut, cut_at, tokens_behind, tokens_of}
use Rattle.rnix_green.specs.{Context.{Context, here, filled, text_before}, Equality.same_kind, Forest.{Forest, empty, node, text_of}, Tree.Tree}
use Rattle.rnix_grammar.specs.{AnnotatedForest.end_from, Fault.{Fault, extra}, Reading.IsReading}
use Rattle.rnix_proof_lemmas.proofs.Basics.{true_is_not_false}
use Rattle.rnix_proof_layout.specs.AlikeItems.{AreAlike}
use Rattle.rnix_proof_prefix.specs.Prefix.{BeginAllFrom, end_undecided}
use Rattle.rnix_proof_replacement.specs.Replaced.{AreBrackets, closes_level, one_less, opens_level}
use Rattle.rnix_proof_lookahead.specs.{AlikeStarts.BeginAlike, Completed.completed}
use Rattle.rnix_proof_reparse.specs.{Bracketed.{IsBracketed, string}, LevelsAround.between, Reparsed.rooted}
use Rattle.rnix_parser.specs.{ReadAlike.items_of, ReadingLaws.{OfRead, elements_in}, Significant.significant}
use Rattle.rnix_laws.proofs.ComputedReadings.{reading}
use lib.Utf8.{encode}

-- the law that the item after a correct beginning has no error either
abbrev NextItemIsNotBlamed : Type 0
NextItemIsNotBlamed =
    (x y : List ℕ) (k : ℕ) → AreAlike None 0 0 (take k (items_of x)) (take k (items_of y)) → end_undecided (take k (items_of x)) ≡ false
    → (t u : Tree) (ds : List Fault) → IsReading (tokens_of x) t ds → IsReading (tokens_of y) u []
    → BeginAllFrom (end_from 0 (take (suc k) (items_of x))) ds

-- `a)` has an error at `)`, and begins as `a` does
pub next_item_is_blamed : NextItemIsNotBlamed → ⊥
unfolding chars encode tokens_behind normal_cut cut_at space_len begins_space char_len
next_item_is_blamed claim =
    let h = claim (codes "a)") (codes "a") 1 (refl, refl, (λ h. refl), tt) refl _ _ _ (reading 60 (codes "a)") refl) (reading 60 (codes "a") refl) in
    let l : 2 ≤ 1 = h.0 in
    omega (arith, l)

-- where the first error begins, if it is about extra items
abbrev first_start : List Fault → ℕ
first_start (extra a ∷ ds) = a.start
first_start ds = 0

-- the law that texts with the same items have errors with the same ranges
abbrev LayoutKeepsRanges : Type 0
LayoutKeepsRanges =
    (x y : List ℕ) → AreAlike None 0 0 (items_of x) (items_of y)
    → (t u : Tree) (ds es : List Fault) → IsReading (tokens_of x) t ds → IsReading (tokens_of y) u es
    → ds ≡ es

-- `a)` and `a )`
pub ranges_move : LayoutKeepsRanges → ⊥
unfolding chars encode tokens_behind normal_cut cut_at space_len begins_space char_len
ranges_move claim =
    let h = claim (codes "a)") (codes "a )") (refl, refl, (λ h. refl), (refl, refl, (λ h. absurd (true_is_not_false (sym h))), tt)) _ _ _ _
    (reading 60 (codes "a)") refl) (reading 60 (codes "a )") refl) in
    let starts : 1 ≡ 2 = ap first_start h in
    eqb-false 1 2 refl starts

-- the law that a tree has at most one node for each item, and three more
abbrev HasOneNodeForEachItem : Type 0
HasOneNodeForEachItem =
    (text : List ℕ) → OfRead text (λ tree faults. elements_in tree ≤ length (items_of text) + length (tokens_of text) + 3)

-- `f a b c` has eight nodes over four items
pub calls_have_more : HasOneNodeForEachItem → ⊥
unfolding chars encode tokens_behind normal_cut cut_at space_len begins_space char_len
calls_have_more claim =
    let l : 15 ≤ 14 = claim (codes "f a b c") _ _ (reading 60 (codes "f a b c") refl) in
    omega (arith, l)

-- the law that two texts that begin alike also complete the same nodes with the next item, of which only the kind is the same
abbrev NextItemCompletesAlike : Type 0
NextItemCompletesAlike =
    (x y : List ℕ) (k : ℕ) → BeginAlike k None 0 0 (items_of x) (items_of y)
    → (t u : Tree) (ds es : List Fault) → IsReading (tokens_of x) t ds → IsReading (tokens_of y) u es
    → completed (suc k) (significant t.children) ≡ completed (suc k) (significant u.children)

-- `a` and `b`
pub next_text_counts : NextItemCompletesAlike → ⊥
unfolding chars encode tokens_behind normal_cut cut_at space_len begins_space char_len
next_text_counts claim =
    let h = claim (codes "a") (codes "b") 0 (refl, λ h. refl) _ _ _ _ (reading 60 (codes "a") refl) (reading 60 (codes "b") refl) in
    let first : 97 ≡ 98 = ap (λ (f : Forest). slice_index (text_of f) 0) h in
    eqb-false 97 98 refl first

-- the law that a name may touch each byte that continues no name
abbrev NamesEndBeforeOtherBytes : Type 0
NamesEndBeforeOtherBytes =
    (name rest : List ℕ) → tokens_of name ≡ (TOKEN_IDENT, name) ∷ [] → class_test Name (slice_index rest 0) ≡ false
    → tokens_of (name ++ rest) ≡ (TOKEN_IDENT, name) ∷ tokens_of rest

-- `a/b` is one token
pub slash_continues : NamesEndBeforeOtherBytes → ⊥
unfolding chars encode tokens_behind normal_cut cut_at space_len begins_space char_len
slash_continues claim =
    let lengths : 1 ≡ 2 = ap length (claim (codes "a") (codes "/b") refl refl) in
    eqb-false 1 2 refl lengths

-- with so many levels open, none before them is closed; some may stay open
abbrev may_stay_open : List Lexeme → ℕ → Bool
may_stay_open [] depth = true
may_stay_open (token ∷ tokens) depth =
    if opens_level token.0 then may_stay_open tokens (suc depth)
    else (if closes_level token.0 then one_less depth (may_stay_open tokens)
    else may_stay_open tokens depth)

-- the law that brackets may be replaced by such ones inside which a level stays open
abbrev OpenLevelsMayReplace : Type 0
OpenLevelsMayReplace =
    (before old new after : List ℕ) (left right : Lexeme) (inner others first last : List Lexeme)
    → AreBrackets before old after left right inner first last → tokens_of new ≡ left ∷ (others ++ (right ∷ [])) → may_stay_open others 0 ≡ true
    → tokens_of (before ++ (new ++ after)) ≡ first ++ (left ∷ (others ++ (right ∷ last)))

-- whether the first token is the `}` of an interpolation
abbrev begins_with_end : List Lexeme → Bool
begins_with_end [] = false
begins_with_end (token ∷ tokens) = same_kind TOKEN_INTERPOL_END token.0

-- in `"${[]}"`, `[{]` in place of `[]` would leave the interpolation open
pub open_brace : OpenLevelsMayReplace → ⊥
unfolding chars encode tokens_behind normal_cut cut_at space_len begins_space content_from char_len
open_brace claim =
    let first : List Lexeme = (TOKEN_STRING_START, codes "\"") ∷ (TOKEN_INTERPOL_START, codes "${") ∷ [] in
    let last : List Lexeme = (TOKEN_INTERPOL_END, codes "}") ∷ (TOKEN_STRING_END, codes "\"") ∷ [] in
    let old : AreBrackets (codes "\"${") (codes "[]") (codes "}\"") (TOKEN_L_BRACK, codes "[") (TOKEN_R_BRACK, codes "]") [] first last =
    record { whole = refl; before_is = refl; extent = refl; opening = refl; closing = refl; balanced = refl } in
    let h = claim (codes "\"${") (codes "[]") (codes "[{]") (codes "}\"") (TOKEN_L_BRACK, codes "[") (TOKEN_R_BRACK, codes "]") []
    ((TOKEN_L_BRACE, codes "{") ∷ []) first last old refl refl in
    true_is_not_false (sym (ap (λ (ls : List Lexeme). begins_with_end (drop 5 ls)) h))

-- the law that a bracketed node may be replaced by one with other brackets of the same kinds
abbrev OtherBracketsAreReparsed : Type 0
OtherBracketsAreReparsed =
    (before old after new : List ℕ) (place : Context) (kind left right : SyntaxKind) (opening closing other_opening other_closing : List ℕ)
    (inside edited : Forest)
    → IsBracketed kind left right → text_before place ≡ before → text_of (between left opening inside right closing) ≡ old
    → IsReading (tokens_of (before ++ (old ++ after))) (rooted (filled place kind (between left opening inside right closing))) []
    → IsReading (tokens_of new) (rooted (node kind (between left other_opening edited right other_closing) empty)) []
    → OfRead (before ++ (new ++ after)) (λ tree faults. (tree ≡ rooted (filled place kind (between left opening edited right closing))) × (faults ≡ []))

-- `""` and `''''`
pub quotes_count : OtherBracketsAreReparsed → ⊥
unfolding chars encode tokens_behind normal_cut cut_at space_len begins_space content_from char_len
quotes_count claim =
    let old : List ℕ = codes "\"\"" in
    let new : List ℕ = codes "''''" in
    let h = claim [] old [] new (here empty) NODE_STRING TOKEN_STRING_START TOKEN_STRING_END (codes "\"") (codes "\"") (codes "''") (codes "''") empty empty
    string refl refl (reading 60 old refl) (reading 60 new refl) _ _ (reading 60 new refl) in
    let lengths : 4 ≡ 2 = ap (λ (t : Tree). length (text_of t.children)) h.0 in
    eqb-false 4 2 refl lengths
