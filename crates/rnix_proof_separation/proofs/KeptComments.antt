-- A block comment, a token that opens or closes a mode, or a number is the same before white space.
use Rattle.std.proofs.Common.{◌≡◌, ℕ, suc, ◌+◌, ◌-◌, ◌<◌, ◌≤◌, Bool, true, false, not, ◌&&◌, ◌==◌, List, [], ◌∷◌, ◌++◌, length, get_or, drop, Some, None, refl}
use Rattle.std.proofs.{Common.{sym, ap, ◌∙◌, subst, arith, cond, length-append, length-drop, eqb-true}, lemmas.{List.drop-append-le, Bool.and_parts}}
use Rattle.std.{proofs.lemmas.Bool.{both_ways, cond_both, ne_eqb, true≢false, not-true}, specs.Prelude.codes}
use Rattle.rnix_kinds.specs.declared.{kinds.SyntaxKind.TheVariants.TOKEN_COMMENT, tokenizer.rule.{Cut.Cut, PathStart.TheVariants.Relative}}
use Rattle.rnix_kinds.specs.Lexical.{Texts.{begins, before_pair}, Plain.{plain, block_comment}, Operators.{opener, operator, ellipsis}, Numbers.number}
use Rattle.rnix_kinds.{specs.Lexical.{Paths.{first_segment, relative}, Tokens.{first_that_fits, one_error}}, proofs.LexicalLemmas.FirstBytes.begins_opener}
use Rattle.rnix_proof_separation.proofs.{Appended.{if_false, same_byte, is_edge, is_next, apart_edge}, KeptCuts.{Fits, KeepsCut, stay_keeps, keeps_then}}
use Rattle.rnix_proof_separation.proofs.{KeptCuts.{behind_next, after_next, rule_cases, some_cases}, KeptOperators.{word_kept, word_none, operator_kept}}
use Rattle.rnix_proof_separation.proofs.{KeptOperators.{operator_plain, operator_first}, KeptNumbers.{IsPlainCut, FitsIf, number_same, number_plain}}
use Rattle.rnix_proof_separation.proofs.KeptPaths.{is_relative, relative_keeps, relative_none}

-- the first pair of two bytes, if inside the token, does not depend on what follows
pub pair_kept : (a b : ℕ) (t s r : List ℕ) → before_pair a b (t ++ s) + 2 ≤ length t → before_pair a b (t ++ r) ≡ before_pair a b (t ++ s)
unfolding before_pair
pair_kept a b [] s r h = absurd (omega arith)
pair_kept a b (x ∷ []) s r h = absurd (omega arith)
pair_kept a b (x ∷ y ∷ t) s r h = by (x == a && y == b) h (pair_kept a b (y ∷ t) s r)
  where
    by : (c : Bool) → cond c 0 (1 + before_pair a b (y ∷ (t ++ s))) + 2 ≤ suc (suc (length t))
        → (before_pair a b (y ∷ (t ++ s)) + 2 ≤ suc (length t) → before_pair a b (y ∷ (t ++ r)) ≡ before_pair a b (y ∷ (t ++ s)))
        → cond c 0 (1 + before_pair a b (y ∷ (t ++ r))) ≡ cond c 0 (1 + before_pair a b (y ∷ (t ++ s)))
    by true h more = refl
    by false h more = ap (λ k. 1 + k) (more (omega arith))

-- the bytes inside a block comment
abbrev pub inside : List ℕ → ℕ
inside x = before_pair 42 47 (drop 2 x)

-- a block comment does not depend on what follows
pub block_kept : (t s r : List ℕ) → Fits t (block_comment (inside (t ++ s)) (t ++ s))
    → (3 < length t) × (block_comment (inside (t ++ r)) (t ++ r) ≡ block_comment (inside (t ++ s)) (t ++ s))
block_kept t s r =
    cond_both (inside (t ++ s) == length (drop 2 (t ++ s))) _ _
    (λ (c : Cut). Fits t c → (3 < length t) × (block_comment (inside (t ++ r)) (t ++ r) ≡ c)) (λ e fits. absurd (true≢false fits.1))
    (λ e fits. let len : inside (t ++ s) + 4 ≡ length t = fits.0 in
    let two : 2 ≤ length t = omega arith in
    let size = length-drop 2 t in
    let before : inside (t ++ s) ≡ before_pair 42 47 (drop 2 t ++ s) = ap (before_pair 42 47) (drop-append-le 2 t s two) in
    let after : inside (t ++ r) ≡ before_pair 42 47 (drop 2 t ++ r) = ap (before_pair 42 47) (drop-append-le 2 t r two) in
    let same : inside (t ++ r) ≡ inside (t ++ s) = after ∙ (pair_kept 42 47 (drop 2 t) s r (omega arith) ∙ sym before) in
    let longer : length (drop 2 (t ++ r)) ≡ length (t ++ r) - 2 = length-drop 2 (t ++ r) in
    let whole = length-append t r in (
      omega arith,
      if_false (inside (t ++ r) == length (drop 2 (t ++ r))) _ _ _ (ne_eqb _ _ (λ f. omega arith)) (ap (λ k. plain TOKEN_COMMENT (k + 4)) same),
    ))

-- the rules for tokens that begin with a quote or `$`
abbrev pub opener_rules : List ℕ → Cut
opener_rules x = first_that_fits (opener x ∷ operator x ∷ []) (one_error x)

module _ (t s : List ℕ) (some : 0 < length t) where
  first_is : (r : List ℕ) (b c : ℕ) → (get_or (t ++ s) 0 0 == b) ≡ true → (b == c) ≡ false → (get_or (t ++ r) 0 0 == c) ≡ false
  first_is r b c is other = ap (λ k. k == c) (same_byte t r s 0 some ∙ eqb-true (get_or (t ++ s) 0 0) b is) ∙ other

  -- a token that begins with a quote or `$` does not depend on what follows
  pub opener_kept : (r : List ℕ) → begins_opener (get_or (t ++ s) 0 0) ≡ true → Fits t (opener_rules (t ++ s)) → opener_rules (t ++ r) ≡ opener_rules (t ++ s)
  opener_kept r first =
      rule_cases (begins (codes "${") (t ++ s)) _ _ (operator (t ++ s) ∷ []) (one_error (t ++ s)) (λ (c : Cut). Fits t c → opener_rules (t ++ r) ≡ c)
      (λ e fits. rw (word_kept t s r (codes "${") (omega (arith, fits.0)) e))
      (λ e. rule_cases (begins (codes "''") (t ++ s)) _ _ (operator (t ++ s) ∷ []) (one_error (t ++ s)) (λ (c : Cut). Fits t c → opener_rules (t ++ r) ≡ c)
      (λ f fits. rw (first_is r 39 36 (and_parts (get_or (t ++ s) 0 0 == 39) _ f).0 refl, word_kept t s r (codes "''") (omega (arith, fits.0)) f))
      (λ f. rule_cases (begins (codes "\"") (t ++ s)) _ None (operator (t ++ s) ∷ []) (one_error (t ++ s)) (λ (c : Cut). Fits t c → opener_rules (t ++ r) ≡ c)
      (λ g fits. rw (first_is r 34 36 g refl, first_is r 34 39 g refl, word_kept t s r (codes "\"") (omega (arith, fits.0)) g))
      (λ g. some_cases (operator (t ++ s)) [] (one_error (t ++ s)) (λ (c : Cut). Fits t c → opener_rules (t ++ r) ≡ c)
      (λ other h fits. absurd (both_ways _ (not-true _ (operator_first (t ++ s) other (λ b. not (begins_opener b)) refl h)) first))
      (λ h fits. absurd (true≢false fits.1)))))

-- the rules for tokens that begin with a digit, `.`, `+`, `,` or `-`
abbrev pub step_rules : List ℕ → Cut
step_rules x = first_that_fits (ellipsis x ∷ relative x ∷ number x ∷ operator x ∷ []) (one_error x)

module _ (t s : List ℕ) (some : 0 < length t) where
  no_dots : (r : List ℕ) → is_next (get_or r 0 0) ≡ true → begins (codes "...") (t ++ s) ≡ false → begins (codes "...") (t ++ r) ≡ false
  no_dots r next e = word_none t s r is_next (codes "...") refl next e

  no_path : (r : List ℕ) (cut : Cut) → is_edge (get_or r 0 0) ≡ true → cut.len ≡ length t → IsPlainCut (t ++ r) cut → relative (t ++ r) ≡ None
  no_path r cut edge len plain_cut = relative_none t r edge (λ k h. plain_cut.0 k (omega arith))

  number_kept : (r : List ℕ) (cut : Cut) → is_edge (get_or r 0 0) ≡ true → number (t ++ s) ≡ Some cut → Fits t cut → number (t ++ r) ≡ Some cut
  number_kept r cut edge is fits = number_same t s r some edge (subst (FitsIf t) (sym is) fits) ∙ is

  -- a token that begins with a digit, `.`, `+`, `,` or `-` is the same before white space
  pub step_keeps : KeepsCut step_rules t s (step_rules (t ++ s))
  step_keeps =
      rule_cases (begins (codes "...") (t ++ s)) _ None _ _ (KeepsCut step_rules t s)
      (λ e fits. stay_keeps refl (λ r behind. rw (word_kept t s r (codes "...") (omega (arith, fits.0)) e)))
      (λ e. rule_cases (is_relative (t ++ s)) (first_segment Relative 0 (t ++ s)) None _ _ (KeepsCut step_rules t s)
      (λ f fits. keeps_then (relative_keeps t s f fits) (λ r after h. rw (no_dots r (after_next (first_segment Relative 0 (t ++ s)).change t r after) e, h)))
      (λ f. some_cases (number (t ++ s)) _ _ (KeepsCut step_rules t s)
      (λ cut g fits. stay_keeps (number_plain (t ++ s) cut g).1 (λ r behind. let edge = apart_edge r behind.0 in
      let kept = number_kept r cut edge g fits in
      rw (no_dots r (behind_next t r behind) e, no_path r cut edge fits.0 (number_plain (t ++ r) cut kept), kept)))
      (λ g. some_cases (operator (t ++ s)) [] _ (KeepsCut step_rules t s)
      (λ cut h fits. stay_keeps (operator_plain (t ++ s) cut h).1 (λ r behind. let edge = apart_edge r behind.0 in
      let kept = operator_kept t s r edge cut fits.0 h in
      rw (
        no_dots r (behind_next t r behind) e,
        no_path r cut edge fits.0 (operator_plain (t ++ r) cut kept),
        number_same t s r some edge (subst (FitsIf t) (sym g) tt) ∙ g,
        kept,
      )))
      (λ h fits. absurd (true≢false fits.1)))))
