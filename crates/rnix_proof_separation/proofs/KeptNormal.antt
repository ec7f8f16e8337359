-- A token outside strings and paths is the same before white space.
use Rattle.std.proofs.Common.{◌≡◌, ◌⊎◌, ℕ, ◌<◌, true, false, ◌&&◌, ◌==◌, nat_lt, List, [], ◌∷◌, ◌++◌, length, get_or, Option, Some, None, refl, sym, ap, ◌∙◌}
use Rattle.std.proofs.{Common.{subst, inl, inr, arith, eqb-true}, lemmas.{List.get_or_append_left, Bool.{cases_eq, cases_lt, both_ways, and_parts, eqb-false}}}
use Rattle.{std.proofs.lemmas.Bool.{ltb-true, true≢false, Decides.nat_tests}, rnix_kinds.specs.declared.kinds.SyntaxKind.TheVariants.TOKEN_COMMENT}
use Rattle.rnix_kinds.specs.declared.{kinds.SyntaxKind.TheVariants.TOKEN_WHITESPACE, tokenizer.{rule.{Cut.Cut, Mode.Mode}, text.Class.TheVariants.Line}}
use Rattle.rnix_kinds.specs.Lexical.{Texts.{run_end, space_len}, Classes.class_test, Plain.{plain, begins_word}, Operators.operator, Paths.{slash, home}}
use Rattle.rnix_kinds.{specs.Lexical.Tokens.{first_that_fits, one_error, normal_cut}, proofs.LexicalLemmas.FirstBytes.{begins_opener, is_invisible}}
use Rattle.rnix_kinds.proofs.LexicalLemmas.FirstBytes.{normal-named, normal-stepped, normal-opened, normal-symbol, normal-other, normal-line_comment}
use Rattle.rnix_kinds.proofs.LexicalLemmas.FirstBytes.{normal-block_comment, normal-slash, normal-home, normal-angled, normal-opening_brace}
use Rattle.{rnix_kinds.proofs.LexicalLemmas.FirstBytes.normal-closing_brace, rnix_proof_separation.proofs.Appended.{either, same_byte, next_byte_at}}
use Rattle.rnix_proof_separation.proofs.{Appended.{end_stopped, is_next, apart_edge, next_out}, KeptCuts.{Fits, Keeps, KeepsCut, KeepsRule, stay_keeps}}
use Rattle.rnix_proof_separation.proofs.{KeptCuts.{keeps_then, after_next, rule_cases, some_cases}, KeptWords.{name_rules, name_keeps}, KeptSlashes.angle_rules}
use Rattle.rnix_proof_separation.proofs.{KeptSlashes.{angle_keeps, slash_keeps, home_keeps}, KeptComments.{block_kept, opener_kept, step_rules, step_keeps}}
use Rattle.rnix_proof_separation.{proofs.KeptOperators.{operator_kept, operator_plain, operator_first}, specs.Separated.{is_error, is_white_space}}

-- the cut does not depend on what follows, or is the same before white space
abbrev pub IsKept : (List ℕ → Cut) → List ℕ → List ℕ → Cut → Type 0
IsKept f t s cut = ((r : List ℕ) → f (t ++ r) ≡ cut) ⊎ Keeps f t s cut cut.change

-- the rules for any other visible byte
abbrev symbol_rules : List ℕ → Cut
symbol_rules x = first_that_fits (operator x ∷ []) (one_error x)

hidden_first : (b : ℕ) → is_invisible b ≡ true → (nat_lt 32 b && nat_lt b 127) ≡ false
hidden_first b e = grind (arith, nat_tests)

module _ (top : Option Mode) (t s : List ℕ) (some : 0 < length t) (cut : Cut) (is : normal_cut top (t ++ s) ≡ cut) (fits : Fits t cut) where
  first_byte : (r : List ℕ) (b : ℕ) → get_or (t ++ s) 0 0 ≡ b → get_or (t ++ r) 0 0 ≡ b
  first_byte r b e = same_byte t r s 0 some ∙ e

  -- the cut is kept if the first byte leaves only some of the rules, and these keep it
  by_rules : (rules : List ℕ → Cut) → ((r : List ℕ) → rules (t ++ r) ≡ normal_cut top (t ++ r)) → KeepsCut rules t s (rules (t ++ s))
      → IsKept (normal_cut top) t s cut
  by_rules rules same keeps = inr (keeps_then (subst (KeepsCut rules t s) (same s ∙ is) keeps fits) (λ r after e. sym (same r) ∙ e))

  by_rule : (rule : List ℕ → Option Cut) → ((found : Cut) → Some found ≡ rule (t ++ s) → found ≡ normal_cut top (t ++ s))
      → ((r : List ℕ) → is_next (get_or r 0 0) ≡ true → (found : Cut) → Some found ≡ rule (t ++ r) → found ≡ normal_cut top (t ++ r))
      → (o : Option Cut) → rule (t ++ s) ≡ o → KeepsRule rule t s o → IsKept (normal_cut top) t s cut
  by_rule rule here there None e keeps = absurd keeps
  by_rule rule here there (Some found) e keeps =
      inr (keeps_then (subst (λ (c : Cut). KeepsRule rule t s (Some c)) (here found (sym e) ∙ is) keeps fits)
      (λ r after h. sym (there r (after_next cut.change t r after) cut (sym h))))

  -- a comment that begins with `#` is kept
  line_kept : get_or (t ++ s) 0 0 ≡ 35 → IsKept (normal_cut top) t s cut
  line_kept first =
      by_rules (λ x. plain TOKEN_COMMENT (run_end (class_test Line) 0 x)) (λ r. normal-line_comment top (t ++ r) (first_byte r 35 first))
      (λ fit. stay_keeps refl (λ r behind. ap (plain TOKEN_COMMENT)
      (end_stopped (class_test Line) 0 t s r (omega arith) (omega (arith, fit.0)) (behind.1 (sym (get_or_append_left t s 0 0 some) ∙ first)))))

  -- a block comment, or a slash or a path that begins with one, is kept
  slashed_kept : get_or (t ++ s) 0 0 ≡ 47 → IsKept (normal_cut top) t s cut
  slashed_kept first =
      elim (cases_eq (get_or (t ++ s) 1 0) 42) [
        | inl star ↦ inl (λ r. (
            let here = normal-block_comment top (t ++ s) first star ∙ is in
            let kept = block_kept t s r (subst (Fits t) (sym here) fits) in
            sym (normal-block_comment top (t ++ r) (first_byte r 47 first) (same_byte t r s 1 (omega (arith, kept.0)) ∙ star)) ∙ (kept.1 ∙ here)))
        | inr other ↦ by_rule slash (λ found. normal-slash top (t ++ s) found first other)
            (λ r next found. normal-slash top (t ++ r) found (first_byte r 47 first) (no_star r other (next_out (λ b. b == 42) refl (get_or r 0 0) next)))
            (slash (t ++ s)) refl (slash_keeps t s some first)
      ]
    where
      no_star : (r : List ℕ) → ¬ (get_or (t ++ s) 1 0 ≡ 42) → (get_or r 0 0 == 42) ≡ false → ¬ (get_or (t ++ r) 1 0 ≡ 42)
      no_star r other out star =
          elim (cases_lt 1 (length t)) [
            | inl inside ↦ other (same_byte t s r 1 inside ∙ star)
            | inr past ↦ eqb-false (get_or r 0 0) 42 out (sym (next_byte_at t r 1 (omega arith)) ∙ star)
          ]

  -- a path that begins with `~` is kept
  home_kept : get_or (t ++ s) 0 0 ≡ 126 → IsKept (normal_cut top) t s cut
  home_kept first =
      by_rule home (λ found. normal-home top (t ++ s) found first) (λ r next found. normal-home top (t ++ r) found (first_byte r 126 first))
      (home (t ++ s)) refl (home_keeps t s some first)

  -- an operator or a bracket is kept, if no other rule is for its first byte
  symbol_kept : (b : ℕ) → get_or (t ++ s) 0 0 ≡ b → begins_word b ≡ false → begins_opener b ≡ false → (b == 35) ≡ false → (b == 47) ≡ false
      → (b == 126) ≡ false → (b == 60) ≡ false → (b == 123) ≡ false → (b == 125) ≡ false → (nat_lt 42 b && nat_lt b 58) ≡ false → is_invisible b ≡ false
      → IsKept (normal_cut top) t s cut
  symbol_kept b first word opener hash slashed tilde angle left right step seen =
      by_rules symbol_rules (λ r. normal-symbol top (t ++ r) b (first_byte r b first) (grind (arith, nat_tests)) (grind (arith, nat_tests)) word
      (grind (arith, nat_tests)) (grind (arith, nat_tests)) (grind (arith, nat_tests)) (grind (arith, nat_tests)) hash slashed angle tilde left right)
      (some_cases (operator (t ++ s)) [] (one_error (t ++ s)) (KeepsCut symbol_rules t s)
      (λ found e fit. stay_keeps (operator_plain (t ++ s) found e).1 (λ r behind. rw (operator_kept t s r (apart_edge r behind.0) found fit.0 e)))
      (λ e fit. absurd (true≢false fit.1)))

  -- only white space begins with an invisible byte
  hidden : is_white_space cut.kind ≡ false → is_invisible (get_or (t ++ s) 0 0) ≡ true → ⊥
  hidden solid unseen =
      rule_cases (nat_lt 0 (space_len (t ++ s))) (plain TOKEN_WHITESPACE (space_len (t ++ s))) None (operator (t ++ s) ∷ []) (one_error (t ++ s))
      (λ (c : Cut). c ≡ cut → ⊥) (λ e here. true≢false (subst (λ (c : Cut). is_white_space c.kind ≡ false) (sym here) solid))
      (λ e. some_cases (operator (t ++ s)) [] (one_error (t ++ s)) (λ (c : Cut). c ≡ cut → ⊥)
      (λ found f here. both_ways _ (hidden_first (get_or (t ++ s) 0 0) unseen) (operator_first (t ++ s) found (λ b. nat_lt 32 b && nat_lt b 127) refl f))
      (λ f here. true≢false (subst (λ (c : Cut). is_error c.kind ≡ false) (sym here) fits.1)))
      (normal-other top (t ++ s) (get_or (t ++ s) 0 0) refl unseen ∙ is)

  named_kept : begins_word (get_or (t ++ s) 0 0) ≡ true → IsKept (normal_cut top) t s cut
  named_kept word = by_rules name_rules (λ r. normal-named top (t ++ r) (get_or (t ++ s) 0 0) (first_byte r _ refl) word) (name_keeps t s some word)

  stepped_kept : (nat_lt 42 (get_or (t ++ s) 0 0) && nat_lt (get_or (t ++ s) 0 0) 58) ≡ true → (get_or (t ++ s) 0 0 == 47) ≡ false
      → IsKept (normal_cut top) t s cut
  stepped_kept step slashed =
      let bounds = and_parts (nat_lt 42 (get_or (t ++ s) 0 0)) _ step in
      by_rules step_rules (λ r. normal-stepped top (t ++ r) (get_or (t ++ s) 0 0) (first_byte r _ refl) (ltb-true 42 _ bounds.0) (ltb-true _ 58 bounds.1)
      (eqb-false (get_or (t ++ s) 0 0) 47 slashed)) (step_keeps t s some)

  angled_kept : get_or (t ++ s) 0 0 ≡ 60 → IsKept (normal_cut top) t s cut
  angled_kept first = by_rules angle_rules (λ r. normal-angled top (t ++ r) (first_byte r 60 first)) (angle_keeps t s some first)

  opened_kept : begins_opener (get_or (t ++ s) 0 0) ≡ true → IsKept (normal_cut top) t s cut
  opened_kept opener =
      let same = λ (r : List ℕ). normal-opened top (t ++ r) (get_or (t ++ s) 0 0) (first_byte r _ refl) opener in
      let here = same s ∙ is in
      inl (λ r. sym (same r) ∙ (opener_kept t s some r opener (subst (Fits t) (sym here) fits) ∙ here))

  brace_kept : get_or (t ++ s) 0 0 ≡ 123 → IsKept (normal_cut top) t s cut
  brace_kept first = inl (λ r. sym (normal-opening_brace top (t ++ r) (first_byte r 123 first)) ∙ (normal-opening_brace top (t ++ s) first ∙ is))

  closed_kept : get_or (t ++ s) 0 0 ≡ 125 → IsKept (normal_cut top) t s cut
  closed_kept first = inl (λ r. sym (normal-closing_brace top (t ++ r) (first_byte r 125 first)) ∙ (normal-closing_brace top (t ++ s) first ∙ is))

  -- a token that is neither white space nor an error is kept
  pub normal_kept : is_white_space cut.kind ≡ false → IsKept (normal_cut top) t s cut
  normal_kept solid =
      let b = get_or (t ++ s) 0 0 in
      either (begins_word b) named_kept (λ word.
      either (begins_opener b) opened_kept (λ opener.
      either (b == 35) (λ e. line_kept (eqb-true b 35 e)) (λ hash.
      either (b == 47) (λ e. slashed_kept (eqb-true b 47 e)) (λ slashed.
      either (b == 126) (λ e. home_kept (eqb-true b 126 e)) (λ tilde.
      either (b == 60) (λ e. angled_kept (eqb-true b 60 e)) (λ angle.
      either (b == 123) (λ e. brace_kept (eqb-true b 123 e)) (λ left.
      either (b == 125) (λ e. closed_kept (eqb-true b 125 e)) (λ right.
      either (nat_lt 42 b && nat_lt b 58) (λ e. stepped_kept e slashed) (λ step.
      either (is_invisible b) (λ e. absurd (hidden solid e)) (λ seen.
      symbol_kept b refl word opener hash slashed tilde angle left right step seen))))))))))
