-- A bracket, a separator or a name is the same before a byte that may touch it.
use Rattle.std.proofs.Common.{◌≡◌, ℕ, ◌<◌, Bool, true, not, ◌&&◌, ◌==◌, nat_lt, List, ◌++◌, length, get_or, Option, Some, refl, sym, ap, ◌∙◌, subst, inl, inr}
use Rattle.std.proofs.{Common.{arith, eqb-true}, lemmas.{Bool.{or_cases, and_parts, both_ways, not-true, Decides.nat_tests}, List.get_or_append_left}}
use Rattle.{std.specs.List.{list_all, prefix_len}, rnix_kinds.specs.declared.kinds.SyntaxKind.{SyntaxKind, TheVariants.{TOKEN_AT, TOKEN_COLON, TOKEN_COMMA}}}
use Rattle.rnix_kinds.specs.declared.kinds.SyntaxKind.TheVariants.{TOKEN_L_BRACK, TOKEN_L_PAREN, TOKEN_QUESTION, TOKEN_R_BRACK, TOKEN_R_PAREN, TOKEN_SEMICOLON}
use Rattle.rnix_kinds.specs.{declared.tokenizer.{rule.{Cut.Cut, Mode.Mode}, text.Class.TheVariants.{Name, Step}}, Lexical.{Classes.class_test, Plain.plain}}
use Rattle.rnix_kinds.specs.Lexical.{Plain.{begins_word, goes_past_name}, Numbers.number, Paths.relative, Operators.{operator, ellipsis}, Tokens.normal_cut}
use Rattle.rnix_kinds.proofs.LexicalLemmas.FirstBytes.{begins_step, begins_opener, normal-stepped, normal-symbol, normal-named, normal-opened}
use Rattle.{rnix_kinds.proofs.LexicalLemmas.FirstBytes.normal-opening_brace, rnix_proof_separation.proofs.{Appended.{same_byte, no_run, either}, KeptCuts.Fits}}
use Rattle.rnix_proof_separation.proofs.{KeptCuts.{fits_first, fits_later}, KeptPaths.relative_not, KeptComments.opener_kept, KeptWords.name_touches}
use Rattle.rnix_proof_separation.specs.Separated.{is_bracket, ends_name, may_touch}

-- outside strings and paths, a text that begins with this byte has it as its first token
abbrev IsAlone : Option Mode → ℕ → SyntaxKind → Type 0
IsAlone top b kind = (x : List ℕ) → get_or x 0 0 ≡ b → normal_cut top x ≡ plain kind 1

-- the byte begins only operators
abbrev is_symbol : ℕ → Bool
is_symbol b =
    nat_lt 32 b && nat_lt b 127 && not (begins_word b) && not (begins_step b) && not (begins_opener b) && not (b == 35) && not (b == 47) && not (b == 60)
    && not (b == 126) && not (b == 123) && not (b == 125)

symbol_alone : (top : Option Mode) (b : ℕ) (kind : SyntaxKind) → is_symbol b ≡ true → ((x : List ℕ) → get_or x 0 0 ≡ b → operator x ≡ Some (plain kind 1))
    → IsAlone top b kind
symbol_alone top b kind e one x first =
    sym (normal-symbol top x b first (grind (arith, nat_tests)) (grind (arith, nat_tests)) (grind (arith, nat_tests)) (grind (arith, nat_tests))
    (grind (arith, nat_tests)) (grind (arith, nat_tests)) (grind (arith, nat_tests)) (grind (arith, nat_tests)) (grind (arith, nat_tests))
    (grind (arith, nat_tests)) (grind (arith, nat_tests)) (grind (arith, nat_tests)) (grind (arith, nat_tests)))
    ∙ fits_first (operator x) _ _ (one x first)

comma_alone : (top : Option Mode) → IsAlone top 44 TOKEN_COMMA
comma_alone top x e =
    let none : prefix_len (class_test Step) x ≡ 0 = no_run (class_test Step) x (ap (class_test Step) e) in
    sym (normal-stepped top x 44 e (omega arith) (omega arith) (λ f. omega arith))
    ∙ fits_later (ellipsis x) _ _ (rw e refl) (fits_later (relative x) _ _ (relative_not x (rw (none, e) refl))
    (fits_later (number x) _ _ (rw e refl) (fits_first (operator x) _ _ (rw e refl))))

module _ (top : Option Mode) (t s : List ℕ) (some : 0 < length t) (cut : Cut) (is : normal_cut top (t ++ s) ≡ cut) (fits : Fits t cut) (r : List ℕ) where
  first_byte : (b : ℕ) → get_or (t ++ s) 0 0 ≡ b → get_or (t ++ r) 0 0 ≡ b
  first_byte b e = same_byte t r s 0 some ∙ e

  alone : (b : ℕ) (kind : SyntaxKind) → IsAlone top b kind → get_or (t ++ s) 0 0 ≡ b → normal_cut top (t ++ r) ≡ cut
  alone b kind one e = one (t ++ r) (first_byte b e) ∙ (sym (one (t ++ s) e) ∙ is)

  opened_same : get_or (t ++ s) 0 0 ≡ 36 → normal_cut top (t ++ r) ≡ cut
  opened_same e =
      let here = normal-opened top (t ++ s) 36 e refl ∙ is in
      sym (normal-opened top (t ++ r) 36 (first_byte 36 e) refl) ∙ (opener_kept t s some r (ap begins_opener e) (subst (Fits t) (sym here) fits) ∙ here)

  brace_same : get_or (t ++ s) 0 0 ≡ 123 → normal_cut top (t ++ r) ≡ cut
  brace_same e = sym (normal-opening_brace top (t ++ r) (first_byte 123 e)) ∙ (normal-opening_brace top (t ++ s) e ∙ is)

  symbol_same : (b : ℕ) (kind : SyntaxKind) → is_symbol b ≡ true → ((x : List ℕ) → get_or x 0 0 ≡ b → operator x ≡ Some (plain kind 1))
      → get_or (t ++ s) 0 0 ≡ b → normal_cut top (t ++ r) ≡ cut
  symbol_same b kind e one = alone b kind (symbol_alone top b kind e one)

  bracket_same : (b : ℕ) → get_or (t ++ s) 0 0 ≡ b → is_bracket b ≡ true → normal_cut top (t ++ r) ≡ cut
  bracket_same b p e =
      either (b == 40) (λ f. symbol_same 40 TOKEN_L_PAREN refl (λ x h. rw h refl) (p ∙ eqb-true b 40 f)) (λ e0.
      either (b == 41) (λ f. symbol_same 41 TOKEN_R_PAREN refl (λ x h. rw h refl) (p ∙ eqb-true b 41 f)) (λ e1.
      either (b == 91) (λ f. symbol_same 91 TOKEN_L_BRACK refl (λ x h. rw h refl) (p ∙ eqb-true b 91 f)) (λ e2.
      either (b == 93) (λ f. symbol_same 93 TOKEN_R_BRACK refl (λ x h. rw h refl) (p ∙ eqb-true b 93 f)) (λ e3.
      either (b == 58) (λ f. symbol_same 58 TOKEN_COLON refl (λ x h. rw h refl) (p ∙ eqb-true b 58 f)) (λ e4.
      either (b == 59) (λ f. symbol_same 59 TOKEN_SEMICOLON refl (λ x h. rw h refl) (p ∙ eqb-true b 59 f)) (λ e5.
      either (b == 63) (λ f. symbol_same 63 TOKEN_QUESTION refl (λ x h. rw h refl) (p ∙ eqb-true b 63 f)) (λ e6.
      either (b == 64) (λ f. symbol_same 64 TOKEN_AT refl (λ x h. rw h refl) (p ∙ eqb-true b 64 f)) (λ e7.
      either (b == 44) (λ f. alone 44 TOKEN_COMMA (comma_alone top) (p ∙ eqb-true b 44 f)) (λ e8.
      either (b == 123) (λ f. brace_same (p ∙ eqb-true b 123 f)) (λ e9.
      either (b == 36) (λ f. opened_same (p ∙ eqb-true b 36 f)) (λ e10.
      absurd (both_ways _ (rw (e0, e1, e2, e3, e4, e5, e6, e7, e8, e9, e10) refl) e))))))))))))

  name_same : begins_word (get_or (t ++ s) 0 0) ≡ true → list_all (class_test Name) t ≡ true → ends_name (get_or r 0 0) ≡ true → normal_cut top (t ++ r) ≡ cut
  name_same word names ends =
      let parts = and_parts (not (class_test Name (get_or r 0 0))) (not (goes_past_name (get_or r 0 0))) ends in
      let here = normal-named top (t ++ s) (get_or (t ++ s) 0 0) refl word ∙ is in
      sym (normal-named top (t ++ r) (get_or (t ++ s) 0 0) (first_byte (get_or (t ++ s) 0 0) refl) word)
      ∙ (name_touches t s some word names (subst (Fits t) (sym here) fits) r (not-true (class_test Name (get_or r 0 0)) parts.0)
      (not-true (goes_past_name (get_or r 0 0)) parts.1) ∙ here)

  -- a token is the same before a byte that may touch it
  pub touch_kept : may_touch t (get_or r 0 0) ≡ true → normal_cut top (t ++ r) ≡ cut
  touch_kept e =
      let first : get_or (t ++ s) 0 0 ≡ get_or t 0 0 = get_or_append_left t s 0 0 some in
      elim (or_cases (is_bracket (get_or t 0 0)) (begins_word (get_or t 0 0) && list_all (class_test Name) t && ends_name (get_or r 0 0)) e) [
        | inl f ↦ bracket_same (get_or t 0 0) first f
        | inr f ↦ (let outer = and_parts (begins_word (get_or t 0 0) && list_all (class_test Name) t) (ends_name (get_or r 0 0)) f in
            let inner = and_parts (begins_word (get_or t 0 0)) (list_all (class_test Name) t) outer.0 in
            name_same (ap begins_word first ∙ inner.0) inner.1 outer.1)
      ]
