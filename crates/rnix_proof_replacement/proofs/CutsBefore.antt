-- The cut of a token before a bracket does not depend on what follows the bracket.
use Rattle.std.proofs.Common.{◌≡◌, ℕ, ◌+◌, ◌<◌, ◌≤◌, Bool, true, false, ◌&&◌, ◌==◌, nat_lt, List, [], ◌∷◌, ◌++◌, length, get_or, take, drop, IsUtf8}
use Rattle.std.proofs.Common.{Option, Some, None, refl, sym, ap, ◌∙◌, subst, inl, inr, arith, cond, length-append, length-drop}
use Rattle.std.proofs.lemmas.Bool.{cases_lt, cases_Bool, cond_both, and_parts, and_left, and_right, ne_eqb, Decides.nat_tests}
use Rattle.std.proofs.lemmas.List.{drop-append-le}
use Rattle.std.specs.{Prelude.codes, List.{prefix_len, list_all}, Char.is_ascii_alphabetic}
use Rattle.rnix_kinds.specs.declared.{kinds.SyntaxKind.SyntaxKind}
use Rattle.rnix_kinds.specs.declared.kinds.SyntaxKind.TheVariants.{TOKEN_COMMENT, TOKEN_ELLIPSIS, TOKEN_ERROR, TOKEN_URI, TOKEN_WHITESPACE}
use Rattle.rnix_kinds.specs.declared.tokenizer.text.Class.TheVariants.{Name, Scheme, Line}
use Rattle.rnix_kinds.specs.declared.tokenizer.rule.{Cut.Cut, Mode.Mode}
use Rattle.rnix_kinds.specs.Lexical.{Texts.{begins, run_end, before_pair}, Classes.{class_test, is_uri}}
use Rattle.rnix_kinds.specs.Lexical.Plain.{plain, space, block_comment, comment, uri, word}
use Rattle.rnix_kinds.specs.Lexical.{Plain.{kind_of_word, begins_word}, Operators.{opener, brace, operators, first_row}}
use Rattle.rnix_kinds.specs.Lexical.Tokens.{first_that_fits, normal_cut}
use Rattle.rnix_proof_separation.proofs.{Appended.{if_true, if_false, stands_inside}, KeptComments.{inside, pair_kept}}
use Rattle.rnix_proof_replacement.proofs.BeforeBrackets.{is_stop, BeginsBracket, byte_same, before_stop, stop_at, run_le, run_same, take_same, word_same}
use Rattle.rnix_proof_replacement.proofs.BeforeBrackets.{space_len_same, char_len_same}
use Rattle.rnix_proof_replacement.proofs.{NumbersBefore.number_before, PathsBefore.{slash_before, home_before, relative_before, search_before}}

-- if the cut of a rule has at most `n` bytes, the other rule has the same cut; without a cut, neither has one
abbrev Agrees : ℕ → Option Cut → Option Cut → Type 0
Agrees n None other = other ≡ None
Agrees n (Some cut) other = cut.len ≤ n → other ≡ Some cut

agrees_same : (n : ℕ) (rule other : Option Cut) → other ≡ rule → Agrees n rule other
agrees_same n None other e = e
agrees_same n (Some cut) other e = λ h. e

agrees_if : (n : ℕ) (b c : Bool) (cut : Cut) (rule : Option Cut) (other : Cut) (others : Option Cut) → c ≡ b
    → (b ≡ true → cut.len ≤ n → other ≡ cut) → Agrees n rule others → Agrees n (cond b (Some cut) rule) (cond c (Some other) others)
agrees_if n true c cut rule other others e pass more = λ h. if_true c _ _ _ e (ap Some (pass refl h))
agrees_if n false c cut rule other others e pass more = subst (Agrees n rule) (sym (if_false c (Some other) others others e refl)) more

module _ (n : ℕ) (cut : Cut) (short : cut.len ≤ n) where
  first_agrees : (rule other : Option Cut) (rules others : List (Option Cut)) (last end : Cut) → Agrees n rule other
      → (first_that_fits rules last ≡ cut → first_that_fits others end ≡ cut)
      → first_that_fits (rule ∷ rules) last ≡ cut → first_that_fits (other ∷ others) end ≡ cut
  first_agrees None other rules others last end e more is = ap (λ x. first_that_fits (x ∷ others) end) e ∙ more is
  first_agrees (Some found) other rules others last end e more is =
      ap (λ x. first_that_fits (x ∷ others) end) (e (subst (λ (c : Cut). c.len ≤ n) (sym is) short)) ∙ is

no_scheme : (b : ℕ) → is_stop b ≡ true → class_test Scheme b ≡ false
no_scheme b e = grind (arith, nat_tests)

abbrev is_colon : ℕ → Bool
is_colon b = b == 58

no_colon : (b : ℕ) → is_stop b ≡ true → is_colon b ≡ false
no_colon b e = grind (arith, nat_tests)

no_point : (b : ℕ) → is_stop b ≡ true → (b == 46) ≡ false
no_point b e = grind (arith, nat_tests)

-- a letter, and after a `:` a byte of a URI
abbrev uri_begins : ℕ → ℕ → ℕ → Bool
uri_begins a b c = is_ascii_alphabetic a && b == 58 && is_uri c

module _ (o : List ℕ) (bracket : BeginsBracket o) (v : List ℕ) (some : 0 < length v) (s r : List ℕ) where
  byte : (i : ℕ) → i ≤ length v → get_or ((v ++ o) ++ r) i 0 ≡ get_or ((v ++ o) ++ s) i 0
  byte i h = byte_same o bracket v r s i h

  fits_word : (w : List ℕ) → length w ≤ 2 → begins w ((v ++ o) ++ r) ≡ begins w ((v ++ o) ++ s)
  fits_word w len = word_same o bracket v w 0 r s len some

  longer : (x : List ℕ) → length v < length ((v ++ o) ++ x)
  longer x = omega (arith, length-append (v ++ o) x, length-append v o, bracket.some)

  block_same : (block_comment (inside ((v ++ o) ++ s)) ((v ++ o) ++ s)).len ≤ length v
      → block_comment (inside ((v ++ o) ++ r)) ((v ++ o) ++ r) ≡ block_comment (inside ((v ++ o) ++ s)) ((v ++ o) ++ s)
  block_same =
      cond_both (inside ((v ++ o) ++ s) == length (drop 2 ((v ++ o) ++ s))) _ _
      (λ (c : Cut). c.len ≤ length v → block_comment (inside ((v ++ o) ++ r)) ((v ++ o) ++ r) ≡ c)
      (λ e h. absurd (omega (arith, longer s)))
      (λ e h. let size = length-append v o in
      let two : 2 ≤ length (v ++ o) = omega arith in
      let less = length-drop 2 (v ++ o) in
      let before : inside ((v ++ o) ++ s) ≡ before_pair 42 47 (drop 2 (v ++ o) ++ s) = ap (before_pair 42 47) (drop-append-le 2 (v ++ o) s two) in
      let after : inside ((v ++ o) ++ r) ≡ before_pair 42 47 (drop 2 (v ++ o) ++ r) = ap (before_pair 42 47) (drop-append-le 2 (v ++ o) r two) in
      let same : inside ((v ++ o) ++ r) ≡ inside ((v ++ o) ++ s) = after ∙ (pair_kept 42 47 (drop 2 (v ++ o)) s r (omega arith) ∙ sym before) in
      let whole = length-drop 2 ((v ++ o) ++ r) in
      if_false (inside ((v ++ o) ++ r) == length (drop 2 ((v ++ o) ++ r))) _ _ _ (ne_eqb _ _ (λ f. omega (arith, longer r)))
      (ap (λ k. plain TOKEN_COMMENT (k + 4)) same))

  comment_before : Agrees (length v) (comment ((v ++ o) ++ s)) (comment ((v ++ o) ++ r))
  comment_before =
      agrees_if (length v) (begins (codes "#") ((v ++ o) ++ s)) (begins (codes "#") ((v ++ o) ++ r)) _ _ _ _ (fits_word (codes "#") (omega arith))
      (λ e h. ap (λ k. plain TOKEN_COMMENT (0 + k)) (run_same o bracket v (class_test Line) s r (omega arith)))
      (agrees_if (length v) (begins (codes "/*") ((v ++ o) ++ s)) (begins (codes "/*") ((v ++ o) ++ r)) _ None _ None (fits_word (codes "/*") (omega arith))
      (λ e h. block_same h) refl)

  uri_same : (n : ℕ) → n ≤ length v
      → uri_begins (get_or ((v ++ o) ++ r) 0 0) (get_or ((v ++ o) ++ r) n 0) (get_or ((v ++ o) ++ r) (n + 1) 0)
      ≡ uri_begins (get_or ((v ++ o) ++ s) 0 0) (get_or ((v ++ o) ++ s) n 0) (get_or ((v ++ o) ++ s) (n + 1) 0)
  uri_same n h =
      elim (cases_Bool (get_or ((v ++ o) ++ s) n 0 == 58)) [
        | inl e ↦ (let here = before_stop o bracket v is_colon s n (no_colon (get_or o 0 0) bracket.stop) h e in
            rw (byte 0 (omega arith), byte n h, byte (n + 1) (omega arith)) refl)
        | inr e ↦ (let other : (get_or ((v ++ o) ++ r) n 0 == 58) ≡ false = ap (λ b. b == 58) (byte n h) ∙ e in
            and_left _ _ (and_right _ _ other) ∙ sym (and_left _ _ (and_right _ _ e)))
      ]

  uri_before : Agrees (length v) (uri ((v ++ o) ++ s)) (uri ((v ++ o) ++ r))
  uri_before =
      let le = run_le o bracket v (class_test Scheme) s (no_scheme (get_or o 0 0) bracket.stop) in
      let n = prefix_len (class_test Scheme) ((v ++ o) ++ s) in
      agrees_if (length v) (uri_begins (get_or ((v ++ o) ++ s) 0 0) (get_or ((v ++ o) ++ s) n 0) (get_or ((v ++ o) ++ s) (n + 1) 0)) _ _ None _ None
      (ap (λ k. uri_begins (get_or ((v ++ o) ++ r) 0 0) (get_or ((v ++ o) ++ r) k 0) (get_or ((v ++ o) ++ r) (k + 1) 0))
      (run_same o bracket v (class_test Scheme) s r le) ∙ uri_same n le)
      (λ e h. ap (λ k. plain TOKEN_URI (0 + k)) (run_same o bracket v is_uri s r (omega arith))) refl

  word_before : Agrees (length v) (word ((v ++ o) ++ s)) (word ((v ++ o) ++ r))
  word_before =
      let n = run_end (class_test Name) 0 ((v ++ o) ++ s) in
      agrees_if (length v) (begins_word (get_or ((v ++ o) ++ s) 0 0)) (begins_word (get_or ((v ++ o) ++ r) 0 0)) _ None _ None
      (ap begins_word (byte 0 (omega arith)))
      (λ e h. let run = ap (λ k. 0 + k) (run_same o bracket v (class_test Name) s r (omega arith)) in
      ap (λ k. plain (kind_of_word (take k ((v ++ o) ++ r))) k) run ∙ ap (λ w. plain (kind_of_word w) n) (take_same o bracket v n r s h)) refl

  dots_same : begins (codes "...") ((v ++ o) ++ r) ≡ begins (codes "...") ((v ++ o) ++ s)
  dots_same =
      elim (cases_lt 1 (length v)) [
        | inl more ↦ stands_inside (codes "...") 0 (v ++ o) r s (omega (arith, length-append v o, bracket.some))
        | inr short ↦ (let here : 1 ≡ length v = omega arith in
            let out : (x : List ℕ) → (get_or ((v ++ o) ++ x) 1 0 == 46) ≡ false =
            λ x. ap (λ b. b == 46) (ap (λ k. get_or ((v ++ o) ++ x) k 0) here ∙ stop_at o bracket v x) ∙ no_point (get_or o 0 0) bracket.stop in
            and_right _ _ (and_left _ _ (out r)) ∙ sym (and_right _ _ (and_left _ _ (out s))))
      ]

  row_before : (rows : List (List ℕ × SyntaxKind)) → list_all (λ row. nat_lt (length row.0) 3) rows ≡ true
      → first_row rows ((v ++ o) ++ r) ≡ first_row rows ((v ++ o) ++ s)
  row_before [] ok = refl
  row_before (row ∷ rows) ok =
      let parts = and_parts (nat_lt (length row.0) 3) (list_all (λ other. nat_lt (length other.0) 3) rows) ok in
      let size : length row.0 ≤ 2 = grind (arith, nat_tests) in
      ap (λ b. cond b (Some (plain row.1 (length row.0))) (first_row rows ((v ++ o) ++ r))) (fits_word row.0 size)
      ∙ ap (λ x. cond (begins row.0 ((v ++ o) ++ s)) (Some (plain row.1 (length row.0))) x) (row_before rows parts.1)

  space_before : IsUtf8 v → space ((v ++ o) ++ r) ≡ space ((v ++ o) ++ s)
  space_before utf8 = ap (λ n. cond (nat_lt 0 n) (Some (plain TOKEN_WHITESPACE n)) None) (space_len_same o bracket v utf8 r s)

  opener_before : opener ((v ++ o) ++ r) ≡ opener ((v ++ o) ++ s)
  opener_before = rw (byte 0 (omega arith), byte 1 (omega arith)) refl

  brace_before : (top : Option Mode) → brace top ((v ++ o) ++ r) ≡ brace top ((v ++ o) ++ s)
  brace_before top = rw (byte 0 (omega arith)) refl

  -- a token outside strings and paths that ends before the bracket does not depend on what follows
  pub normal_before : (top : Option Mode) (cut : Cut) → IsUtf8 v → cut.len ≤ length v → normal_cut top ((v ++ o) ++ s) ≡ cut
      → normal_cut top ((v ++ o) ++ r) ≡ cut
  unfolding normal_cut
  normal_before top cut utf8 short is =
      let same = agrees_same (length v) in
      first_agrees (length v) cut short _ _ _ _ _ _ (same _ _ (space_before utf8))
      (first_agrees (length v) cut short _ _ _ _ _ _ comment_before
      (first_agrees (length v) cut short _ _ _ _ _ _ (same _ _ (ap (λ b. cond b (Some (plain TOKEN_ELLIPSIS 3)) None) dots_same))
      (first_agrees (length v) cut short _ _ _ _ _ _ (same _ _ (slash_before o bracket v some s r))
      (first_agrees (length v) cut short _ _ _ _ _ _ (same _ _ (home_before o bracket v some s r utf8))
      (first_agrees (length v) cut short _ _ _ _ _ _ (same _ _ (relative_before o bracket v some s r utf8))
      (first_agrees (length v) cut short _ _ _ _ _ _ (same _ _ (search_before o bracket v some s r))
      (first_agrees (length v) cut short _ _ _ _ _ _ uri_before
      (first_agrees (length v) cut short _ _ _ _ _ _ word_before
      (first_agrees (length v) cut short _ _ _ _ _ _ (same _ _ (number_before o bracket v some s r))
      (first_agrees (length v) cut short _ _ _ _ _ _ (same _ _ opener_before)
      (first_agrees (length v) cut short _ _ _ _ _ _ (same _ _ (brace_before top))
      (first_agrees (length v) cut short _ _ _ _ _ _ (same _ _ (row_before operators refl))
      (λ e. ap (plain TOKEN_ERROR) (char_len_same o bracket v utf8 r s) ∙ e))))))))))))) is
