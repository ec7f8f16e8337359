-- A path before a bracket does not depend on what follows the bracket.
use Rattle.std.proofs.Common.{◌≡◌, ℕ, ◌+◌, ◌<◌, ◌≤◌, Bool, true, false, ◌&&◌, ◌==◌, nat_lt, List, ◌++◌, length, get_or, take, drop, IsUtf8, Some}
use Rattle.std.proofs.Common.{None, refl, sym, ap, ◌∙◌, subst, inl, inr, arith, cond, eqb-true, length-append}
use Rattle.std.proofs.lemmas.Bool.{cases_Bool, and_left, lt-ltb, ne_eqb, Decides.nat_tests}
use Rattle.std.proofs.lemmas.{List.get_or_append_left, Str.{IsUtf8-drop, IsCharBoundary-after_ascii}}
use Rattle.std.specs.{Prelude.codes, List.prefix_len}
use Rattle.rnix_kinds.specs.declared.tokenizer.{text.Class.TheVariants.{Step, Angle}, rule.PathStart.PathStart}
use Rattle.rnix_kinds.specs.declared.tokenizer.rule.{PathStart.TheVariants.{Root, Relative, Home}, Mode.TheVariants.{Path}}
use Rattle.rnix_kinds.specs.declared.tokenizer.rule.Change.{Change, TheVariants.{Stay, Open, Close}}
use Rattle.rnix_kinds.specs.Lexical.{Texts.{occurs_at, begins, run_end, begins_space, char_len}, Classes.{class_test, is_path}}
use Rattle.rnix_kinds.specs.Lexical.Paths.{segment_to, segment, first_segment, slash, home, goes_on_as_path, relative, search_path, path_goes_on}
use Rattle.rnix_kinds.specs.Lexical.Paths.{path_cut}
use Rattle.rnix_proof_separation.proofs.KeptPaths.{segment_cut}
use Rattle.rnix_proof_replacement.proofs.BeforeBrackets.{is_stop, BeginsBracket, byte_same, before_stop, run_le, run_same, drop_to, take_same, word_same}
use Rattle.rnix_proof_replacement.proofs.BeforeBrackets.{dollar_same, end_le, end_same, char_len_same, begins_space_same}

abbrev is_slash : ℕ → Bool
is_slash b = b == 47

no_path : (b : ℕ) → is_stop b ≡ true → is_path b ≡ false
no_path b e = grind (arith, nat_tests)

no_step : (b : ℕ) → is_stop b ≡ true → class_test Step b ≡ false
no_step b e = grind (arith, nat_tests)

no_angle : (b : ℕ) → is_stop b ≡ true → class_test Angle b ≡ false
no_angle b e = grind (arith, nat_tests)

no_slash : (b : ℕ) → is_stop b ≡ true → is_slash b ≡ false
no_slash b e = grind (arith, nat_tests)

module _ (o : List ℕ) (bracket : BeginsBracket o) (v : List ℕ) (some : 0 < length v) (s r : List ℕ) where
  byte : (i : ℕ) → i ≤ length v → get_or ((v ++ o) ++ r) i 0 ≡ get_or ((v ++ o) ++ s) i 0
  byte i h = byte_same o bracket v r s i h

  path_end : (i : ℕ) → i ≤ length v → run_end is_path i ((v ++ o) ++ r) ≡ run_end is_path i ((v ++ o) ++ s)
  path_end i h = end_same o bracket v is_path i s r (no_path (get_or o 0 0) bracket.stop) h

  path_le : (i : ℕ) → i ≤ length v → run_end is_path i ((v ++ o) ++ s) ≤ length v
  path_le i h = end_le o bracket v is_path i s (no_path (get_or o 0 0) bracket.stop) h

  pub segment_same : (start : PathStart) (going ended : Change) (from : ℕ) → from ≤ length v
      → segment start going ended from ((v ++ o) ++ r) ≡ segment start going ended from ((v ++ o) ++ s)
  segment_same start going ended from h =
      let end = run_end is_path from ((v ++ o) ++ s) in
      let le = path_le from h in
      ap (λ k. segment_to start going ended k ((v ++ o) ++ r)) (path_end from h)
      ∙ (ap (λ d. segment_cut start going ended end d (take end ((v ++ o) ++ r))) (dollar_same o bracket v end r s le)
      ∙ ap (segment_cut start going ended end (occurs_at (codes "${") end ((v ++ o) ++ s))) (take_same o bracket v end r s le))

  word : (w : List ℕ) → length w ≤ 2 → begins w ((v ++ o) ++ r) ≡ begins w ((v ++ o) ++ s)
  word w len = word_same o bracket v w 0 r s len some

  pub slash_before : slash ((v ++ o) ++ r) ≡ slash ((v ++ o) ++ s)
  slash_before =
      rw (
        dollar_same o bracket v 1 r s (omega arith),
        segment_same Root (Open (Path Root)) Stay 0 (omega arith),
        byte 0 (omega arith),
        byte 1 (omega arith),
      ) refl

  -- a text after an ASCII byte is UTF-8
  rest_utf8 : (i : ℕ) → IsUtf8 v → i < length v → get_or ((v ++ o) ++ s) i 0 < 128 → IsUtf8 (drop (i + 1) v)
  rest_utf8 i utf8 h low =
      let here : get_or ((v ++ o) ++ s) i 0 ≡ get_or v i 0 =
      get_or_append_left (v ++ o) s 0 i (omega (arith, length-append v o)) ∙ get_or_append_left v o 0 i h in
      IsUtf8-drop v (i + 1) utf8 (IsCharBoundary-after_ascii v i utf8 h (subst (λ b. b < 128) here low))

  space_after : (i : ℕ) → IsUtf8 v → i < length v → get_or ((v ++ o) ++ s) i 0 < 128
      → begins_space (drop (i + 1) ((v ++ o) ++ r)) ≡ begins_space (drop (i + 1) ((v ++ o) ++ s))
  space_after i utf8 h low =
      ap begins_space (drop_to o bracket v (i + 1) r (omega arith))
      ∙ (begins_space_same o bracket (drop (i + 1) v) (rest_utf8 i utf8 h low) r s
      ∙ sym (ap begins_space (drop_to o bracket v (i + 1) s (omega arith))))

  char_after : (i : ℕ) → IsUtf8 v → i < length v → get_or ((v ++ o) ++ s) i 0 < 128
      → char_len (drop (i + 1) ((v ++ o) ++ r)) ≡ char_len (drop (i + 1) ((v ++ o) ++ s))
  char_after i utf8 h low =
      ap char_len (drop_to o bracket v (i + 1) r (omega arith))
      ∙ (char_len_same o bracket (drop (i + 1) v) (rest_utf8 i utf8 h low) r s
      ∙ sym (ap char_len (drop_to o bracket v (i + 1) s (omega arith))))

  longer : (x : List ℕ) → length v < length ((v ++ o) ++ x)
  longer x = omega (arith, length-append (v ++ o) x, length-append v o, bracket.some)

  not_one : (x : List ℕ) → (length ((v ++ o) ++ x) == 1) ≡ false
  not_one x = ne_eqb (length ((v ++ o) ++ x)) 1 (λ e. omega (arith, longer x))

  pub home_before : IsUtf8 v → home ((v ++ o) ++ r) ≡ home ((v ++ o) ++ s)
  home_before utf8 =
      elim (cases_Bool (get_or ((v ++ o) ++ s) 0 0 == 126)) [
        | inl e ↦ (let first = eqb-true (get_or ((v ++ o) ++ s) 0 0) 126 e in
            let char = char_after 0 utf8 some (subst (λ b. b < 128) (sym first) (omega arith)) in
            rw (byte 0 (omega arith), byte 1 (omega arith), segment_same Home (Open (Path Home)) Stay 1 (omega arith), not_one r, not_one s, char) refl)
        | inr e ↦ rw (byte 0 (omega arith), e) refl
      ]

  goes_on_same : (n : ℕ) → IsUtf8 v → n ≤ length v → goes_on_as_path n ((v ++ o) ++ r) ≡ goes_on_as_path n ((v ++ o) ++ s)
  goes_on_same n utf8 h =
      elim (cases_Bool (get_or ((v ++ o) ++ s) n 0 == 47)) [
        | inl e ↦ (let here = before_stop o bracket v is_slash s n (no_slash (get_or o 0 0) bracket.stop) h e in
            let first = eqb-true (get_or ((v ++ o) ++ s) n 0) 47 e in
            let space = space_after n utf8 here (subst (λ b. b < 128) (sym first) (omega arith)) in
            let one : nat_lt (n + 1) (length ((v ++ o) ++ r)) ≡ true = lt-ltb _ _ (omega (arith, longer r)) in
            let two : nat_lt (n + 1) (length ((v ++ o) ++ s)) ≡ true = lt-ltb _ _ (omega (arith, longer s)) in
            rw (byte n h, byte (n + 1) (omega arith), one, two, space) refl)
        | inr e ↦ (let other : (get_or ((v ++ o) ++ r) n 0 == 47) ≡ false = ap (λ b. b == 47) (byte n h) ∙ e in
            and_left _ _ (and_left _ _ (and_left _ _ (and_left _ _ other)))
            ∙ sym (and_left _ _ (and_left _ _ (and_left _ _ (and_left _ _ e)))))
      ]

  pub relative_before : IsUtf8 v → relative ((v ++ o) ++ r) ≡ relative ((v ++ o) ++ s)
  relative_before utf8 =
      let le = run_le o bracket v (class_test Step) s (no_step (get_or o 0 0) bracket.stop) in
      let n = prefix_len (class_test Step) ((v ++ o) ++ s) in
      ap (λ k. cond (nat_lt 0 k && goes_on_as_path k ((v ++ o) ++ r)) (Some (first_segment Relative 0 ((v ++ o) ++ r))) None)
      (run_same o bracket v (class_test Step) s r le)
      ∙ (ap (λ b. cond (nat_lt 0 n && b) (Some (first_segment Relative 0 ((v ++ o) ++ r))) None) (goes_on_same n utf8 le)
      ∙ ap (λ c. cond (nat_lt 0 n && goes_on_as_path n ((v ++ o) ++ s)) (Some c) None)
      (segment_same Relative (Open (Path Relative)) Stay 0 (omega arith)))

  pub search_before : search_path ((v ++ o) ++ r) ≡ search_path ((v ++ o) ++ s)
  search_before =
      let le = run_le o bracket v (class_test Angle) s (no_angle (get_or o 0 0) bracket.stop) in
      rw (
        byte 0 (omega arith),
        run_same o bracket v (class_test Angle) s r le,
        byte (prefix_len (class_test Angle) ((v ++ o) ++ s)) le,
        path_end 1 (omega arith),
        byte (run_end is_path 1 ((v ++ o) ++ s)) (path_le 1 (omega arith)),
      ) refl

  pub goes_on_before : path_goes_on ((v ++ o) ++ r) ≡ path_goes_on ((v ++ o) ++ s)
  goes_on_before = rw (byte 0 (omega arith), byte 1 (omega arith)) refl

  pub path_before : (start : PathStart) → path_cut start ((v ++ o) ++ r) ≡ path_cut start ((v ++ o) ++ s)
  path_before start = rw (byte 0 (omega arith), byte 1 (omega arith), segment_same start Stay Close 0 (omega arith)) refl
