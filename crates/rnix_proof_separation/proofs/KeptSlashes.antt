-- A token that begins with `/`, `~` or `<` is the same before white space.
use Rattle.std.proofs.Common.{◌≡◌, ℕ, zero, suc, ◌+◌, ◌<◌, ◌⊎◌, Bool, true, false, ◌&&◌, ◌||◌, ◌==◌, List, [], ◌∷◌, ◌++◌, length, get_or, drop, Option, Some}
use Rattle.std.proofs.{Common.{None, refl, sym, ap, ◌∙◌, subst, inl, inr, arith, cond, get_or-drop, eqb-true, eq-eqb}, lemmas.Option.same_Some}
use Rattle.std.proofs.lemmas.{List.Sums.{prefix_len_passes, prefix_len_is}, Bool.{cases_lt, cond_both, and_parts, and_from, and_right, or_left, or_right}}
use Rattle.std.{proofs.lemmas.Bool.{or_parts, or_from, both_ways, true≢false}, specs.{Prelude.codes, List.prefix_len}}
use Rattle.rnix_kinds.specs.declared.kinds.SyntaxKind.{SyntaxKind, TheVariants.{TOKEN_ERROR, TOKEN_LESS, TOKEN_LESS_OR_EQ, TOKEN_PATH_SEARCH, TOKEN_PIPE_LEFT}}
use Rattle.rnix_kinds.specs.declared.tokenizer.{text.Class.TheVariants.Angle, rule.{Cut.Cut, PathStart.TheVariants.{Root, Home}, Mode.TheVariants.Path}}
use Rattle.rnix_kinds.specs.{declared.tokenizer.rule.Change.TheVariants.{Stay, Open}, Lexical.{Texts.{occurs_at, begins, run_end}, Classes.class_test}}
use Rattle.rnix_kinds.specs.Lexical.{Classes.is_path, Plain.plain, Paths.{is_broken, first_segment, slash, home, search_to, search_path}, Operators.operator}
use Rattle.rnix_kinds.{specs.Lexical.Tokens.{first_that_fits, one_error}, proofs.LexicalLemmas.WordsLemmas.within_from_byte}
use Rattle.rnix_proof_separation.proofs.Appended.{if_true, if_false, same_byte, next_byte_at, dollar_after, no_run, end_stopped, end_some, is_edge, apart_edge}
use Rattle.rnix_proof_separation.proofs.{Appended.{is_next, edge_out}, KeptCuts.{Fits, KeepsCut, KeepsRule, stay_keeps, behind_next, rule_cases, some_cases}}
use Rattle.rnix_proof_separation.proofs.{KeptCuts.fits_first, KeptPaths.{segment_len, path_keeps, slash_last}, KeptOperators.{word_kept, word_none}}
use Rattle.rnix_proof_separation.proofs.KeptOperators.{operator_kept, operator_plain}

-- the text begins a path: `/` before a path character or `${`
abbrev begins_path : List ℕ → Bool
begins_path x = begins (codes "/${") x || (begins (codes "/") x && is_path (get_or x 1 0))

module _ (t s : List ℕ) (some : 0 < length t) where
  -- the token is no `//` before bytes other than a slash
  update_none : (r : List ℕ) → is_next (get_or r 0 0) ≡ true → begins (codes "//") (t ++ s) ≡ false → begins (codes "//") (t ++ r) ≡ false
  update_none r next e = word_none t s r is_next (codes "//") refl next e

  module _ (first : get_or (t ++ s) 0 0 ≡ 47) where
    slash_first : (r : List ℕ) → begins (codes "/") (t ++ r) ≡ true
    slash_first r = eq-eqb _ 47 (same_byte t r s 0 some ∙ first)

    -- a path begins again if the token is a whole path, or `${` follows
    root_begins : (r : List ℕ) → Fits t (first_segment Root 0 (t ++ s)) → (is_broken t ≡ false) ⊎ (begins (codes "${") r ≡ true) → begins_path (t ++ r) ≡ true
    root_begins r fits which =
        elim (cases_lt 1 (length t)) [
          | inl more ↦ (
              let size : 1 < prefix_len is_path (t ++ s) = omega (arith, segment_len Root (Open (Path Root)) Stay 0 (t ++ s), fits.0) in
              or_right _ _ (and_from _ _ (slash_first r) (ap is_path (same_byte t r s 1 more) ∙ prefix_len_passes is_path (t ++ s) 1 0 size)))
          | inr short ↦ alone (omega arith) which
        ]
      where
        alone : length t ≡ 1 → (is_broken t ≡ false) ⊎ (begins (codes "${") r ≡ true) → begins_path (t ++ r) ≡ true
        alone one (inl whole) = absurd (slash_last t s 0 (sym one) first whole)
        alone one (inr d) = or_left _ _ (and_from _ _ (slash_first r) (ap (λ k. occurs_at (codes "${") k (t ++ r)) (sym one) ∙ (dollar_after t r ∙ d)))

    division_none : (r : List ℕ) → is_edge (get_or r 0 0) ≡ true → length t ≡ 1 → begins_path (t ++ s) ≡ false → begins_path (t ++ r) ≡ false
    division_none r edge one e =
        or_from _ _ (word_none t s r is_edge (codes "/${") refl edge (or_parts (begins (codes "/${") (t ++ s)) _ e).0)
        (and_right _ _ (ap is_path (next_byte_at t r 1 (sym one)) ∙ edge_out is_path refl (get_or r 0 0) edge))

    pub slash_keeps : KeepsRule slash t s (slash (t ++ s))
    slash_keeps =
        cond_both (begins (codes "//") (t ++ s)) _ _ (KeepsRule slash t s)
        (λ e fits. stay_keeps refl (λ r behind. rw (word_kept t s r (codes "//") (omega (arith, fits.0)) e)))
        (λ e. cond_both (begins_path (t ++ s)) _ _ (KeepsRule slash t s)
        (λ f fits. path_keeps slash t s Root 0 (omega arith) fits (λ r next which. rw (update_none r next e, root_begins r fits which)))
        (λ f. cond_both (begins (codes "/") (t ++ s)) _ _ (KeepsRule slash t s)
        (λ g fits. stay_keeps refl (λ r behind.
        rw (update_none r (behind_next t r behind) e, division_none r (apart_edge r behind.0) (sym fits.0) f, slash_first r)))
        (λ g. both_ways _ g (eq-eqb _ 47 first))))

  pub home_keeps : get_or (t ++ s) 0 0 ≡ 126 → KeepsRule home t s (home (t ++ s))
  home_keeps first =
      cond_both (begins (codes "~/") (t ++ s)) _ _ (KeepsRule home t s)
      (λ e fits. let second = eqb-true (get_or (t ++ s) 1 0) 47 (and_parts (get_or (t ++ s) 0 0 == 126) _ e).1 in
      let size : 1 < length t =
      omega (arith, end_some is_path (t ++ s) 1 refl (ap is_path second), segment_len Home (Open (Path Home)) Stay 1 (t ++ s), fits.0) in
      path_keeps home t s Home 1 (omega arith) fits (λ r next which. rw (word_kept t s r (codes "~/") (omega arith) e)))
      (λ e. cond_both (begins (codes "~") (t ++ s)) _ _ (KeepsRule home t s) (λ f fits. absurd (true≢false fits.1))
      (λ f. both_ways _ f (eq-eqb _ 126 first)))

-- `<` begins a search path, by the bytes after it
abbrev is_search : List ℕ → Bool
is_search x = get_or x 0 0 == 60 && get_or x (prefix_len (class_test Angle) x) 0 == 62

-- if `>` follows the path characters after `<`, the run after `<` ends there
angle_run : (x : List ℕ) → get_or x 0 0 ≡ 60 → get_or x (run_end is_path 1 x) 0 ≡ 62 → prefix_len (class_test Angle) x ≡ run_end is_path 1 x
angle_run x first last =
    let inside : run_end is_path 1 x < length x = within_from_byte x (run_end is_path 1 x) (omega arith) in
    prefix_len_is (class_test Angle) x (run_end is_path 1 x) 0 (omega arith) (λ k h. passes k h) (λ h. ap (class_test Angle) last)
  where
    passes : (k : ℕ) → k < run_end is_path 1 x → class_test Angle (get_or x k 0) ≡ true
    passes zero h = ap (class_test Angle) first
    passes (suc k) h =
        let index_is : 1 + k ≡ suc k = omega arith in
        or_left _ _ (ap is_path (sym (get_or-drop 1 x k 0 ∙ ap (λ j. get_or x j 0) index_is)) ∙ prefix_len_passes is_path (drop 1 x) k 0 (omega arith))

abbrev EndsAngle : ℕ → Type 0
EndsAngle b = (class_test Angle b ≡ false) × ((b == 62) ≡ false)

edge_ends : (b : ℕ) → is_edge b ≡ true → EndsAngle b
edge_ends b e = (edge_out (class_test Angle) refl b e, edge_out (λ c. c == 62) refl b e)

-- `<` before a byte that ends it begins no search path
search_none : (x : List ℕ) → get_or x 0 0 ≡ 60 → EndsAngle (get_or x 1 0) → search_path x ≡ None
search_none x first ends =
    let inside : 0 < length x = within_from_byte x 0 (omega arith) in
    let one : prefix_len (class_test Angle) x ≡ 1 =
    prefix_len_is (class_test Angle) x 1 0 (omega arith) (λ k h. ap (class_test Angle) (ap (λ j. get_or x j 0) (zero_of k h) ∙ first)) (λ h. ends.0) in
    if_false (is_search x) _ _ _ (and_right _ _ (ap (λ k. get_or x k 0 == 62) one ∙ ends.1)) refl
  where
    zero_of : (k : ℕ) → k < 1 → k ≡ 0
    zero_of k h = omega arith

-- an operator that begins with `<`, by its second byte
abbrev angled : ℕ → Option Cut
angled b = cond (b == 124) (Some (plain TOKEN_PIPE_LEFT 2)) (cond (b == 61) (Some (plain TOKEN_LESS_OR_EQ 2)) (Some (plain TOKEN_LESS 1)))

operator_angled : (x : List ℕ) → get_or x 0 0 ≡ 60 → operator x ≡ angled (get_or x 1 0)
operator_angled x first = rw first refl

-- the rules for tokens that begin with `<`
abbrev pub angle_rules : List ℕ → Cut
angle_rules x = first_that_fits (search_path x ∷ operator x ∷ []) (one_error x)

module _ (t s : List ℕ) (some : 0 < length t) (first : get_or (t ++ s) 0 0 ≡ 60) where
  angle_first : (r : List ℕ) → get_or (t ++ r) 0 0 ≡ 60
  angle_first r = same_byte t r s 0 some ∙ first

  -- `<` alone is the same before white space
  less_kept : (r : List ℕ) → is_edge (get_or r 0 0) ≡ true → length t ≡ 1 → angle_rules (t ++ r) ≡ plain TOKEN_LESS 1
  less_kept r edge one =
      let next = next_byte_at t r 1 (sym one) in
      rw (
        search_none (t ++ r) (angle_first r) (subst EndsAngle (sym next) (edge_ends (get_or r 0 0) edge)),
        operator_angled (t ++ r) (angle_first r),
        next,
        edge_out (λ b. b == 124) refl (get_or r 0 0) edge,
        edge_out (λ b. b == 61) refl (get_or r 0 0) edge,
      )

  -- a search path is the same before white space
  found_kept : (r : List ℕ) → is_edge (get_or r 0 0) ≡ true → (run_end is_path 1 (t ++ s) == 1) ≡ false → get_or (t ++ s) (run_end is_path 1 (t ++ s)) 0 ≡ 62
      → run_end is_path 1 (t ++ s) + 1 ≡ length t → angle_rules (t ++ r) ≡ plain TOKEN_PATH_SEARCH (run_end is_path 1 (t ++ s) + 1)
  found_kept r edge other last len =
      let end = end_stopped is_path 1 t s r (omega arith) (omega arith) (no_run is_path r (edge_out is_path refl (get_or r 0 0) edge)) in
      let close : get_or (t ++ r) (run_end is_path 1 (t ++ s)) 0 ≡ 62 = same_byte t r s (run_end is_path 1 (t ++ s)) (omega arith) ∙ last in
      let run = angle_run (t ++ r) (angle_first r) (ap (λ k. get_or (t ++ r) k 0) end ∙ close) in
      let found = and_from _ _ (eq-eqb _ 60 (angle_first r)) (eq-eqb _ 62 (ap (λ k. get_or (t ++ r) k 0) (run ∙ end) ∙ close)) in
      let to : search_to (run_end is_path 1 (t ++ r)) (t ++ r) ≡ plain TOKEN_PATH_SEARCH (run_end is_path 1 (t ++ s) + 1) =
      ap (λ k. search_to k (t ++ r)) end ∙ if_false (run_end is_path 1 (t ++ s) == 1) _ _ _ other
      (ap (λ b. plain (cond b TOKEN_PATH_SEARCH TOKEN_ERROR) (run_end is_path 1 (t ++ s) + 1)) (eq-eqb _ 62 close)) in
      fits_first (search_path (t ++ r)) _ _ (if_true (is_search (t ++ r)) _ _ _ found (ap Some to))

  -- another operator that begins with `<` is the same before white space
  angled_ends : (r : List ℕ) (cut : Cut) → is_edge (get_or r 0 0) ≡ true → cut.len ≡ length t → (b : ℕ) → get_or (t ++ r) 1 0 ≡ b → angled b ≡ Some cut
      → EndsAngle b
  angled_ends r cut edge len b is =
      cond_both (b == 124) _ _ (λ (o : Option Cut). o ≡ Some cut → EndsAngle b) (λ f g. subst EndsAngle (sym (eqb-true b 124 f)) (refl, refl))
      (λ f. cond_both (b == 61) _ _ (λ (o : Option Cut). o ≡ Some cut → EndsAngle b) (λ h k. subst EndsAngle (sym (eqb-true b 61 h)) (refl, refl))
      (λ h k. let one : 1 ≡ length t = ap (λ (c : Cut). c.len) (same_Some (plain TOKEN_LESS 1) cut k) ∙ len in
      subst EndsAngle (sym (next_byte_at t r 1 one) ∙ is) (edge_ends (get_or r 0 0) edge)))

  angled_kept : (r : List ℕ) (cut : Cut) → is_edge (get_or r 0 0) ≡ true → cut.len ≡ length t → operator (t ++ s) ≡ Some cut → angle_rules (t ++ r) ≡ cut
  angled_kept r cut edge len is =
      let kept = operator_kept t s r edge cut len is in
      let ends = angled_ends r cut edge len (get_or (t ++ r) 1 0) refl (sym (operator_angled (t ++ r) (angle_first r)) ∙ kept) in
      rw (search_none (t ++ r) (angle_first r) ends, kept)

  pub angle_keeps : KeepsCut angle_rules t s (angle_rules (t ++ s))
  angle_keeps =
      rule_cases (is_search (t ++ s)) _ None (operator (t ++ s) ∷ []) (one_error (t ++ s)) (KeepsCut angle_rules t s)
      (λ e. cond_both (run_end is_path 1 (t ++ s) == 1) _ _ (KeepsCut angle_rules t s)
      (λ f fits. stay_keeps refl (λ r behind. less_kept r (apart_edge r behind.0) (sym fits.0)))
      (λ f. cond_both (get_or (t ++ s) (run_end is_path 1 (t ++ s)) 0 == 62) TOKEN_PATH_SEARCH TOKEN_ERROR
      (λ (kind : SyntaxKind). KeepsCut angle_rules t s (plain kind (run_end is_path 1 (t ++ s) + 1)))
      (λ g fits. stay_keeps refl (λ r behind. found_kept r (apart_edge r behind.0) f (eqb-true _ 62 g) fits.0)) (λ g fits. absurd (true≢false fits.1))))
      (λ e. some_cases (operator (t ++ s)) [] (one_error (t ++ s)) (KeepsCut angle_rules t s)
      (λ cut f fits. stay_keeps (operator_plain (t ++ s) cut f).1 (λ r behind. angled_kept r cut (apart_edge r behind.0) fits.0 f))
      (λ f fits. absurd (true≢false fits.1)))
