-- A path is the same before white space. A path that `${` follows is the same before `${`.
use Rattle.std.proofs.Common.{◌≡◌, ℕ, ◌+◌, ◌-◌, ◌<◌, ◌≤◌, ◌⊎◌, Bool, true, false, not, ◌&&◌, ◌==◌, nat_lt, List, [], ◌∷◌, ◌++◌, length, get_or, take, drop}
use Rattle.std.proofs.Common.{Option, Some, None, refl, sym, ap, ◌∙◌, subst, inl, inr, arith, cond, add-zero, get_or-drop, length-drop, length-append, eqb-true}
use Rattle.std.proofs.{Common.eq-eqb, lemmas.{List.{take_at, get_or_append_left, Sums.{prefix_len_passes, prefix_len-le-length}}, Bool.{cases_lt, and_parts}}}
use Rattle.std.proofs.lemmas.Bool.{and_from, and_left, and_right, or_left, or_parts, both_ways, not-true, not_from_false, lt-ltb, ne_eqb, cond_both}
use Rattle.std.{proofs.lemmas.Bool.Decides.nat_tests, specs.{Prelude.codes, List.prefix_len, Char.is_whitespace, Str.chars}}
use Rattle.rnix_kinds.specs.declared.{kinds.SyntaxKind.TheVariants.TOKEN_ERROR, tokenizer.{text.Class.TheVariants.Step, rule.{Cut.Cut, PathStart.PathStart}}}
use Rattle.rnix_kinds.specs.declared.tokenizer.rule.{PathStart.TheVariants.Relative, Mode.TheVariants.Path, Change.{Change, TheVariants.{Stay, Open}}}
use Rattle.rnix_kinds.specs.Lexical.{PathKinds.kind_of_path, Texts.{occurs_at, begins, run_end, begins_space}, Classes.{class_test, is_path}, Paths.is_broken}
use Rattle.rnix_kinds.{specs.Lexical.Paths.{segment_to, segment, first_segment, goes_on_as_path, relative}, proofs.LexicalLemmas.WordsLemmas.within_from_byte}
use Rattle.rnix_proof_separation.proofs.Appended.{if_true, if_false, same_byte, next_byte_at, dollar_after, no_run, run_inside, run_stopped, end_stopped}
use Rattle.rnix_proof_separation.proofs.{Appended.{run_longer, is_edge, is_next, apart_edge, next_out, edge_out}, KeptNumbers.HasNoSlash, KeptCuts.Fits}
use Rattle.rnix_proof_separation.{proofs.KeptCuts.{Keeps, dollar_first, dollar_next, behind_next, no_error_if}, specs.Separated.is_error}

-- the cut of a segment of `n` bytes, which `${` follows or not
abbrev pub segment_cut : PathStart → Change → Change → ℕ → Bool → List ℕ → Cut
segment_cut start going ended n dollar bytes =
    cond dollar (record { kind = kind_of_path start; len = n; change = going })
    (record { kind = cond (is_broken bytes) TOKEN_ERROR (kind_of_path start); len = n; change = ended })

pub segment_len : (start : PathStart) (going ended : Change) (from : ℕ) (x : List ℕ) → (segment start going ended from x).len ≡ run_end is_path from x
segment_len start going ended from x =
    cond_both (occurs_at (codes "${") (run_end is_path from x) x) _ _ (λ (c : Cut). c.len ≡ run_end is_path from x) (λ e. refl) (λ e. refl)

edge_no_dollar : (r : List ℕ) → is_edge (get_or r 0 0) ≡ true → begins (codes "${") r ≡ false
edge_no_dollar r edge = and_left _ _ (edge_out (λ b. b == 36) refl (get_or r 0 0) edge)

module _ (t s : List ℕ) (start : PathStart) (going ended : Change) (from : ℕ) (h : from ≤ length t)
    (fits : Fits t (segment start going ended from (t ++ s))) where
  segment_end : run_end is_path from (t ++ s) ≡ length t
  segment_end = sym (segment_len start going ended from (t ++ s)) ∙ fits.0

  -- if the path characters end with the token, the segment is the token
  segment_at : (r : List ℕ) → run_end is_path from (t ++ r) ≡ length t
      → segment start going ended from (t ++ r) ≡ segment_cut start going ended (length t) (begins (codes "${") r) t
  segment_at r end =
      ap (λ k. segment_to start going ended k (t ++ r)) end
      ∙ (ap (λ d. segment_cut start going ended (length t) d (take (length t) (t ++ r))) (dollar_after t r)
      ∙ ap (segment_cut start going ended (length t) (begins (codes "${") r)) (take_at t r (length t) refl))

  segment_kept : (r : List ℕ) (dollar : Bool) → is_next (get_or r 0 0) ≡ true → begins (codes "${") r ≡ dollar
      → segment start going ended from (t ++ r) ≡ segment_cut start going ended (length t) dollar t
  segment_kept r dollar next e =
      let out = no_run is_path r (next_out is_path refl (get_or r 0 0) next) in
      segment_at r (end_stopped is_path from t s r h (omega (arith, segment_end)) out ∙ segment_end)
      ∙ ap (λ d. segment_cut start going ended (length t) d t) e

  pub segment_dollar : (r : List ℕ) → begins (codes "${") r ≡ true
      → segment start going ended from (t ++ r) ≡ segment_cut start going ended (length t) true t
  segment_dollar r e = segment_kept r true (dollar_next r e) e

  pub segment_edge : (r : List ℕ) → is_edge (get_or r 0 0) ≡ true → segment start going ended from (t ++ r) ≡ segment_cut start going ended (length t) false t
  segment_edge r edge = segment_kept r false (or_left _ _ edge) (edge_no_dollar r edge)

  -- `${` follows the segment, or it is a whole path
  pub segment_cases : (P : Cut → Type 0) → (begins (codes "${") s ≡ true → P (segment_cut start going ended (length t) true t))
      → (begins (codes "${") s ≡ false → is_broken t ≡ false → P (segment_cut start going ended (length t) false t))
      → P (segment start going ended from (t ++ s))
  segment_cases P dollar whole =
      let is = segment_at s segment_end in
      subst P (sym is) (cond_both (begins (codes "${") s) _ _ P dollar (λ e. whole e (no_error_if (is_broken t) (kind_of_path start)
      (subst (λ (c : Cut). is_error c.kind ≡ false) (is ∙ ap (λ d. segment_cut start going ended (length t) d t) e) fits.1))))

-- a rule that gives the first segment of a path keeps it
pub path_keeps : (rule : List ℕ → Option Cut) (t s : List ℕ) (start : PathStart) (from : ℕ) → from ≤ length t → Fits t (first_segment start from (t ++ s))
    → ((r : List ℕ) → is_next (get_or r 0 0) ≡ true → (is_broken t ≡ false) ⊎ (begins (codes "${") r ≡ true)
    → rule (t ++ r) ≡ Some (first_segment start from (t ++ r)))
    → Keeps rule t s (Some (first_segment start from (t ++ s))) (first_segment start from (t ++ s)).change
path_keeps rule t s start from h fits goes =
    segment_cases t s start (Open (Path start)) Stay from h fits (λ (c : Cut). Keeps rule t s (Some c) c.change)
    (λ e. record {
      quiet = tt;
      dollar = λ begun. e;
      same = λ r d. goes r (dollar_next r d) (inr d) ∙ ap Some (segment_dollar t s start (Open (Path start)) Stay from h fits r d);
    })
    (λ e whole. record {
      quiet = tt;
      dollar = λ begun. absurd begun;
      same = λ r behind. goes r (behind_next t r behind) (inl whole)
          ∙ ap Some (segment_edge t s start (Open (Path start)) Stay from h fits r (apart_edge r behind.0));
    })

-- a token that ends with a slash is no whole path
pub slash_last : (t s : List ℕ) (n : ℕ) → n + 1 ≡ length t → get_or (t ++ s) n 0 ≡ 47 → is_broken t ≡ false → ⊥
slash_last t s n e slash whole =
    let last : length t - 1 ≡ n = omega arith in
    let here : get_or t (length t - 1) 0 ≡ 47 = ap (λ k. get_or t k 0) last ∙ (sym (get_or_append_left t s 0 n (omega arith)) ∙ slash) in
    both_ways _ (or_parts (get_or t (length t - 1) 0 == 47) _ whole).0 (eq-eqb (get_or t (length t - 1) 0) 47 here)

pub chars_ascii : (b : ℕ) (text : List ℕ) → b < 128 → chars (b ∷ text) ≡ b ∷ chars text
unfolding chars
chars_ascii b [] h = let low : nat_lt b 128 ≡ true = grind (arith, nat_tests) in rw low refl
chars_ascii b (c ∷ text) h = let low : nat_lt b 128 ≡ true = grind (arith, nat_tests) in rw low refl

no_space_first : (x : List ℕ) → 0 < length x → get_or x 0 0 < 128 → is_whitespace (get_or x 0 0) ≡ false → begins_space x ≡ false
unfolding begins_space
no_space_first [] some low out = absurd (omega arith)
no_space_first (b ∷ x) some low out = rw (chars_ascii b x low, out) refl

-- text from a visible byte on does not begin with white space
no_space_at : (x : List ℕ) (i : ℕ) → i < length x → get_or x i 0 < 128 → is_whitespace (get_or x i 0) ≡ false → begins_space (drop i x) ≡ false
no_space_at x i h low out =
    let here : get_or (drop i x) 0 0 ≡ get_or x i 0 = get_or-drop i x 0 0 ∙ ap (λ k. get_or x k 0) (add-zero i) in
    no_space_first (drop i x) (omega (arith, length-drop i x)) (subst (λ b. b < 128) (sym here) low) (ap is_whitespace here ∙ out)

-- the byte continues a path after a slash
abbrev IsNext : ℕ → Type 0
IsNext b = (0 < b) × (b < 128) × (is_whitespace b ≡ false) × ((b == 47) ≡ false) × ((b == 42) ≡ false)

goes_on_from : (x : List ℕ) (n : ℕ) → get_or x n 0 ≡ 47 → IsNext (get_or x (n + 1) 0) → goes_on_as_path n x ≡ true
goes_on_from x n slash next =
    let inside : n + 1 < length x = within_from_byte x (n + 1) next.0 in
    and_from _ _ (and_from _ _ (and_from _ _ (and_from _ _ (eq-eqb (get_or x n 0) 47 slash) (lt-ltb (n + 1) (length x) inside))
    (not_from_false _ next.3)) (not_from_false _ next.4)) (not_from_false _ (no_space_at x (n + 1) inside next.1 next.2))

goes_on_parts : (x : List ℕ) (n : ℕ) → goes_on_as_path n x ≡ true → (get_or x n 0 ≡ 47) × ((get_or x (n + 1) 0 == 47) ≡ false)
goes_on_parts x n on =
    let a = and_parts _ (not (get_or x (n + 1) 0 == 42)) (and_parts _ (not (begins_space (drop (n + 1) x))) on).0 in
    let c = and_parts _ (not (get_or x (n + 1) 0 == 47)) a.0 in
    (eqb-true (get_or x n 0) 47 (and_parts (get_or x n 0 == 47) (nat_lt (n + 1) (length x)) c.0).0, not-true (get_or x (n + 1) 0 == 47) c.1)

-- a relative path begins the text
abbrev pub is_relative : List ℕ → Bool
is_relative x = nat_lt 0 (prefix_len (class_test Step) x) && goes_on_as_path (prefix_len (class_test Step) x) x

next_path : (b : ℕ) → is_path b ≡ true → (b == 47) ≡ false → IsNext b
next_path b e f = (grind (arith, nat_tests), grind (arith, nat_tests), grind (arith, nat_tests), f, grind (arith, nat_tests))

module _ (t s : List ℕ) (is : is_relative (t ++ s) ≡ true) (fits : Fits t (first_segment Relative 0 (t ++ s))) where
  parts : (get_or (t ++ s) (prefix_len (class_test Step) (t ++ s)) 0 ≡ 47) × ((get_or (t ++ s) (prefix_len (class_test Step) (t ++ s) + 1) 0 == 47) ≡ false)
  parts = goes_on_parts (t ++ s) (prefix_len (class_test Step) (t ++ s)) (and_parts (nat_lt 0 (prefix_len (class_test Step) (t ++ s))) _ is).1

  -- a slash follows the path characters other than `/` at the beginning
  pub slash_at : get_or (t ++ s) (prefix_len (class_test Step) (t ++ s)) 0 ≡ 47
  slash_at = parts.0

  pub slash_inside : prefix_len (class_test Step) (t ++ s) < length t
  slash_inside =
      let longer = run_longer is_path (class_test Step) (t ++ s) (λ b e. (and_parts (is_path b) _ e).0) refl (ap is_path slash_at) in
      omega (arith, longer, segment_len Relative (Open (Path Relative)) Stay 0 (t ++ s), fits.0)

  -- the byte after the slash continues the path
  goes_on : (r : List ℕ) → (is_broken t ≡ false) ⊎ (begins (codes "${") r ≡ true) → IsNext (get_or (t ++ r) (prefix_len (class_test Step) (t ++ s) + 1) 0)
  goes_on r which =
      elim (cases_lt (prefix_len (class_test Step) (t ++ s) + 1) (length t)) [
        | inl more ↦ (
            let size : prefix_len (class_test Step) (t ++ s) + 1 < prefix_len is_path (t ++ s) =
            omega (arith, segment_len Relative (Open (Path Relative)) Stay 0 (t ++ s), fits.0) in
            subst IsNext (same_byte t s r _ more) (next_path (get_or (t ++ s) (prefix_len (class_test Step) (t ++ s) + 1) 0)
            (prefix_len_passes is_path (t ++ s) (prefix_len (class_test Step) (t ++ s) + 1) 0 size) parts.1))
        | inr past ↦ last (omega (arith, slash_inside)) which
      ]
    where
      last : prefix_len (class_test Step) (t ++ s) + 1 ≡ length t → (is_broken t ≡ false) ⊎ (begins (codes "${") r ≡ true)
          → IsNext (get_or (t ++ r) (prefix_len (class_test Step) (t ++ s) + 1) 0)
      last end (inl whole) = absurd (slash_last t s (prefix_len (class_test Step) (t ++ s)) end slash_at whole)
      last end (inr d) = subst IsNext (sym (next_byte_at t r _ end ∙ dollar_first r d)) (omega arith, omega arith, refl, refl, refl)

  relative_on : (r : List ℕ) → (is_broken t ≡ false) ⊎ (begins (codes "${") r ≡ true) → is_relative (t ++ r) ≡ true
  relative_on r which =
      ap (λ k. nat_lt 0 k && goes_on_as_path k (t ++ r)) (run_inside (class_test Step) t s r slash_inside)
      ∙ and_from (nat_lt 0 (prefix_len (class_test Step) (t ++ s))) (goes_on_as_path (prefix_len (class_test Step) (t ++ s)) (t ++ r))
      (and_parts (nat_lt 0 (prefix_len (class_test Step) (t ++ s))) _ is).0
      (goes_on_from (t ++ r) (prefix_len (class_test Step) (t ++ s)) (same_byte t r s _ slash_inside ∙ slash_at) (goes_on r which))

  pub relative_keeps : Keeps relative t s (Some (first_segment Relative 0 (t ++ s))) (first_segment Relative 0 (t ++ s)).change
  relative_keeps =
      path_keeps relative t s Relative 0 (omega arith) fits (λ r next which. if_true (is_relative (t ++ r)) _ _ _ (relative_on r which) refl)

-- if no slash follows the path characters other than `/` at the beginning, no relative path begins
pub relative_not : (x : List ℕ) → (get_or x (prefix_len (class_test Step) x) 0 == 47) ≡ false → relative x ≡ None
relative_not x other = if_false (is_relative x) _ _ _ (and_right _ _ (and_left _ _ (and_left _ _ (and_left _ _ (and_left _ _ other))))) refl

-- before white space, a token without slashes begins no relative path
pub relative_none : (t r : List ℕ) → is_edge (get_or r 0 0) ≡ true → HasNoSlash (length t) (t ++ r) → relative (t ++ r) ≡ None
relative_none t r edge free =
    let n = prefix_len (class_test Step) (t ++ r) in
    let stop = no_run (class_test Step) r (edge_out (class_test Step) refl (get_or r 0 0) edge) in
    let short : prefix_len (class_test Step) (t ++ []) ≤ length t = omega (arith, prefix_len-le-length (class_test Step) (t ++ []), length-append t []) in
    let size : n ≤ length t = omega (arith, run_stopped (class_test Step) t [] r short stop) in
    relative_not (t ++ r)
    (elim (cases_lt n (length t)) [
      | inl inside ↦ ne_eqb _ 47 (free _ inside)
      | inr past ↦ (let end : n ≡ length t = omega arith in
          ap (λ b. b == 47) (next_byte_at t r _ end) ∙ edge_out (λ b. b == 47) refl (get_or r 0 0) edge)
    ])
