-- A name, a keyword or a URI is the same before white space.
use Rattle.std.proofs.Common.{◌≡◌, ℕ, ◌+◌, ◌<◌, Bool, true, false, ◌&&◌, ◌==◌, List, [], ◌∷◌, ◌++◌, length, get_or, take, Some, None, refl, sym, ap, ◌∙◌, inl}
use Rattle.std.proofs.{Common.{inr, arith, eqb-true}, lemmas.{List.{take_at, get_or_append_left, Sums.prefix_len_passes, Folds.list_all_at}, Bool.cases_lt}}
use Rattle.std.{proofs.lemmas.Bool.{and_parts, both_ways, Decides.nat_tests}, specs.{List.{prefix_len, list_all}, Char.is_ascii_alphabetic}}
use Rattle.rnix_kinds.specs.declared.{kinds.SyntaxKind.TheVariants.TOKEN_URI, tokenizer.{text.Class.TheVariants.{Name, Step, Scheme}, rule.Cut.Cut}}
use Rattle.rnix_kinds.specs.{declared.tokenizer.rule.PathStart.TheVariants.Relative, Lexical.{Texts.run_end, Classes.{class_test, is_uri}, Plain.{plain, uri}}}
use Rattle.rnix_kinds.specs.Lexical.{Plain.{word, kind_of_word, begins_word, goes_past_name}, Paths.{first_segment, relative}, Tokens.first_that_fits}
use Rattle.rnix_kinds.{specs.Lexical.Tokens.one_error, proofs.LexicalLemmas.FirstBytes.{relative-None-named, uri-None-named}}
use Rattle.rnix_proof_separation.proofs.Appended.{if_true, same_byte, next_byte_at, no_run, run_inside, end_stopped, run_stops, run_longer, run_more, is_edge}
use Rattle.rnix_proof_separation.proofs.{Appended.{apart_edge, edge_out}, KeptCuts.{Fits, KeepsCut, stay_keeps, keeps_then, rule_cases, fits_first, fits_later}}
use Rattle.rnix_proof_separation.proofs.KeptPaths.{is_relative, relative_keeps, relative_not, slash_at, slash_inside}

-- a URI begins the text: a letter, and a scheme that ends before `:` and a byte of a URI
abbrev is_uri_at : List ℕ → Bool
is_uri_at x =
    is_ascii_alphabetic (get_or x 0 0) && get_or x (prefix_len (class_test Scheme) x) 0 == 58 && is_uri (get_or x (prefix_len (class_test Scheme) x + 1) 0)

scheme_uri : (b : ℕ) → class_test Scheme b ≡ true → is_uri b ≡ true
scheme_uri b e = grind (arith, nat_tests)

scheme_step : (b : ℕ) → class_test Scheme b ≡ true → class_test Step b ≡ true
scheme_step b e = grind (arith, nat_tests)

-- if `:` follows the scheme, no slash follows the path characters other than `/` at the beginning
step_at_scheme : (x : List ℕ) → get_or x (prefix_len (class_test Scheme) x) 0 ≡ 58 → (get_or x (prefix_len (class_test Step) x) 0 == 47) ≡ false
step_at_scheme x colon =
    let n = prefix_len (class_test Scheme) x in
    let m = prefix_len (class_test Step) x in
    elim (cases_lt n m) [
      | inl less ↦ absurd (both_ways (class_test Step (get_or x n 0)) (ap (class_test Step) colon) (prefix_len_passes (class_test Step) x n 0 less))
      | inr not_less ↦ elim (cases_lt m n) [
        | inl more ↦ absurd (both_ways _ (run_stops (class_test Step) x refl) (scheme_step (get_or x m 0) (prefix_len_passes (class_test Scheme) x m 0 more)))
        | inr not_more ↦ (let same : m ≡ n = omega arith in ap (λ k. get_or x k 0 == 47) same ∙ ap (λ b. b == 47) colon)
      ]
    ]

-- the rules for tokens that begin with a letter or `_`
abbrev pub name_rules : List ℕ → Cut
name_rules x = first_that_fits (relative x ∷ uri x ∷ word x ∷ []) (one_error x)

-- the cut of a word of `n` bytes
abbrev word_cut : ℕ → List ℕ → Cut
word_cut n bytes = plain (kind_of_word bytes) n

module _ (t s : List ℕ) (some : 0 < length t) where
  module _ (is : is_uri_at (t ++ s) ≡ true) (fits : Fits t (plain TOKEN_URI (run_end is_uri 0 (t ++ s)))) where
    colon : get_or (t ++ s) (prefix_len (class_test Scheme) (t ++ s)) 0 ≡ 58
    colon = eqb-true _ 58 (and_parts _ _ (and_parts _ _ is).0).1

    colon_inside : prefix_len (class_test Scheme) (t ++ s) < prefix_len is_uri (t ++ s)
    colon_inside = run_longer is_uri (class_test Scheme) (t ++ s) scheme_uri refl (ap is_uri colon)

    next_inside : prefix_len (class_test Scheme) (t ++ s) + 1 < length t
    next_inside = omega (arith, run_more is_uri (t ++ s) (prefix_len (class_test Scheme) (t ++ s)) refl colon_inside (and_parts _ _ is).1, fits.0)

    scheme_same : (r : List ℕ) → prefix_len (class_test Scheme) (t ++ r) ≡ prefix_len (class_test Scheme) (t ++ s)
    scheme_same r = run_inside (class_test Scheme) t s r (omega (arith, next_inside))

    uri_same : (r : List ℕ) → is_uri_at (t ++ r) ≡ true
    uri_same r =
        rw (
          scheme_same r,
          same_byte t r s 0 some,
          same_byte t r s (prefix_len (class_test Scheme) (t ++ s)) (omega (arith, next_inside)),
          same_byte t r s (prefix_len (class_test Scheme) (t ++ s) + 1) next_inside,
        ) is

    uri_kept : (r : List ℕ) → is_edge (get_or r 0 0) ≡ true → name_rules (t ++ r) ≡ plain TOKEN_URI (run_end is_uri 0 (t ++ s))
    uri_kept r edge =
        let end = end_stopped is_uri 0 t s r (omega arith) (omega (arith, fits.0)) (no_run is_uri r (edge_out is_uri refl (get_or r 0 0) edge)) in
        let colon_same : get_or (t ++ r) (prefix_len (class_test Scheme) (t ++ r)) 0 ≡ 58 = eqb-true _ 58 (and_parts _ _ (and_parts _ _ (uri_same r)).0).1 in
        fits_later (relative (t ++ r)) _ _ (relative_not (t ++ r) (step_at_scheme (t ++ r) colon_same))
        (fits_first (uri (t ++ r)) _ _ (if_true (is_uri_at (t ++ r)) _ _ _ (uri_same r) (ap (λ k. Some (plain TOKEN_URI k)) end)))

  name_kept : begins_word (get_or (t ++ s) 0 0) ≡ true → run_end (class_test Name) 0 (t ++ s) ≡ length t → (r : List ℕ)
      → class_test Name (get_or r 0 0) ≡ false → goes_past_name (get_or r 0 0) ≡ false
      → name_rules (t ++ r) ≡ word_cut (run_end (class_test Name) 0 (t ++ s)) (take (run_end (class_test Name) 0 (t ++ s)) (t ++ s))
  name_kept first len r out none =
      let n = run_end (class_test Name) 0 (t ++ s) in
      let end = end_stopped (class_test Name) 0 t s r (omega arith) (omega arith) (no_run (class_test Name) r out) in
      let size : prefix_len (class_test Name) (t ++ r) ≡ length t = omega arith in
      let past : goes_past_name (get_or (t ++ r) (prefix_len (class_test Name) (t ++ r)) 0) ≡ false =
      ap goes_past_name (next_byte_at t r _ size) ∙ none in
      let bytes : take n (t ++ r) ≡ take n (t ++ s) = take_at t r n (sym len) ∙ sym (take_at t s n (sym len)) in
      fits_later (relative (t ++ r)) _ _ (relative-None-named (t ++ r) past)
      (fits_later (uri (t ++ r)) _ _ (uri-None-named (t ++ r) past)
      (fits_first (word (t ++ r)) _ _ (if_true (begins_word (get_or (t ++ r) 0 0)) _ _ _ (rw (same_byte t r s 0 some) first)
      (ap (λ k. Some (word_cut k (take k (t ++ r)))) end ∙ ap (λ w. Some (word_cut n w)) bytes))))

  -- a token that begins so is a path, a URI or a word
  name_cases : begins_word (get_or (t ++ s) 0 0) ≡ true → (P : Cut → Type 0) → (is_relative (t ++ s) ≡ true → P (first_segment Relative 0 (t ++ s)))
      → (is_uri_at (t ++ s) ≡ true → P (plain TOKEN_URI (run_end is_uri 0 (t ++ s))))
      → P (word_cut (run_end (class_test Name) 0 (t ++ s)) (take (run_end (class_test Name) 0 (t ++ s)) (t ++ s))) → P (name_rules (t ++ s))
  name_cases first P path uri_here name =
      rule_cases (is_relative (t ++ s)) _ None _ _ P path
      (λ e. rule_cases (is_uri_at (t ++ s)) _ None _ _ P uri_here
      (λ f. rule_cases (begins_word (get_or (t ++ s) 0 0)) _ None [] _ P (λ g. name) (λ g. absurd (both_ways _ g first))))

  -- a token that begins with a letter or `_` is the same before white space
  pub name_keeps : begins_word (get_or (t ++ s) 0 0) ≡ true → KeepsCut name_rules t s (name_rules (t ++ s))
  name_keeps first =
      name_cases first (KeepsCut name_rules t s) (λ e fits. keeps_then (relative_keeps t s e fits) (λ r after h. fits_first (relative (t ++ r)) _ _ h))
      (λ e fits. stay_keeps refl (λ r behind. uri_kept e fits r (apart_edge r behind.0)))
      (λ fits. stay_keeps refl (λ r behind. let edge = apart_edge r behind.0 in
      name_kept first fits.0 r (edge_out (class_test Name) refl (get_or r 0 0) edge) (edge_out goes_past_name refl (get_or r 0 0) edge)))

  -- no byte of a name is one that ends it
  all_name : list_all (class_test Name) t ≡ true → (n b : ℕ) → n < length t → get_or (t ++ s) n 0 ≡ b → class_test Name b ≡ false → ⊥
  all_name names n b h is out =
      both_ways _ (list_all_at (class_test Name) t n 0 h
      (ap (class_test Name) (sym (get_or_append_left t s 0 n h) ∙ is) ∙ out)) names

  pub name_touches : begins_word (get_or (t ++ s) 0 0) ≡ true → list_all (class_test Name) t ≡ true → Fits t (name_rules (t ++ s)) → (r : List ℕ)
      → class_test Name (get_or r 0 0) ≡ false → goes_past_name (get_or r 0 0) ≡ false → name_rules (t ++ r) ≡ name_rules (t ++ s)
  name_touches first names fits r out none =
      name_cases first (λ (c : Cut). Fits t c → name_rules (t ++ r) ≡ c)
      (λ e fit. absurd (all_name names (prefix_len (class_test Step) (t ++ s)) 47 (slash_inside t s e fit) (slash_at t s e fit) refl))
      (λ e fit. absurd (all_name names (prefix_len (class_test Scheme) (t ++ s)) 58 (omega (arith, next_inside e fit)) (colon e fit) refl))
      (λ fit. name_kept first fit.0 r out none) fits
