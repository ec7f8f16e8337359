-- The modes that may be open: a string or a path is open only directly inside normal text.
use Rattle.std.proofs.Common.{◌≡◌, ℕ, suc, ◌<◌, Bool, true, false, ◌==◌, nat_lt, List, [], ◌∷◌, ◌++◌, length, take, drop, Some, refl, sym, ap, ◌∙◌, subst, inl}
use Rattle.std.proofs.{Common.{inr, arith, cond}, lemmas.Bool.{true≢false, both_ways, cond_both, cond-false, cases_lt, and_parts, and_left, or_from, lt-ltb}}
use Rattle.std.{proofs.lemmas.Bool.Decides.nat_tests, specs.{Prelude.codes, List.list_all, Char.is_whitespace}}
use Rattle.rnix_kinds.specs.declared.{kinds.SyntaxKind.TheVariants.{TOKEN_ERROR, TOKEN_WHITESPACE}, tokenizer.rule.{Cut.Cut, PathStart.PathStart}}
use Rattle.rnix_kinds.specs.declared.tokenizer.rule.{PathStart.{TheVariants.{Root, Relative, Home as FromHome}}, Mode.{Mode, TheVariants.Quoted}}
use Rattle.rnix_kinds.specs.declared.tokenizer.rule.{Mode.TheVariants.{Interpolation, Path}, Change.{Change, TheVariants.{Stay, Open, Close, Count}}}
use Rattle.rnix_kinds.specs.Lexical.{PathKinds.kind_of_path, Texts.{begins, is_blank, space_len, occurs_at, run_end}, Classes.is_path, Plain.plain}
use Rattle.rnix_kinds.specs.Lexical.{Strings.{string_cut, content_len}, Paths.{is_broken, path_goes_on, path_cut}, Tokens.{top, without_ended_paths, changed}}
use Rattle.rnix_kinds.{specs.Lexical.Tokens.{cut_at, normal_cut, tokens_under}, proofs.LexicalLemmas.{FirstBytes.normal-blank, WordsLemmas.space_len-stop}}
use Rattle.{rnix_kinds.proofs.LexicalLemmas.{WordsLemmas.space_len-step, TokensLemmas.tokens_under-cut}, rnix_proof_separation.specs.Separated.is_white_space}
use Rattle.rnix_proof_separation.specs.Separated.{solids, is_inside}

-- directly around each string and each path, normal rules apply
abbrev pub AreNested : List Mode → Type 0
AreNested [] = Unit {0}
AreNested (mode ∷ modes) = (is_inside (Some mode) ≡ true → is_inside (top modes) ≡ false) × AreNested modes

-- the changes that a token inside a string or a path can make
abbrev pub IsInner : Change → Type 0
IsInner Stay = Unit {0}
IsInner Close = Unit {0}
IsInner (Open mode) = is_inside (Some mode) ≡ false
IsInner (Count braces) = ⊥

-- a token inside a string or a path makes such a change and is no white space
abbrev pub IsInnerCut : Cut → Type 0
IsInnerCut cut = IsInner cut.change × (is_white_space cut.kind ≡ false)

pub string_inner : (m : Bool) (x : List ℕ) → IsInnerCut (string_cut m x)
string_inner m x =
    cond_both (content_len m x == length x) _ _ IsInnerCut (λ e. (tt, refl)) (λ e. cond_both (nat_lt 0 (content_len m x)) _ _ IsInnerCut (λ f. (tt, refl))
    (λ f. cond_both (begins (codes "${") x) _ _ IsInnerCut (λ g. (refl, refl)) (λ g. (tt, refl))))

path_kind_solid : (start : PathStart) (broken : Bool) → is_white_space (cond broken TOKEN_ERROR (kind_of_path start)) ≡ false
path_kind_solid start true = refl
path_kind_solid Root false = refl
path_kind_solid Relative false = refl
path_kind_solid FromHome false = refl

pub path_inner : (start : PathStart) (x : List ℕ) → IsInnerCut (path_cut start x)
path_inner start x =
    cond_both (begins (codes "${") x) _ _ IsInnerCut (λ e. (refl, refl))
    (λ e. cond_both (occurs_at (codes "${") (run_end is_path 0 x) x) _ _ IsInnerCut (λ f. (tt, path_kind_solid start false))
    (λ f. (tt, path_kind_solid start (is_broken (take (run_end is_path 0 x) x)))))

nested_normal : (change : Change) (o : List Mode) → AreNested o → is_inside (top o) ≡ false → AreNested (changed change o)
nested_normal Stay o nested normal = nested
nested_normal (Open mode) o nested normal = (λ h. normal, nested)
nested_normal Close [] nested normal = nested
nested_normal Close (mode ∷ o) nested normal = nested.1
nested_normal (Count n) [] nested normal = nested
nested_normal (Count n) (mode ∷ o) nested normal = (λ h. absurd (true≢false (sym h)), nested.1)

nested_inner : (change : Change) (o : List Mode) → AreNested o → IsInner change → AreNested (changed change o)
nested_inner Stay o nested inner = nested
nested_inner Close [] nested inner = nested
nested_inner Close (mode ∷ o) nested inner = nested.1
nested_inner (Open mode) o nested inner = (λ h. absurd (both_ways _ inner h), nested)
nested_inner (Count n) o nested inner = absurd inner

-- after each token this holds of the modes
pub nested_changed : (o : List Mode) (x : List ℕ) (cut : Cut) → AreNested o → cut_at (top o) x ≡ cut → AreNested (changed cut.change o)
unfolding cut_at
nested_changed [] x cut nested is = nested_normal cut.change [] nested refl
nested_changed (Interpolation n ∷ o) x cut nested is = nested_normal cut.change (Interpolation n ∷ o) nested refl
nested_changed (Quoted m ∷ o) x cut nested is =
    nested_inner cut.change (Quoted m ∷ o) nested (subst IsInnerCut is (string_inner m x)).0
nested_changed (Path k ∷ o) x cut nested is =
    nested_inner cut.change (Path k ∷ o) nested (subst IsInnerCut is (path_inner k x)).0

-- outside strings and paths, no path has ended
pub normal_settled : (o : List Mode) (x : List ℕ) → is_inside (top o) ≡ false → without_ended_paths o x ≡ o
normal_settled [] x normal = refl
normal_settled (Interpolation n ∷ o) x normal = refl
normal_settled (Quoted m ∷ o) x normal = refl
normal_settled (Path k ∷ o) x normal = absurd (true≢false normal)

pub nested_settled : (modes : List Mode) (x : List ℕ) → AreNested modes → AreNested (without_ended_paths modes x)
nested_settled [] x nested = nested
nested_settled (Interpolation n ∷ modes) x nested = nested
nested_settled (Quoted m ∷ modes) x nested = nested
nested_settled (Path k ∷ modes) x nested =
    cond_both (path_goes_on x) _ _ AreNested (λ e. nested) (λ e. nested_settled modes x nested.1)

-- inside a string or a path, no path has ended
pub inside_settled : (modes : List Mode) (x : List ℕ) → AreNested modes → is_inside (top (without_ended_paths modes x)) ≡ true
    → without_ended_paths modes x ≡ modes
inside_settled [] x nested inside = refl
inside_settled (Interpolation n ∷ modes) x nested inside = refl
inside_settled (Quoted m ∷ modes) x nested inside = refl
inside_settled (Path k ∷ modes) x nested inside = by (path_goes_on x) inside
  where
    below : is_inside (top (without_ended_paths modes x)) ≡ false
    below = ap (λ o. is_inside (top o)) (normal_settled modes x (nested.0 refl)) ∙ nested.0 refl

    by : (b : Bool) → is_inside (top (cond b (Path k ∷ modes) (without_ended_paths modes x))) ≡ true
        → cond b (Path k ∷ modes) (without_ended_paths modes x) ≡ Path k ∷ modes
    by true h = refl
    by false h = absurd (both_ways _ below h)

blank_no_path : (b : ℕ) → is_blank b ≡ true → (is_path b ≡ false) × ((b == 36) ≡ false)
blank_no_path b e = (grind (arith, nat_tests), grind (arith, nat_tests))

-- no path continues with white space
pub blank_ends : (b : ℕ) (x : List ℕ) → is_blank b ≡ true → path_goes_on (b ∷ x) ≡ false
blank_ends b x e = let other = blank_no_path b e in or_from _ _ (and_left _ _ other.1) other.0

-- outside strings and paths, the same modes are open before white space
pub outside_settled : (modes : List Mode) (x : List ℕ) (b : ℕ) (y : List ℕ) → AreNested modes → is_inside (top (without_ended_paths modes x)) ≡ false
    → is_blank b ≡ true → without_ended_paths modes (b ∷ y) ≡ without_ended_paths modes x
outside_settled [] x b y nested outside e = refl
outside_settled (Interpolation n ∷ modes) x b y nested outside e = refl
outside_settled (Quoted m ∷ modes) x b y nested outside e = refl
outside_settled (Path k ∷ modes) x b y nested outside e =
    cond-false (path_goes_on (b ∷ y)) _ _ (blank_ends b y e)
    ∙ (normal_settled modes (b ∷ y) (nested.0 refl) ∙ (sym (normal_settled modes x (nested.0 refl)) ∙ by (path_goes_on x) outside))
  where
    by : (c : Bool) → is_inside (top (cond c (Path k ∷ modes) (without_ended_paths modes x))) ≡ false
        → without_ended_paths modes x ≡ cond c (Path k ∷ modes) (without_ended_paths modes x)
    by true h = absurd (true≢false h)
    by false h = refl

-- the normal rules apply where no string and no path is open
pub normal_at : (o : List Mode) (x : List ℕ) → is_inside (top o) ≡ false → cut_at (top o) x ≡ normal_cut (top o) x
unfolding cut_at
normal_at [] x normal = refl
normal_at (Interpolation n ∷ o) x normal = refl
normal_at (Quoted m ∷ o) x normal = absurd (true≢false normal)
normal_at (Path k ∷ o) x normal = absurd (true≢false normal)

blank_is : (b : ℕ) → is_blank b ≡ true → (b < 128) × (is_whitespace b ≡ true)
blank_is b e = (grind (arith, nat_tests), grind (arith, nat_tests))

module _ (o : List Mode) (normal : is_inside (top o) ≡ false) where
  -- white space has no effect on the tokens after it
  after_space : (x : List ℕ) (n : ℕ) → 0 < length x → 0 < n → cut_at (top o) x ≡ plain TOKEN_WHITESPACE n
      → solids (tokens_under o x) ≡ solids (tokens_under o (drop n x))
  after_space x n some more is =
      let settled = normal_settled o x normal in
      let here : cut_at (top (without_ended_paths o x)) x ≡ plain TOKEN_WHITESPACE n = ap (λ m. cut_at (top m) x) settled ∙ is in
      ap solids (tokens_under-cut o x (plain TOKEN_WHITESPACE n) some here more) ∙ ap (λ m. solids (tokens_under m (drop n x))) settled

  rule_of_space : (x : List ℕ) → 0 < space_len x → normal_cut (top o) x ≡ plain TOKEN_WHITESPACE (space_len x)
  unfolding normal_cut
  rule_of_space x some =
      let fits : nat_lt 0 (space_len x) ≡ true = lt-ltb 0 (space_len x) some in
      rw fits refl

  -- without the white space at its beginning, a text has the same tokens apart from white space
  all_space : (x : List ℕ) → solids (tokens_under o (drop (space_len x) x)) ≡ solids (tokens_under o x)
  all_space [] = ap (λ k. solids (tokens_under o (drop k []))) (space_len-stop [] (omega arith) refl)
  all_space (b ∷ x) =
      elim (cases_lt 0 (space_len (b ∷ x))) [
        | inl some ↦ sym (after_space (b ∷ x) (space_len (b ∷ x)) (omega arith) some (normal_at o (b ∷ x) normal ∙ rule_of_space (b ∷ x) some))
        | inr none ↦ (let zero_len : space_len (b ∷ x) ≡ 0 = omega arith in ap (λ k. solids (tokens_under o (drop k (b ∷ x)))) zero_len)
      ]

  one_blank : (b : ℕ) (x : List ℕ) → is_blank b ≡ true → solids (tokens_under o (b ∷ x)) ≡ solids (tokens_under o x)
  one_blank b x e =
      let is = blank_is b e in
      let size : space_len (b ∷ x) ≡ suc (space_len x) = omega (arith, space_len-step b x is.0 is.1) in
      after_space (b ∷ x) (space_len (b ∷ x)) (omega arith) (omega arith)
      (normal_at o (b ∷ x) normal ∙ sym (normal-blank (top o) (b ∷ x) b refl is.0 is.1))
      ∙ (ap (λ k. solids (tokens_under o (drop k (b ∷ x)))) size ∙ all_space x)

  pub blanks : (gap x : List ℕ) → list_all is_blank gap ≡ true → solids (tokens_under o (gap ++ x)) ≡ solids (tokens_under o x)
  blanks [] x e = refl
  blanks (b ∷ gap) x e =
      let parts = and_parts (is_blank b) (list_all is_blank gap) e in
      one_blank b (gap ++ x) parts.0 ∙ blanks gap x parts.1
