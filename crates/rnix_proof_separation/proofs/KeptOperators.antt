-- An operator or a bracket is the same before white space.
use Rattle.std.proofs.Common.{◌≡◌, ℕ, suc, ◌+◌, ◌<◌, ◌≤◌, Bool, true, false, not, ◌&&◌, ◌==◌, nat_lt, List, [], ◌∷◌, ◌++◌, length, get_or, Option, Some, refl}
use Rattle.std.proofs.{Common.{sym, ap, ◌∙◌, subst, inl, inr, arith, eqb-true}, lemmas.{Option.{same_Some, none-some}, Bool.{cases_lt, cond_both, and_parts}}}
use Rattle.std.{proofs.lemmas.Bool.{both_ways, false_from_ne_true, not-true, eq-eqb}, specs.List.list_all}
use Rattle.rnix_kinds.specs.{declared.{kinds.SyntaxKind.SyntaxKind, tokenizer.rule.Cut.Cut}, Lexical.{Texts.{occurs_at, begins}, Plain.plain}}
use Rattle.{rnix_kinds.specs.Lexical.Operators.{operators, first_row, operator}, rnix_proof_separation.proofs.Appended.{if_true, if_false, stands_inside}}
use Rattle.rnix_proof_separation.proofs.{Appended.{stands_within, is_edge, not_in_word}, KeptNumbers.IsPlainCut}

-- the words of all rows pass a test
abbrev pub all_words : (List ℕ → Bool) → List (List ℕ × SyntaxKind) → Bool
all_words test rows = list_all (λ row. test row.0) rows

-- what holds of each row holds of the one that applies
row_holds : (rows : List (List ℕ × SyntaxKind)) (x : List ℕ) (cut : Cut) (P : Cut → Type 0) (test : List ℕ → Bool) → all_words test rows ≡ true
    → ((w : List ℕ) (kind : SyntaxKind) → test w ≡ true → begins w x ≡ true → P (plain kind (length w))) → first_row rows x ≡ Some cut → P cut
row_holds [] x cut P test ok each is = absurd (none-some cut is)
row_holds (row ∷ rows) x cut P test ok each is =
    let parts = and_parts (test row.0) (all_words test rows) ok in
    cond_both (begins row.0 x) _ _ (λ (o : Option Cut). o ≡ Some cut → P cut)
    (λ e f. subst P (same_Some (plain row.1 (length row.0)) cut f) (each row.0 row.1 parts.0 e)) (λ e f. row_holds rows x cut P test parts.1 each f) is

abbrev has_no_slash : List ℕ → Bool
has_no_slash w = list_all (λ b. not (b == 47)) w

slash_here : (b i k : ℕ) (x : List ℕ) → i ≡ k → (get_or x i 0 == b) ≡ true → not (b == 47) ≡ true → get_or x k 0 ≡ 47 → ⊥
slash_here b i k x e f g is =
    both_ways _ (not-true _ g) (eq-eqb b 47 (sym (eqb-true (get_or x i 0) b f) ∙ (ap (λ j. get_or x j 0) e ∙ is)))

stands_no_slash : (w : List ℕ) (i : ℕ) (x : List ℕ) → occurs_at w i x ≡ true → has_no_slash w ≡ true → (k : ℕ) → i ≤ k → k < i + length w
    → get_or x k 0 ≡ 47 → ⊥
stands_no_slash [] i x e f k low high is = absurd (omega arith)
stands_no_slash (b ∷ []) i x e f k low high is =
    slash_here b i k x (omega arith) e (and_parts (not (b == 47)) true f).0 is
stands_no_slash (b ∷ c ∷ w) i x e f k low high is =
    let parts = and_parts (get_or x i 0 == b) (occurs_at (c ∷ w) (suc i) x) e in
    let others = and_parts (not (b == 47)) (has_no_slash (c ∷ w)) f in
    elim (cases_lt i k) [
      | inl later ↦ stands_no_slash (c ∷ w) (suc i) x parts.1 others.1 k (omega arith) (omega arith) is
      | inr here ↦ slash_here b i k x (omega arith) parts.0 others.0 is
    ]

-- an operator has no slash in it, and leaves the modes alone
pub operator_plain : (x : List ℕ) (cut : Cut) → operator x ≡ Some cut → IsPlainCut x cut
operator_plain x cut is =
    row_holds operators x cut (IsPlainCut x) has_no_slash refl
    (λ w kind ok e. (λ k h slash. stands_no_slash w 0 x e ok k (omega arith) (omega arith) slash, refl)) is

-- the first byte of a word passes a test
abbrev pub first_passes : (ℕ → Bool) → List ℕ → Bool
first_passes test w = test (get_or w 0 0) && nat_lt 0 (length w)

pub word_first : (w x : List ℕ) → nat_lt 0 (length w) ≡ true → begins w x ≡ true → get_or x 0 0 ≡ get_or w 0 0
word_first [] x some e = absurd (both_ways false refl some)
word_first (b ∷ []) x some e = eqb-true (get_or x 0 0) b e
word_first (b ∷ c ∷ w) x some e = eqb-true (get_or x 0 0) b (and_parts (get_or x 0 0 == b) (occurs_at (c ∷ w) 1 x) e).0

-- an operator begins with a byte that passes a test, if all do
pub operator_first : (x : List ℕ) (cut : Cut) (test : ℕ → Bool) → all_words (first_passes test) operators ≡ true → operator x ≡ Some cut
    → test (get_or x 0 0) ≡ true
operator_first x cut test ok is =
    row_holds operators x cut (λ c. test (get_or x 0 0) ≡ true) (first_passes test) ok
    (λ w kind passes e. let parts = and_parts (test (get_or w 0 0)) (nat_lt 0 (length w)) passes in ap test (word_first w x parts.1 e) ∙ parts.0) is

module _ (t s r : List ℕ) where
  -- a word that begins the token before one text also begins it before another
  pub word_kept : (w : List ℕ) → length w ≤ length t → begins w (t ++ s) ≡ true → begins w (t ++ r) ≡ true
  word_kept w len e = sym (stands_inside w 0 t s r (omega arith)) ∙ e

  pub word_none : (p : ℕ → Bool) (w : List ℕ) → list_all (λ b. not (p b)) w ≡ true → p (get_or r 0 0) ≡ true → begins w (t ++ s) ≡ false
      → begins w (t ++ r) ≡ false
  word_none p w ok next e =
      false_from_ne_true (begins w (t ++ r)) (λ h. both_ways (begins w (t ++ s)) e
      (stands_inside w 0 t s r (stands_within w 0 t r (not_in_word p w (get_or r 0 0) ok next) (omega arith) h) ∙ h))

  row_kept : (rows : List (List ℕ × SyntaxKind)) → all_words (λ w. list_all (λ b. not (is_edge b)) w) rows ≡ true → is_edge (get_or r 0 0) ≡ true
      → (cut : Cut) → cut.len ≡ length t → first_row rows (t ++ s) ≡ Some cut → first_row rows (t ++ r) ≡ Some cut
  row_kept [] ok edge cut len is = absurd (none-some cut is)
  row_kept (row ∷ rows) ok edge cut len is =
      let parts = and_parts (list_all (λ b. not (is_edge b)) row.0) (all_words (λ w. list_all (λ b. not (is_edge b)) w) rows) ok in
      cond_both (begins row.0 (t ++ s)) _ _ (λ (o : Option Cut). o ≡ Some cut → first_row (row ∷ rows) (t ++ r) ≡ Some cut)
      (λ e f. if_true (begins row.0 (t ++ r)) _ _ _
      (word_kept row.0 (omega (arith, ap (λ (c : Cut). c.len) (same_Some (plain row.1 (length row.0)) cut f), len)) e) f)
      (λ e f. if_false (begins row.0 (t ++ r)) _ _ _ (word_none is_edge row.0 parts.0 edge e) (row_kept rows parts.1 edge cut len f)) is

  pub operator_kept : is_edge (get_or r 0 0) ≡ true → (cut : Cut) → cut.len ≡ length t → operator (t ++ s) ≡ Some cut → operator (t ++ r) ≡ Some cut
  operator_kept edge cut len is = row_kept operators refl edge cut len is
