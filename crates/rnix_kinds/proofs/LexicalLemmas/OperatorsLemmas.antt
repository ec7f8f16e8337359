-- The first operator that fits is the longest.
use Rattle.std.proofs.Common.{◌≡◌, ℕ, ◌≤◌, Bool, true, false, not, ◌&&◌, cond, nat_lt, List, [], ◌∷◌, length, Some, refl, subst, inl, inr, arith}
use Rattle.std.{proofs.lemmas.{Bool.{and_parts, Decides.nat_tests}, Option.same_Some}, specs.List.list_all}
use Rattle.rnix_kinds.specs.{declared.{kinds.SyntaxKind.SyntaxKind, tokenizer.rule.Cut.Cut}, Lexical.{Texts.begins, Plain.plain, Operators.operators}}
use Rattle.rnix_kinds.specs.Lexical.{Operators.{first_row, operator}, Longest.{IsLongest, FitsRow}}

-- no row is longer than an earlier one
abbrev is_no_longer : ℕ → List ℕ × SyntaxKind → Bool
is_no_longer n row = not (nat_lt n (length row.0))

abbrev are_descending : List (List ℕ × SyntaxKind) → Bool
are_descending [] = true
are_descending (row ∷ rows) = list_all (is_no_longer (length row.0)) rows && are_descending rows

no_longer : (n m : ℕ) → not (nat_lt n m) ≡ true → m ≤ n
no_longer n m e = grind (arith, nat_tests)

fits_no_longer : (n : ℕ) (rows : List (List ℕ × SyntaxKind)) (text : List ℕ) (m : ℕ) → list_all (is_no_longer n) rows ≡ true → FitsRow rows text m → m ≤ n
fits_no_longer n [] text m ok fits = absurd fits
fits_no_longer n (row ∷ rows) text m ok (inl here) =
    subst (λ k. k ≤ n) here.1 (no_longer n (length row.0) (and_parts (is_no_longer n row) (list_all (is_no_longer n) rows) ok).0)
fits_no_longer n (row ∷ rows) text m ok (inr later) = fits_no_longer n rows text m (and_parts (is_no_longer n row) (list_all (is_no_longer n) rows) ok).1 later

not_here : (b : Bool) → b ≡ false → b ≡ true → ⊥
not_here b e f = cc

later_only : (row : List ℕ × SyntaxKind) (rows : List (List ℕ × SyntaxKind)) (text : List ℕ) (m : ℕ) → begins row.0 text ≡ false → FitsRow (row ∷ rows) text m
    → FitsRow rows text m
later_only row rows text m e (inl here) = absurd (not_here (begins row.0 text) e here.0)
later_only row rows text m e (inr later) = later

first_is_longest : (rows : List (List ℕ × SyntaxKind)) (text : List ℕ) (cut : Cut) → are_descending rows ≡ true → first_row rows text ≡ Some cut
    → IsLongest (FitsRow rows text) cut.len
first_is_longest [] text cut ok e = absurd (cc)
first_is_longest (row ∷ rows) text cut ok e =
    let parts = and_parts (list_all (is_no_longer (length row.0)) rows) (are_descending rows) ok in
    elim (begins row.0 text) as (λ b. begins row.0 text ≡ b → cond b (Some (plain row.1 (length row.0))) (first_row rows text) ≡ Some cut
    → IsLongest (FitsRow (row ∷ rows) text) cut.len) [
      | true ↦ λ t same. subst (λ c. IsLongest (FitsRow (row ∷ rows) text) c.len) (same_Some (plain row.1 (length row.0)) cut same) (record {
        member = inl (t, refl);
        longest = λ m fits. elim fits as (λ x. m ≤ length row.0) [
          | inl here ↦ omega (arith, here.1)
          | inr later ↦ fits_no_longer (length row.0) rows text m parts.0 later
        ];
      })
      | false ↦ λ f same. let more = first_is_longest rows text cut parts.1 same in
          record { member = inr more.member; longest = λ m fits. more.longest m (later_only row rows text m f fits) }
    ] refl e

-- the operator that the rules give is the longest that begins the text
pub operator-IsLongest : (text : List ℕ) (cut : Cut) → operator text ≡ Some cut → IsLongest (FitsRow operators text) cut.len
operator-IsLongest text cut e = first_is_longest operators text cut refl e
