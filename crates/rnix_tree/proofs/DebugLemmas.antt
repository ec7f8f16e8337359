-- The part of a long text that is shown ends at a character boundary.
use Rattle.std.proofs.Common.{◌≡◌, ℕ, ◌≤◌, ◌<◌, Bool, true, false, List, [], ◌∷◌, ◌++◌, length, take, codes, get_or, Option, Some, None, refl, ap, sym}
use Rattle.std.proofs.{Common.{subst, ◌∙◌, arith, inl, inr}, lemmas.{Bool.{cases_lt, and_parts, Decides.nat_tests}, List.Folds.list_all-append}}
use Rattle.std.{proofs.lemmas.{List.Folds.list_all_more, Str.IsCharBoundary-after_ascii}, specs.{Prelude.if◌then◌else◌, Char.is_ascii, Fmt.debug_str}}
use Rattle.{std.specs.{Fmt.debug_escape, List.{list_all, flat_map}, Str.{IsCharBoundary, IsUtf8}}, rnix_green.proofs.NumberTests.is_not_below}
use Rattle.rnix_tree.specs.Lines.{shown}

-- if the shown part is ASCII, it ends at a character boundary
ends_there : (text : List ℕ) → IsUtf8 text → 25 ≤ length text → list_all is_ascii (take 21 text ++ codes " ...") ≡ true → IsCharBoundary text 21
ends_there text utf8 long e =
    let front : list_all is_ascii (take 21 text) ≡ true =
    (and_parts (list_all is_ascii (take 21 text)) (list_all is_ascii (codes " ...")) (sym (list_all-append is_ascii (take 21 text) (codes " ...")) ∙ e)).0 in
    let last : is_ascii (get_or text 20 0) ≡ true =
    (and_parts (list_all is_ascii (take 20 text)) (is_ascii (get_or text 20 0)) (sym (list_all_more is_ascii text 20 0 (omega arith)) ∙ front)).1 in
    IsCharBoundary-after_ascii text 20 utf8 (omega arith) (grind (arith, nat_tests))

-- so a text whose shown part is ASCII is cut there
cut_there : (text : List ℕ) (cut : ℕ) → IsUtf8 text → 25 ≤ length text → 21 ≤ cut → ((i : ℕ) → 21 ≤ i → i < cut → ¬ IsCharBoundary text i)
    → list_all is_ascii (take 21 text ++ codes " ...") ≡ true → cut ≡ 21
cut_there text cut utf8 long low nearest e = elim (cases_lt 21 cut) [
  | inl far ↦ absurd (nearest 21 (omega arith) far (ends_there text utf8 long e))
  | inr near ↦ omega arith
]

-- what holds of the text up to each later character boundary holds of what is shown
pub start_shown : (P : Option (List ℕ) → Type 0) (text : List ℕ) (cut : ℕ) → IsUtf8 text → 25 ≤ length text → 21 ≤ cut
    → ((i : ℕ) → 21 ≤ i → i < cut → ¬ IsCharBoundary text i) → P None → P (debug_str (take cut text ++ codes " ...")) → P (debug_str (shown text))
start_shown P text cut utf8 long low nearest none h =
    subst (λ b. P (debug_str (if b then text else take 21 text ++ codes " ..."))) (sym (is_not_below (length text) 25 long))
    (ascii_cases (list_all is_ascii (take 21 text ++ codes " ...")) refl)
  where
    ascii_cases : (b : Bool) → list_all is_ascii (take 21 text ++ codes " ...") ≡ b → P (debug_str (take 21 text ++ codes " ..."))
    ascii_cases true e = subst (λ n. P (debug_str (take n text ++ codes " ..."))) (cut_there text cut utf8 long low nearest e) h
    ascii_cases false e =
        subst P (sym (ap (λ b. if b then Some (34 ∷ (flat_map (debug_escape 34) (take 21 text ++ codes " ...") ++ 34 ∷ [])) else None) e)) none
