-- What findings propose, and what makes it a fix.
use Rattle.std.proofs.Common.{◌≡◌, ◌∙◌, ℕ, ◌+◌, ◌<◌, ◌≤◌, List, [], ◌∷◌, ◌++◌, length, map, take, get_or, Option, Some, None, IfSome, slice_get, sym, ap, refl, arith}
use Rattle.std.proofs.lemmas.{List.take_all, Simd.map-map, Option.slice_get-get_or}
use Rattle.std.specs.Prelude.{string_bytes}
use Rattle.nix_fixes.specs.Fixes.{spliced, new_text}
use Rattle.nix_diagnostics.specs.declared.replacement.Replacement.{Replacement}
use Rattle.nix_lints.specs.declared.finding.Finding.{Finding}
use Rattle.nix_check.specs.LintFixes.{Proposes, IsBetter, IsLintFix}
use Rattle.nix_check.specs.declared.lint_fixes.Linted.{Linted}

-- all items of two lists are the same
pub all_same : {A B C : Type 0} (g : B → C) (f : A → B) (olds news : List A) (i : ℕ) → length olds ≤ i → length news ≤ i →
    map (λ x. g (f x)) (take i news) ≡ map (λ x. g (f x)) (take i olds) → map g (map f news) ≡ map g (map f olds)
all_same g f olds news i inside within same =
    map-map g f news ∙ ap (map (λ x. g (f x))) (sym (take_all i news within)) ∙ same ∙ ap (map (λ x. g (f x))) (take_all i olds inside)
    ∙ sym (map-map g f olds)

-- a finding with a replacement proposes it
pub proposes : (found : List Finding) (number : ℕ) (finding : Finding) → number < length found → finding ≡ get_or found number finding →
    IfSome finding.replacement (Proposes found)
proposes found number finding within at = go finding.replacement refl where
  go : (r : Option Replacement) → finding.replacement ≡ r → IfSome r (Proposes found)
  go None is = tt
  go (Some r) is = record { number = number; finding = finding; there = slice_get-get_or found number finding within ∙ ap Some (sym at); proposed = is }

-- a text with a replacement that is proposed is a fix, if it is better
pub is_fix : (old new : Linted) (replacement : Replacement) (text made : List ℕ) → Proposes old.found.items replacement → text ≡ string_bytes old.made →
    made ≡ spliced text replacement.range.start replacement.range.end (new_text text replacement) → string_bytes new.made ≡ made → IsBetter old new →
    IsLintFix old new
is_fix old new replacement text made proposed text_is made_is new_is better = record {
  replacement = replacement;
  proposed = proposed;
  is = new_is ∙ made_is ∙ ap (λ t. spliced t replacement.range.start replacement.range.end (new_text t replacement)) text_is;
  better = better;
}
