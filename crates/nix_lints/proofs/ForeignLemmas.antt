-- Runs of white space that Nix refuses, one after another.
use Rattle.std.proofs.Common.{◌≡◌, ◌∙◌, ℕ, ◌+◌, ◌<◌, Bool, false, List, ◌∷◌, ◌++◌, length, drop, get_or, sym, ap, arith}
use Rattle.std.proofs.lemmas.{Bool.Decides.nat_tests, List.{append_assoc, drop_more}}
use Rattle.std.proofs.lemmas.Str.{IsCharBoundary-after_ascii}
use Rattle.std.specs.{Prelude.{IsUtf8}, Str.IsCharBoundary}
use Rattle.nix_lints.specs.ForeignSpaces.{Run, is_foreign, run_if, runs_from}

-- Nix's white space is ASCII
blank_is_ascii : (byte : ℕ) → is_foreign byte ≡ false → byte < 128
blank_is_ascii byte is_blank = grind (arith, nat_tests, is_blank)

-- the runs of a text from its first byte on
pub no_byte : (start : ℕ) (text : List ℕ) (old : List Run) → old ++ runs_from (start + 0) false text ≡ old ++ runs_from start false text
no_byte start text old = let same : start + 0 ≡ start = omega arith in ap (λ n. old ++ runs_from n false text) same

-- one more byte
pub byte_next : (start i : ℕ) (is_inside next_inside : Bool) (text : List ℕ) (old new all : List Run) → i < length text →
    old ++ runs_from (start + i) is_inside (drop i text) ≡ all → next_inside ≡ is_foreign (get_or text i 0) →
    new ≡ old ++ run_if (start + i) is_inside (get_or text i 0) (drop i text) → new ++ runs_from (start + (i + 1)) next_inside (drop (i + 1) text) ≡ all
byte_next start i is_inside next_inside text old new all within so_far is added =
    let byte = get_or text i 0 in
    let later = drop (i + 1) text in
    let first : drop i text ≡ byte ∷ later = drop_more text i 0 within in
    let next : start + (i + 1) ≡ start + i + 1 = omega arith in
    ap (λ b. new ++ runs_from (start + (i + 1)) b later) is
    ∙ ap (λ runs. runs ++ runs_from (start + (i + 1)) (is_foreign byte) later) added
    ∙ append_assoc old (run_if (start + i) is_inside byte (drop i text)) (runs_from (start + (i + 1)) (is_foreign byte) later)
    ∙ ap (λ n. old ++ (run_if (start + i) is_inside byte (drop i text) ++ runs_from n (is_foreign byte) later)) next
    ∙ ap (λ bytes. old ++ (run_if (start + i) is_inside byte bytes ++ runs_from (start + i + 1) (is_foreign byte) later)) first
    ∙ ap (λ bytes. old ++ runs_from (start + i) is_inside bytes) (sym first)
    ∙ so_far

-- after a byte of Nix's white space a character begins
pub boundary_next : (text : List ℕ) (i : ℕ) (next_inside : Bool) → IsUtf8 text → i < length text → next_inside ≡ is_foreign (get_or text i 0) →
    next_inside ≡ false → IsCharBoundary text (i + 1)
boundary_next text i next_inside is_utf8 within is outside =
    IsCharBoundary-after_ascii text i is_utf8 within (blank_is_ascii (get_or text i 0) (sym is ∙ outside))
