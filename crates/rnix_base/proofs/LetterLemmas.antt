-- The letters of a text in `''`: bytes, and escapes as marks.
use Rattle.std.proofs.Common.{◌≡◌, ◌+◌, ◌-◌, ◌<◌, ◌≤◌, ◌++◌, ◌∙◌, ℕ, zero, suc, Bool, true, false, ◌==◌, ◌&&◌, nat_lt, List, [], ◌∷◌, Option, Some, None, refl, sym, ap}
use Rattle.std.{proofs.{Common.{length, drop, arith, length-drop}, lemmas.Bool.Decides.nat_tests}, specs.Prelude.{if◌then◌else◌, slice_index, codes}}
use Rattle.rnix_kinds.specs.Lexical.Texts.{begins}
use Rattle.rnix_base.specs.{Escapes.{Piece, indented_piece, backslash, itself}, Value.{escape_len, escape_mark, marked, without_escapes, IsLetter}}

-- an empty text has no letters
pub without_escapes-nil : without_escapes [] ≡ []
unfolding marked
without_escapes-nil = refl

marked_step : (b : ℕ) (text : List ℕ) → marked 0 (b ∷ text) ≡
    (if escape_len (b ∷ text) == 0 then b ∷ marked 0 text else escape_mark ∷ marked (escape_len (b ∷ text) - 1) text)
unfolding marked
marked_step b text = refl

marked_inside : (n : ℕ) (text : List ℕ) → marked n text ≡ without_escapes (drop n text)
unfolding marked
marked_inside zero text = refl
marked_inside (suc n) [] = refl
marked_inside (suc n) (b ∷ text) = marked_inside n text

-- a byte that is no escape is a letter
pub byte_letter : (text : List ℕ) (b : ℕ) (rest : List ℕ) → text ≡ b ∷ rest → escape_len text ≡ 0 → IsLetter text b rest
byte_letter text b rest e none =
    let test : (escape_len (b ∷ rest) == 0) ≡ true = grind (arith, nat_tests, ap escape_len e, none) in
    record {
      split = ap without_escapes e ∙ marked_step b rest
          ∙ ap (λ t. if t then b ∷ marked 0 rest else escape_mark ∷ marked (escape_len (b ∷ rest) - 1) rest) test;
      shorter = omega (arith, ap length e);
    }

-- an escape is a letter
pub escape_letter : (text : List ℕ) (b : ℕ) (more rest : List ℕ) (len : ℕ) → text ≡ b ∷ more → len ≡ escape_len text → 0 < len → len ≤ length text
    → rest ≡ drop len text → IsLetter text escape_mark rest
escape_letter text b more rest len e is some within behind =
    let test : (escape_len (b ∷ more) == 0) ≡ false = grind (arith, nat_tests, ap escape_len e, is, some) in
    let size : escape_len (b ∷ more) ≡ suc (escape_len (b ∷ more) - 1) = omega (arith, ap escape_len e, is, some) in
    record {
      split = ap without_escapes e ∙ marked_step b more
          ∙ ap (λ t. if t then b ∷ marked 0 more else escape_mark ∷ marked (escape_len (b ∷ more) - 1) more) test
          ∙ ap (λ t. escape_mark ∷ t) (marked_inside (escape_len (b ∷ more) - 1) more
          ∙ ap without_escapes (sym (behind ∙ ap (λ n. drop n text) (is ∙ ap escape_len e ∙ size) ∙ ap (drop (suc (escape_len (b ∷ more) - 1))) e)));
      shorter = omega (arith, ap length behind, length-drop len text, some, within);
    }
