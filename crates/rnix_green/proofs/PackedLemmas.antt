-- A number below the limit is stored exactly.
use Rattle.{std.proofs.{Common.{◌≡◌, ℕ, ◌+◌, ◌*◌, ◌<◌, ◌^◌, ◌%◌, ap, sym, ◌∙◌, arith}, lemmas.Nat.mod-mul-add}, rnix_green.specs.Packed.{limit, word_of}}

-- the stored number is the number
pub packed_again : (n : ℕ) → n < limit → word_of n ≡ n
packed_again n l =
    let same : 0 * 2 ^ 32 + n ≡ n = omega arith in
    ap (λ m. m % 2 ^ 32) (sym same) ∙ mod-mul-add 0 (2 ^ 32) n l
