-- How the bytes of a text are written in a JSON string.
use Rattle.std.proofs.Common.{◌≡◌, ℕ, ◌≤◌, true, ◌∷◌, [], refl, arith}
use Rattle.std.proofs.lemmas.Bool.Decides.{nat_tests}
use Rattle.nix_cli.{specs.JsonString.{is_plain, escape}, proofs.PlainRuns.KeepsPlain}

-- a plain byte has no escape
pub keeps_plain : KeepsPlain is_plain escape
unfolding escape
keeps_plain b h = rw h refl

-- the escape of a quote
pub quote_escape : 92 ∷ 34 ∷ [] ≡ escape 34
unfolding escape
quote_escape = refl

-- the escape of a backslash
pub backslash_escape : 92 ∷ 92 ∷ [] ≡ escape 92
unfolding escape
backslash_escape = refl

-- a byte that is not a control character, a quote or a backslash is plain
pub plain_byte : (b : ℕ) → 32 ≤ b → (b ≡ 34 → ⊥) → (b ≡ 92 → ⊥) → is_plain b ≡ true
plain_byte b low quote backslash = grind (arith, nat_tests)
