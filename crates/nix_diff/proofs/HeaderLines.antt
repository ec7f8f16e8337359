-- The two header lines of a diff.
use Rattle.std.proofs.Common.{◌≡◌, ℕ, List, [], ◌∷◌, length, refl, arith}
use Rattle.nix_diff.specs.declared.unified.Hunk.{Hunk}
use Rattle.nix_diff.specs.Unified.{AreHeaderLines, AreHeaderLinesOf}

-- without hunks there are none
pub no_header : (hunks : List Hunk) (text : List ℕ) → length hunks ≡ 0 → text ≡ [] → AreHeaderLinesOf hunks text
no_header [] text none is = is
no_header (hunk ∷ hunks) text none is = absurd (omega (arith, none))

-- they precede the hunks
pub some_header : (hunks : List Hunk) (text : List ℕ) → ¬ (length hunks ≡ 0) → AreHeaderLines text → AreHeaderLinesOf hunks text
some_header [] text some are = absurd (some refl)
some_header (hunk ∷ hunks) text some are = are
