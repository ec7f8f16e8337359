-- Relative paths that begin with a name.
use Rattle.std.specs.Prelude.{ℕ, ◌==◌, Bool, false, not, List, [], ◌∷◌, Option}
use Rattle.rnix_green.specs.Tree.{Located, text_at}
use Rattle.nix_diagnostics.specs.declared.code.Code.TheVariants as code
use Rattle.nix_lints.specs.Found.{Found, found_if}

-- a text begins with a point
abbrev pub begins_with_point : List ℕ → Bool
begins_with_point [] = false
begins_with_point (byte ∷ bytes) = byte == 46

-- the finding on a relative path, if it begins with a name
abbrev pub bare_path : Located → Option Found
bare_path path = found_if (not (begins_with_point (text_at path))) code.BarePath path
