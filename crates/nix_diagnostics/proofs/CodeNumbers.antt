-- The codes in the order of their numbers.
use Rattle.std.proofs.Common.{◌≡◌, ◌<◌, true, nat_lt, get_or, length, map, refl, arith}
use Rattle.std.proofs.lemmas.{Bool.Decides.nat_tests}
use Rattle.nix_diagnostics.specs.declared.code.Code.{Code}
use Rattle.nix_diagnostics.specs.declared.code.Code.TheVariants.{SyntaxError}
use Rattle.nix_diagnostics.specs.declared.rules.TheConstants.{TABLE}
use Rattle.nix_diagnostics.specs.Codes.{all_codes, code_number}

-- each code stands at its number
pub numbered : (c d : Code) → get_or all_codes (code_number c) d ≡ c
numbered SyntaxError d = refl
numbered _ d = refl

-- there are as many codes as their numbers say
is_within : (c : Code) → nat_lt (code_number c) (length all_codes) ≡ true
is_within SyntaxError = refl
is_within _ = refl

pub few_codes : (c : Code) → code_number c < length all_codes
few_codes c = grind (arith, nat_tests, is_within c)

-- each row is that of the code with its number
rows_are_of_codes : map (λ r. r.0) TABLE ≡ all_codes
rows_are_of_codes = refl
