-- The errors of a text as they are written for C.
use Rattle.std.specs.Prelude.{ℕ, ◌-◌, ◌^◌, List, map, replicate}
use Rattle.rnix_kinds.specs.declared.kinds.SyntaxKind.{SyntaxKind}
use Rattle.rnix_kinds.specs.SyntaxKind.{discriminant_of}
use Rattle.rnix_green.specs.Range.{Extent}
use Rattle.rnix_grammar.specs.Fault.{Fault, unexpected_at, extra, unwanted, double_bind, unexpected_eof, unexpected_eof_wanted, duplicated_args, too_deep}
use Rattle.rnix_c.specs.declared.errors.RnixError.{RnixError}
use Rattle.rnix_c.specs.Answers.{filled}

-- the numbers of the first 16 of the kinds, in their order; the remaining places contain 255
abbrev pub wanted_of : List SyntaxKind → List ℕ
wanted_of kinds = filled (map discriminant_of kinds) (replicate 16 255)

-- no kinds
abbrev pub none_wanted : List ℕ
none_wanted = replicate 16 255

-- an error of a variant that has no range and names no kind
abbrev pub unplaced : ℕ → RnixError
unplaced variant = record { start = 2 ^ 64 - 1; end = 2 ^ 64 - 1; wanted = none_wanted; variant = variant; found = 2 ^ 32 - 1 }

-- an error of a variant that has a range and names no kind
abbrev pub placed : ℕ → Extent → RnixError
placed variant range = record { start = range.start; end = range.end; wanted = none_wanted; variant = variant; found = 2 ^ 32 - 1 }

-- what is written for an error
abbrev pub error_of : Fault → RnixError
error_of (unexpected_at range) = placed 0 range
error_of (extra range) = placed 1 range
error_of (unwanted kind range kinds) = record { start = range.start; end = range.end; wanted = wanted_of kinds; variant = 2; found = discriminant_of kind }
error_of (double_bind range) = placed 3 range
error_of unexpected_eof = unplaced 4
error_of (unexpected_eof_wanted kinds) = record { start = 2 ^ 64 - 1; end = 2 ^ 64 - 1; wanted = wanted_of kinds; variant = 5; found = 2 ^ 32 - 1 }
error_of (duplicated_args range name) = placed 6 range
error_of too_deep = unplaced 7

-- what is written for some errors
abbrev pub errors_of : List Fault → List RnixError
errors_of faults = map error_of faults
