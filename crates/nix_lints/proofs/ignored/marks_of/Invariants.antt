use Rattle.std.proofs.Common.{◌≡◌, map, take}
use Rattle.nix_diagnostics.specs.Codes.{all_codes, code_name}
use Rattle.nix_lints.specs.Ignored.{has_name}
use Rattle.nix_lints.proofs.ignored.marks_of.Given as goal

-- the marks so far
abbrev pub invariant-loop-code : goal.invariant-loop-code
invariant-loop-code l = l.marks.items ≡ map (λ c. has_name l.names (code_name c)) (take l.code-index all_codes)
