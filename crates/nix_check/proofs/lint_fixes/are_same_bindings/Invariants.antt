use Rattle.std.proofs.Common.{◌≡◌, map, take}
use Rattle.nix_scopes.specs.declared.resolution.Binding.{Binding}
use Rattle.nix_scopes.specs.Bound.{bound_of}
use Rattle.nix_check.proofs.lint_fixes.are_same_bindings.Given as goal

-- the bindings so far have the same names
abbrev pub invariant-loop-number : goal.invariant-loop-number
invariant-loop-number l =
    map (λ (b : Binding). (bound_of b).text) (take l.number l.new) ≡ map (λ (b : Binding). (bound_of b).text) (take l.number l.old)
