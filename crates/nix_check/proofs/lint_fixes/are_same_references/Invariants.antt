use Rattle.std.proofs.Common.{◌≡◌, map, take}
use Rattle.nix_scopes.specs.declared.resolution.Reference.{Reference}
use Rattle.nix_scopes.specs.Bound.{resolved_of}
use Rattle.nix_check.specs.LintFixes.{meaning_of}
use Rattle.nix_check.proofs.lint_fixes.are_same_references.Given as goal

-- the references so far mean the same
abbrev pub invariant-loop-number : goal.invariant-loop-number
invariant-loop-number l =
    map (λ (r : Reference). meaning_of (resolved_of r)) (take l.number l.new) ≡ map (λ (r : Reference). meaning_of (resolved_of r)) (take l.number l.old)
