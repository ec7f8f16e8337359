use Rattle.std.proofs.Common.{◌≤◌, take, length}
use Rattle.nix_fixes.specs.AllFixes.{HaveNoFixes}
use Rattle.nix_fixes.proofs.all_fixes.first_fix.Given as goal

-- the diagnostics so far have no fix
abbrev pub invariant-loop-number : goal.invariant-loop-number
invariant-loop-number l = HaveNoFixes l.text l.errors (take l.number l.diagnostics)
