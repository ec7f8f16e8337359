use Rattle.{std.proofs.Common.{◌≡◌, ℕ, take}, nix_lints.specs.UnusedNames.{has_offset, has_marked_pattern_name}}
use Rattle.nix_lints.proofs.unused.used_patterns.Given as goal

abbrev pub invariant-loop-number : goal.invariant-loop-number
invariant-loop-number l = (start : ℕ) → has_offset l.patterns start ≡ has_marked_pattern_name l.is_used start 0 (take l.number l.bindings)
