use Rattle.std.proofs.Common.{◌≡◌, ◌++◌, take}
use Rattle.std.specs.{List.flat_map, Prelude.string_bytes}
use Rattle.nix_diff.specs.Unified.{line_text}
use Rattle.nix_diff.proofs.unified.write_lines.Given as goal

abbrev pub invariant-loop-line : goal.invariant-loop-line
invariant-loop-line l = string_bytes l.out ≡ string_bytes l.initial.out ++ flat_map line_text (take l.line-index l.lines)
