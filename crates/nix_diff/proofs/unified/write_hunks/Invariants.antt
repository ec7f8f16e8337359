use Rattle.std.proofs.Common.{◌≡◌, ◌++◌, take}
use Rattle.std.specs.{List.flat_map, Prelude.string_bytes}
use Rattle.nix_diff.specs.Unified.{hunk_text}
use Rattle.nix_diff.proofs.unified.write_hunks.Given as goal

abbrev pub invariant-loop-hunk : goal.invariant-loop-hunk
invariant-loop-hunk l = string_bytes l.out ≡ string_bytes l.initial.out ++ flat_map (hunk_text l.diff) (take l.hunk-index l.hunks)
