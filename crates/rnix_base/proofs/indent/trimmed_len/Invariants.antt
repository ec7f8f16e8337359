use Rattle.{std.{proofs.Common.{◌≡◌, ◌+◌, ◌≤◌, length, take}, specs.List.suffix_len}, rnix_base.specs.Normal.is_space}
use Rattle.rnix_base.proofs.indent.trimmed_len.Given as goal

abbrev pub invariant-loop-end : goal.invariant-loop-end
invariant-loop-end l = record {
  within : l.end ≤ length l.bytes;
  so_far : l.end + suffix_len is_space l.bytes ≡ length l.bytes + suffix_len is_space (take l.end l.bytes);
}

abbrev pub decreases-loop-end : goal.decreases-loop-end
decreases-loop-end l = l.end
