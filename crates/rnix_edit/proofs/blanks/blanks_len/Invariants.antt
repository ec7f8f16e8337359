use Rattle.std.{proofs.Common.{◌≡◌, ◌+◌, ◌-◌, ◌≤◌, length, drop}, specs.List.prefix_len}
use Rattle.rnix_edit.specs.Blanks.{is_blank}
use Rattle.rnix_edit.proofs.blanks.blanks_len.Given as goal

-- all bytes so far are blanks
abbrev pub invariant-loop-end : goal.invariant-loop-end
invariant-loop-end l = record {
  within : l.end ≤ length l.bytes;
  so_far : prefix_len is_blank l.bytes ≡ l.end + prefix_len is_blank (drop l.end l.bytes);
}

abbrev pub decreases-loop-end : goal.decreases-loop-end
decreases-loop-end l = length l.bytes - l.end
