use Rattle.std.{proofs.Common.{◌≡◌, ◌+◌, ◌-◌, ◌≤◌, length, drop}, specs.List.prefix_len}
use Rattle.rnix_kinds.specs.Lexical.Classes.{class_test, class_of}
use Rattle.rnix_kinds.proofs.tokenizer.long.wide_run_len.Given as goal

abbrev pub invariant-loop-at : goal.invariant-loop-at
invariant-loop-at l = record {
  within : l.at ≤ length l.bytes;
  so_far : prefix_len (class_test (class_of l.class)) l.bytes ≡ l.at + prefix_len (class_test (class_of l.class)) (drop l.at l.bytes);
}

abbrev pub decreases-loop-at : goal.decreases-loop-at
decreases-loop-at l = length l.bytes - l.at

abbrev pub invariant-loop-at-2 : goal.invariant-loop-at-2
invariant-loop-at-2 l = record {
  within : l.at ≤ length l.bytes;
  so_far : prefix_len (class_test (class_of l.class)) l.bytes ≡ l.at + prefix_len (class_test (class_of l.class)) (drop l.at l.bytes);
}

abbrev pub decreases-loop-at-2 : goal.decreases-loop-at-2
decreases-loop-at-2 l = length l.bytes - l.at
