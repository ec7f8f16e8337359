use Rattle.std.proofs.Common.{◌+◌, ◌≤◌, length, drop, ap, subst, ◌∙◌, arith}
use Rattle.std.proofs.lemmas.List.{length-drop, take_rest}
use Rattle.std.specs.List.{prefix_len}
use Rattle.nix_diff.specs.Hunks.{is_common}
use Rattle.nix_diff.proofs.HunkLemmas.{hunk_found, none_found}
use Rattle.nix_diff.proofs.unified.next_hunk.Goals as goal

pub returns-then-index-passed : goal.returns-then-index-passed
returns-then-index-passed c =
    none_found c.args.diff.now c.args.index c.count_common-passed.result
    (c.count_common-passed.ensures.count ∙ ap (prefix_len is_common) (take_rest c.args.diff.now c.args.index)) (omega arith)

pub returns : goal.returns
returns c =
    let diff = c.args.diff.now in
    let passed = c.count_common-passed.result in
    let changed = c.count_changed.result in
    let behind = length-drop c.args.index diff in
    let remaining = length-drop (c.args.index + passed) diff in
    let passed_within : passed ≤ length (drop c.args.index diff) =
    subst (λ ls. passed ≤ length ls) (take_rest diff c.args.index) c.count_common-passed.ensures.within in
    let changed_within : changed ≤ length (drop (c.args.index + passed) diff) =
    subst (λ ls. changed ≤ length ls) (take_rest diff (c.args.index + passed)) c.count_changed.ensures.within in
    hunk_found diff c.args.index passed c.args.before c.counts_of.result _ c.requires.before
    (c.count_common-passed.ensures.count ∙ ap (prefix_len is_common) (take_rest diff c.args.index))
    (omega (arith, c.min.ensures)) (omega (arith, c.min.ensures))
    (omega (arith, c.min.ensures, behind, remaining, passed_within, changed_within, c.count_changed.ensures.some, c.saturating_add.ensures, c.min-end.ensures))
    (omega (arith, c.min-end.ensures)) c.counts_of.ensures c.counts_with.ensures.olds c.counts_with.ensures.news c.counts_of-2.ensures
