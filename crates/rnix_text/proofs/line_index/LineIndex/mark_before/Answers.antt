use Rattle.std.proofs.{Common.{rules, ◌≡◌, ◌≤◌, ◌∙◌, true, false, length, ap, sym, subst}, lemmas.List.Sorted.IsPartitionPoint-from_clause}
use Rattle.{std.specs.List.Sorted.{IsPartitionedBy, IsPartitionPoint}, rnix_text.specs.{Marks.{is_before, first_mark}, TextColumns.last_mark}}
use Rattle.rnix_text.proofs.{MarkLemmas.last_in, PositionLemmas.{before_back, first_before}}
use Rattle.rnix_text.proofs.line_index.LineIndex.mark_before.Goals as goal

pub overflow_sub-after : goal.overflow_sub-after
overflow_sub-after c =
    let test = is_before c.args.offset in
    let items = c.self.inside.marks.items in
    let r = c.partition_point-after.result in
    let same = c.deref.ensures.value in
    let point = λ (p : IsPartitionedBy test items). subst (λ xs. IsPartitionPoint (λ y. test y ≡ true) (λ y. test y ≡ false) xs r) same
    (IsPartitionPoint-from_clause test _ r c.partition_point-after.ensures.partitioned (subst (IsPartitionedBy test) (sym same) p)
    (λ a s q k. search rules)) in
    (last_in c.self.inside.unit test (before_back c.self.inside.unit c.args.offset) c.self.inside.text.now items r c.self.invariant (first_before c.args.offset)
    (subst (λ xs. r ≤ length xs) same c.partition_point-after.ensures.bound) point first_mark).0

pub returns : goal.returns
returns c =
    let test = is_before c.args.offset in
    let items = c.self.inside.marks.items in
    let r = c.partition_point-after.result in
    let same = c.deref.ensures.value in
    let point = λ (p : IsPartitionedBy test items). subst (λ xs. IsPartitionPoint (λ y. test y ≡ true) (λ y. test y ≡ false) xs r) same
    (IsPartitionPoint-from_clause test _ r c.partition_point-after.ensures.partitioned (subst (IsPartitionedBy test) (sym same) p)
    (λ a s q k. search rules)) in
    let bound : r ≤ length items = subst (λ xs. r ≤ length xs) same c.partition_point-after.ensures.bound in
    let found = last_in c.self.inside.unit test (before_back c.self.inside.unit c.args.offset) c.self.inside.text.now items r c.self.invariant
    (first_before c.args.offset) bound point c.index.result.now in
    c.index.ensures ∙ found.1 ∙ ap (last_mark test) c.self.view_is
