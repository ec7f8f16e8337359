use Rattle.{std.{proofs.{Common.{rules, subst, sym}, lemmas.List.Sorted.IsPartitionPoint-from_clause}, specs.String.string_bytes}, rnix_green.specs.Kept.IsKept}
use Rattle.rnix_green.proofs.FirstFromLemmas.{starts_before, partitioned, before, behind}
use Rattle.rnix_green.proofs.green.GreenNode.first_from.Goals as goal

pub returns-clause-before : goal.returns-clause-before
returns-clause-before c =
    let t = c.args.self.now in
    let text = string_bytes c.self.inside.text in
    let es = c.deref.result.now in
    let whole : IsKept t c.self.inside.elements.items text = rw c.self.view_is at c.self.invariant in
    let kept = subst (λ xs. IsKept t xs text) (sym c.deref.ensures.value) whole in
    let parted = partitioned t es text kept c.args.from c.args.end c.args.offset c.requires.ordered c.requires.there in
    let point = IsPartitionPoint-from_clause (starts_before c.args.offset) _ c.partition_point.result c.partition_point.ensures.partitioned parted
    (λ a r q k. search rules) in
    before t es text kept c.args.from c.args.end c.args.offset c.requires.ordered c.requires.there c.partition_point.result c.partition_point.ensures.bound
    point

pub returns-clause-behind : goal.returns-clause-behind
returns-clause-behind c =
    let t = c.args.self.now in
    let text = string_bytes c.self.inside.text in
    let es = c.deref.result.now in
    let whole : IsKept t c.self.inside.elements.items text = rw c.self.view_is at c.self.invariant in
    let kept = subst (λ xs. IsKept t xs text) (sym c.deref.ensures.value) whole in
    let parted = partitioned t es text kept c.args.from c.args.end c.args.offset c.requires.ordered c.requires.there in
    let point = IsPartitionPoint-from_clause (starts_before c.args.offset) _ c.partition_point.result c.partition_point.ensures.partitioned parted
    (λ a r q k. search rules) in
    behind t es text kept c.args.from c.args.end c.args.offset c.requires.ordered c.requires.there c.partition_point.result c.partition_point.ensures.bound
    point
