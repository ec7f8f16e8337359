use Rattle.std.{proofs.{Common.rules, lemmas.List.Sorted.{IsPartitionPoint-from_clause, IsPartitionedBy-leb}}, specs.Prelude.nat_le}
use Rattle.nix_scopes.proofs.AlikeLemmas.{counted}
use Rattle.nix_scopes.proofs.renaming.ended_by.Goals as goal

pub returns : goal.returns
returns c =
    let ends = c.args.ends.now in
    let point = IsPartitionPoint-from_clause (λ end. nat_le end c.args.offset) ends c.partition_point.result c.partition_point.ensures.partitioned
    (IsPartitionedBy-leb (λ end. end) ends c.args.offset c.requires) (λ a r q k. search rules) in
    counted (λ end. nat_le end c.args.offset) ends c.partition_point.result c.partition_point.ensures.bound point.0 point.1
