use Rattle.std.proofs.{Common.{rules}, lemmas.List.Sorted.IsPartitionPoint-from_clause}
use Rattle.rnix_text.{specs.Runs.ends_by, proofs.ChangeLemmas.parted}
use Rattle.rnix_text.proofs.runs.edits_by.Goals as goal

pub returns-clause-parted : goal.returns-clause-parted
returns-clause-parted c =
    IsPartitionPoint-from_clause (ends_by c.args.offset) c.args.run.now c.partition_point.result c.partition_point.ensures.partitioned
    (parted c.args.offset c.args.run.now c.requires) (λ a s q k. search rules)
