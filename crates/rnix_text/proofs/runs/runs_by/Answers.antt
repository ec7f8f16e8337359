use Rattle.std.proofs.{Common.{rules}, lemmas.List.Sorted.IsPartitionPoint-from_clause}
use Rattle.rnix_text.{specs.Runs.run_ends_by, proofs.InsertionLemmas.runs_parted}
use Rattle.rnix_text.proofs.runs.runs_by.Goals as goal

pub returns-clause-parted : goal.returns-clause-parted
returns-clause-parted c =
    IsPartitionPoint-from_clause (run_ends_by c.args.offset) c.args.runs.now c.partition_point.result c.partition_point.ensures.partitioned
    (runs_parted c.args.offset c.args.runs.now c.requires.ascending c.requires.filled) (λ a s q k. search rules)
