use Rattle.std.proofs.Common.{rules, ◌+◌}
use Rattle.nix_diagnostics.proofs.DescribedLemmas.{end_there}
use Rattle.nix_diagnostics.proofs.diagnosis.Diagnosis.end_of_run.Goals as goal

pub returns : goal.returns
returns c =
    end_there c.deref.result.now c.args.self.now.starts.items c.errors.result.now c.args.self.now.read.now.faults (c.args.number + 1) c.unwrap_or.result _ _
    c.deref.ensures.value c.errors.ensures c.number_at.ensures (search rules) c.unwrap_or.ensures
