use Rattle.std.proofs.Common.{false}
use Rattle.rnix.specs.ParseResult.{root_of}
use Rattle.nix_diagnostics.specs.Mistakes.{starts}
use Rattle.nix_diagnostics.proofs.DescribedLemmas.{all_worded}
use Rattle.nix_diagnostics.proofs.diagnostic.diagnostics.Goals as goal

pub returns : goal.returns
returns c =
    let read = c.args.read.now in
    all_worded (root_of read) read.faults (starts false (root_of read) read.faults) c.in_ok-diagnosis.diagnosis c.len-count.result
    c.in_ok-found.found.items c.in_ok-diagnosis.ensures c.len-count.ensures c.in_ok-found.ensures
