use Rattle.std.proofs.Common.{◌∙◌, ap, min, false}
use Rattle.rnix.specs.ParseResult.{root_of}
use Rattle.nix_diagnostics.specs.Mistakes.{starts}
use Rattle.nix_diagnostics.proofs.DescribedLemmas.{first_worded}
use Rattle.nix_diagnostics.proofs.diagnostic.first_diagnostics.Goals as goal

pub returns : goal.returns
returns c =
    let read = c.args.read.now in
    first_worded (root_of read) read.faults (starts false (root_of read) read.faults) c.in_ok-diagnosis.diagnosis c.min-count.result c.args.most
    c.in_ok-found.found.items c.in_ok-diagnosis.ensures (c.min-count.ensures ∙ ap (λ n. min n c.args.most) c.len.ensures) c.in_ok-found.ensures
