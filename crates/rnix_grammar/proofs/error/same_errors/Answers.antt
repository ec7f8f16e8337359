use Rattle.{std.proofs.lemmas.Bool.Decides.Decides-at, rnix_grammar.specs.{Fault.{fault_of, same_fault}, SameFaults.same_fault-decides}}
use Rattle.rnix_grammar.proofs.error.same_errors.Goals as goal

pub returns : goal.returns
returns c =
    Decides-at c.eq.result (same_fault (fault_of c.args.a.now) (fault_of c.args.b.now)) c.eq.ensures
    (same_fault-decides (fault_of c.args.a.now) (fault_of c.args.b.now))
