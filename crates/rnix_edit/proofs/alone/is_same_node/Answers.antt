use Rattle.std.proofs.Common.{subst}
use Rattle.std.proofs.lemmas.Bool.{false≢true}
use Rattle.std.specs.Bool.{Decides}
use Rattle.rnix_grammar.specs.Fault.{fault_of}
use Rattle.rnix.specs.ParseResult.{root_of}
use Rattle.rnix_edit.specs.Alone.{alone_range, node_at, AreSame}
use Rattle.rnix_edit.proofs.AloneLemmas.{some_errors, no_errors, node_tested}
use Rattle.rnix_edit.proofs.alone.is_same_node.Goals as goal

pub returns-then-not-is_empty : goal.returns-then-not-is_empty
returns-then-not-is_empty c = (
  λ no. absurd (false≢true no),
  λ same. absurd (some_errors fault_of c.errors.result.now _ _ c.errors.ensures c.is_empty.ensures c.if-not-is_empty.true
      same.none),
)

pub returns : goal.returns
returns c =
    let root = c.args.root.now in
    let target = c.args.target in
    let read = c.args.read.now in
    let tested : Decides c.are_same.result (AreSame (node_at target root) (node_at (alone_range target) (root_of read))) =
    subst (λ other. Decides c.are_same.result (AreSame (node_at target root) (node_at (alone_range target) other))) c.syntax.ensures
    (subst (λ own. Decides c.are_same.result (AreSame (node_at target root) (node_at own c.syntax.result))) c.alone_range.ensures c.are_same.ensures) in
    node_tested target root read _ (no_errors fault_of c.errors.result.now _ _ c.errors.ensures c.is_empty.ensures c.if-not-is_empty.false) tested
