use Rattle.rnix_reader.{specs.{Placed.token_of, State.state}, proofs.SkippedRuns.{run_made, run_reach, run_extent}}
use Rattle.rnix_reader.proofs.parser.Parser.error_run.Goals as goal

pub new-requires : goal.new-requires
new-requires c =
    run_reach c.args.until (state c.args.self.now) _ (token_of c.args.first) c.ordered.ensures c.requires.first c.requires.unwanted
    (run_made c.args.until (state c.args.self.now) _ _ _ c.in_ok-start_node.ensures.state c.in_ok-skip.ensures.state c.in_ok-finish_node.ensures)

pub returns-clause-range : goal.returns-clause-range
returns-clause-range c =
    run_extent c.args.until (state c.args.self.now) _ (token_of c.args.first) _ c.requires.first c.requires.unwanted
    (run_made c.args.until (state c.args.self.now) _ _ _ c.in_ok-start_node.ensures.state c.in_ok-skip.ensures.state c.in_ok-finish_node.ensures)
    c.new.ensures
