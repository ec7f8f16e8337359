use Rattle.{std.proofs.Common.{sym, ◌∙◌}, rnix_kinds.proofs.LexicalLemmas.TokensLemmas.settled_stays}
use Rattle.rnix_kinds.proofs.tokenizer.modes.Modes.leave_ended_paths.Goals as goal

pub returns-then-path_goes_on : goal.returns-then-path_goes_on
returns-then-path_goes_on c = sym (settled_stays c.loop-self.self c.args.text.now (sym c.path_goes_on.ensures ∙ c.if-path_goes_on.true)) ∙ c.loop-self.invariant
