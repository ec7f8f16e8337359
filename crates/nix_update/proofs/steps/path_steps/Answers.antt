use Rattle.std.proofs.Common.{rules, map, string_bytes}
use Rattle.nix_update.proofs.PathStepLemmas.{root_step, one_step_more, all_steps}
use Rattle.nix_update.proofs.steps.path_steps.Goals as goal

pub loop-number-init : goal.loop-number-init
loop-number-init c = root_step _ _ _ (search rules)

pub returns-in-None : goal.returns-in-None
returns-in-None c = all_steps _ _ _ c.loop-number.number c.loop-number.invariant (search rules)

pub loop-number-preserved : goal.loop-number-preserved
loop-number-preserved c =
    one_step_more (map string_bytes c.args.names.now) c.args.root.now c.loop-number.steps.items c.add_next_steps.new.steps.items c.loop-number.number
    c.in-Some.step c.loop-number.invariant (search rules) (search rules)
