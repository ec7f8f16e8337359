use Rattle.rnix_edit.proofs.StepsShown.{none_passed, as_passed}
use Rattle.rnix_edit.proofs.steps.try_pass.Goals as goal

pub returns-then-misses-ge-MAX_MISSES-clause-passed : goal.returns-then-misses-ge-MAX_MISSES-clause-passed
returns-then-misses-ge-MAX_MISSES-clause-passed c = none_passed c.args.before c.args.other_before c.args.a.now c.args.b.now

pub returns-in-Some-false-clause-passed : goal.returns-in-Some-false-clause-passed
returns-in-Some-false-clause-passed c =
    as_passed c.args.before c.args.other_before c.pass_alike.result c.args.a.now c.args.b.now c.pass_alike.new.self c.pass_alike.new.other
    c.pass_alike.ensures

pub returns-in_default-2-clause-passed : goal.returns-in_default-2-clause-passed
returns-in_default-2-clause-passed c =
    as_passed c.args.before c.args.other_before c.pass_alike.result c.args.a.now c.args.b.now c.pass_alike.new.self c.pass_alike.new.other
    c.pass_alike.ensures
