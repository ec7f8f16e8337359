use Rattle.rnix_kinds.proofs.AllKinds.{none_named}
use Rattle.rnix_kinds.proofs.kinds.SyntaxKindFromStr.from_str.Goals as goal

pub returns-in-None : goal.returns-in-None
returns-in-None c = record { kind = tt; refusal = none_named c.args.name.now (c.in-None.ensures.missing) }
