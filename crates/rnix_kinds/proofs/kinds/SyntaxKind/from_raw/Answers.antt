use Rattle.rnix_kinds.proofs.AllKinds.{number_in_all, none_in_all}
use Rattle.rnix_kinds.proofs.kinds.SyntaxKind.from_raw.Goals as goal

pub returns-clause-found : goal.returns-clause-found
returns-clause-found c = number_in_all c.args.number c.kind_at.result c.kind_at.ensures

pub returns-clause-missing : goal.returns-clause-missing
returns-clause-missing c = none_in_all c.args.number c.kind_at.result c.kind_at.ensures
