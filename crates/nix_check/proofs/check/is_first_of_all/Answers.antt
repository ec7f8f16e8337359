use Rattle.nix_check.proofs.ListedPieces.{first_of_all, after_others}
use Rattle.nix_check.proofs.check.is_first_of_all.Goals as goal

pub returns-then-earlier-eq0 : goal.returns-then-earlier-eq0
returns-then-earlier-eq0 c = first_of_all c.args.earlier c.args.number c.if-earlier-eq0.true

pub returns : goal.returns
returns c = after_others c.args.earlier c.args.number c.if-earlier-eq0.false
