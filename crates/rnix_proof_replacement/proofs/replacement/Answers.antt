use Rattle.rnix_proof_replacement.proofs.ReplacedTokens.{parts_replaced}
use Rattle.rnix_proof_replacement.proofs.replacement.Goals as goal

pub returns : goal.returns
returns c =
    parts_replaced c.args.before.now c.args.old.now c.args.after.now c.args.start.now c.args.new.now c.args.end.now c.utf8.before c.utf8.old c.utf8.after
    c.utf8.start c.utf8.new c.utf8.end
