use Rattle.rnix_proof_reparse.proofs.ReparsedTexts.{reparsed}
use Rattle.rnix_proof_reparse.proofs.law.reparsing.Goals as goal

pub returns : goal.returns
returns c = reparsed c.args.before.now c.args.old.now c.args.after.now c.args.new.now c.utf8.before c.utf8.old c.utf8.after c.utf8.new
