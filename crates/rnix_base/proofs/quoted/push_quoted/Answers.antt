use Rattle.std.proofs.Common.{refl}
use Rattle.rnix_base.proofs.QuotedLemmas.{is_quoted}
use Rattle.rnix_base.proofs.quoted.push_quoted.Goals as goal

pub returns-clause-is_string : goal.returns-clause-is_string
returns-clause-is_string c = is_quoted c.args.value.now _ refl
