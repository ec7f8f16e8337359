use Rattle.std.proofs.{Common.{refl, inr, rules}, lemmas.Str.encode_ascii}
use Rattle.rnix_base.proofs.tokens.said.Goals as goal

pub returns-in-None : goal.returns-in-None
returns-in-None c = inr (inr (refl, (λ said e. c.in_default.ensures.cases said (rw (encode_ascii 35 (search rules)) e), c.in-None.ensures)))
