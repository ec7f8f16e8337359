use Rattle.std.proofs.Common.{sym, ◌∙◌, arith}
use Rattle.rnix_kinds.proofs.AllKinds.{same_discriminant, discriminant_in_range}
use Rattle.rnix_c.proofs.kept_arrays.kind_of.Goals as goal

pub returns-in-Some : goal.returns-in-Some
returns-in-Some c = λ kind is. same_discriminant _ _ (c.in-Some.ensures.found ∙ sym is)

pub returns-in-None : goal.returns-in-None
returns-in-None c = λ kind is. absurd (omega (arith, c.in-None.ensures.missing, discriminant_in_range kind, is))
