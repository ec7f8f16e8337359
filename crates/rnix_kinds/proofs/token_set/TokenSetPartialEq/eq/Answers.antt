use Rattle.{std.{proofs.Common.{sym, ◌∙◌}, specs.Prelude.◌==◌}, rnix_kinds.specs.KindNumbers.{same_number, number_of-kinds_of}}
use Rattle.rnix_kinds.proofs.token_set.TokenSetPartialEq.eq.Goals as goal

pub returns : goal.returns
returns c =
    sym (λ i. number_of-kinds_of c.self.inside.bits c.self.invariant i == number_of-kinds_of c.other.inside.bits c.other.invariant i)
    ∙ (λ i. same_number (c.self.view_is i) (c.other.view_is i))
