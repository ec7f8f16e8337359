use Rattle.std.{proofs.Common.{List, ℕ, inl, refl, subst}, specs.Str.{IsUtf8}}
use Rattle.{rnix_c.proofs.KindNames.{names_are_utf8}}
use Rattle.rnix_c.proofs.kinds.rnix_kind_of_name.Goals as goal

pub returns-in_default : goal.returns-in_default
returns-in_default c =
    let wrong : ¬ IsUtf8 c.args.name.now = c.in_default.ensures.cases.0 in
    inl (refl, λ kind is. wrong (subst (λ (name : List ℕ). IsUtf8 name) is (names_are_utf8 kind)))
