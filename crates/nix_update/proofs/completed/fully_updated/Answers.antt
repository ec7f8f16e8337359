use Rattle.std.proofs.Common.{string_bytes, subst, refl}
use Rattle.nix_update.specs.declared.outcome.Outcome.TheVariants as outcome
use Rattle.nix_update.specs.{NotUpdated.{IfRefused}, Results.{IsUpdated}}
use Rattle.nix_update.specs.FullUpdates.{IsNotCompleted, IsNotFullyUpdated}
use Rattle.nix_update.proofs.completed.fully_updated.Goals as goal

pub returns-in-Refused-2 : goal.returns-in-Refused-2
returns-in-Refused-2 c =
    let first = c.in-Updated.first in
    IsNotFullyUpdated.later (string_bytes first)
    (outcome.Updated first, subst (IsUpdated c.args.update c.args.text.now) c.in-Updated.is c.in_ok-first.ensures, refl)
    (subst (IfRefused (IsNotCompleted c.args.update (string_bytes first))) c.in-Refused-2.is c.in_ok-made-in-Updated.ensures.refused)

pub returns-in-Refused-3 : goal.returns-in-Refused-3
returns-in-Refused-3 c =
    let first = c.in-SetInLet.first in
    IsNotFullyUpdated.later (string_bytes first)
    (outcome.SetInLet first c.in-SetInLet.offset, subst (IsUpdated c.args.update c.args.text.now) c.in-SetInLet.is c.in_ok-first.ensures, refl)
    (subst (IfRefused (IsNotCompleted c.args.update (string_bytes first))) c.in-Refused-3.is c.in_ok-made-in-SetInLet.ensures.refused)
