use Rattle.std.proofs.Common.{◌≡◌, string_bytes, subst}
use Rattle.nix_update.specs.declared.outcome.Refused.{Refused}
use Rattle.nix_update.specs.declared.outcome.Outcome.TheVariants as outcome
use Rattle.nix_update.specs.{Updated.{IfMade}, Results.{HasNew, IsUpdated}}
use Rattle.nix_update.specs.FullUpdates.{IfRefusal, IsRepeatedTo}
use Rattle.nix_update.proofs.RepeatedUpdates.{to_end, not_to_end}
use Rattle.nix_update.proofs.completed.repeat.Goals as goal

pub loop-init : goal.loop-init
loop-init c = IsRepeatedTo.begins

pub loop-preserved : goal.loop-preserved
loop-preserved c =
    let found = c.in_ok-updated.field-0 in
    IsRepeatedTo.follows (string_bytes c.loop.text) (string_bytes c.in-Made.made) c.loop.invariant (
      found,
      subst (λ t. IsUpdated c.args.update t found) c.as_str.ensures.value c.in_ok-updated.ensures,
      subst (IfMade (λ made. HasNew (λ new. new ≡ made) found)) c.in-Made.is c.attempt_of.ensures.made,
    )

pub returns-in-Refused-clause-made : goal.returns-in-Refused-clause-made
returns-in-Refused-clause-made c =
    let update = c.args.update in
    let found = c.in_ok-updated.field-0 in
    let refused = c.in-Refused.refused in
    let is : found ≡ outcome.Refused refused =
    subst (IfRefusal (λ (r : Refused). found ≡ outcome.Refused r)) c.in-Refused.is c.attempt_of.ensures.refused in
    to_end update (string_bytes c.args.first) (string_bytes c.loop.text) refused c.ended.result c.loop.invariant
    (subst (IsUpdated update (string_bytes c.loop.text)) is
    (subst (λ t. IsUpdated update t found) c.as_str.ensures.value c.in_ok-updated.ensures)) c.ended.ensures.made

pub returns-in-Refused-clause-refused : goal.returns-in-Refused-clause-refused
returns-in-Refused-clause-refused c =
    let update = c.args.update in
    let found = c.in_ok-updated.field-0 in
    let refused = c.in-Refused.refused in
    let is : found ≡ outcome.Refused refused =
    subst (IfRefusal (λ (r : Refused). found ≡ outcome.Refused r)) c.in-Refused.is c.attempt_of.ensures.refused in
    not_to_end update (string_bytes c.args.first) (string_bytes c.loop.text) refused c.ended.result c.loop.invariant
    (subst (IsUpdated update (string_bytes c.loop.text)) is
    (subst (λ t. IsUpdated update t found) c.as_str.ensures.value c.in_ok-updated.ensures)) c.ended.ensures.refused
