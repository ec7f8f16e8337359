use Rattle.std.proofs.Common.{rules}
use Rattle.nix_update.specs.NotUpdated.{IsValueNotSet}
use Rattle.nix_update.proofs.setting.set_entry_value.Goals as goal

pub returns-then-not-is_plain_string-clause-refused : goal.returns-then-not-is_plain_string-clause-refused
returns-then-not-is_plain_string-clause-refused c =
    IsValueNotSet.other c.syntax-node.result.now c.refuse_at-then-not-is_plain_string.ensures (search rules) (search rules) (search rules)

pub returns-in-Some-Refused-clause-refused : goal.returns-in-Some-Refused-clause-refused
returns-in-Some-Refused-clause-refused c =
    IsValueNotSet.not_set c.syntax-node.result.now c.in-Some-Refused.refusal c.refuse_at-in-Some-Refused.ensures (search rules) (search rules)
