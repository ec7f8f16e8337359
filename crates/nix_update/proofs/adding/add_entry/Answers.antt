use Rattle.std.proofs.Common.{rules}
use Rattle.nix_update.specs.NotUpdated.{IsEntryRefused}
use Rattle.nix_update.proofs.adding.add_entry.Goals as goal

pub returns-in-Some-Refused-clause-refused : goal.returns-in-Some-Refused-clause-refused
returns-in-Some-Refused-clause-refused c = IsEntryRefused.not_added c.in-Some-Refused.refusal c.refuse_at.ensures (search rules)
