use Rattle.nix_values.proofs.AttributeInsertLemmas.{empty_sound, empty_finds}
use Rattle.nix_values.proofs.attributes.Attributes.new.Goals as goal

pub returns : goal.returns
returns c = λ keys. (
  empty_sound keys (record { slots = c.new.result; crowded = c.new-2.result }) c.new.ensures c.new-2.ensures,
  empty_finds keys (record { slots = c.new.result; crowded = c.new-2.result }) c.new.ensures c.new-2.ensures,
)
