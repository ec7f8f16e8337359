use Rattle.std.proofs.Common.{sym}
use Rattle.rnix_reader.proofs.reading.action_in_row.Goals as goal

pub returns-then-is_past : goal.returns-then-is_past
returns-then-is_past c = sym (c.is_past.ensures _ _ c.if-is_past.true)
