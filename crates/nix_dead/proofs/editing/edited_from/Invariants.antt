use Rattle.std.specs.Prelude.{string_bytes}
use Rattle.nix_dead.specs.Editing.{IsReadWell, AreTurns}
use Rattle.nix_dead.proofs.editing.edited_from.Given as goal

-- what the text became so far
abbrev pub invariant-loop-count : goal.invariant-loop-count
invariant-loop-count l = IsReadWell l.text l.fn.read → AreTurns l.text l.options l.count (string_bytes l.made) l.own
