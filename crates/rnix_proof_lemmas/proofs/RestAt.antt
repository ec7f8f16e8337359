-- The rest of a row at a position.
use Rattle.std.proofs.Common.{false}
use Rattle.rnix_grammar.specs.{declared.position.Position.{Position}, Rules.{Row, never, done, ◌·◌}, declared.rules.Part.TheVariants.{Operand}}
use Rattle.rnix_proof_lemmas.specs.SlotRows.{remaining_at}
use Rattle.rnix_grammar.specs.declared.position.Position.TheVariants as p

-- the rest of the row at a position; after an operand there is none
abbrev pub rest_at : Position → Row
rest_at (p.InRow i) = remaining_at i
rest_at (p.AfterOperand min_bp max_bp) = never
rest_at (p.Right n) = Operand n false · done
