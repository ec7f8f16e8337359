use Rattle.std.{proofs.{Common.{arith}, lemmas.{Int.{ints}, List.{length-map}}}, specs.Prelude.{string_bytes}}
use Rattle.{rnix_base.specs.Normal.{owned, with_text}, rnix_c.proofs.WrittenParts.{length-parts_from}}
use Rattle.rnix_c.proofs.strings.write_parts.Goals as goal

pub returns : goal.returns
returns c = (omega (arith, ints, length-parts_from 0 (owned c.args.parts.now), length-map c.args.parts.now (with_text string_bytes)), c.fill.ensures)
