use Rattle.std.proofs.Common.{List, take}
use Rattle.nix_lints.specs.Items.{Item, IsReported}
use Rattle.nix_check.specs.{Listed.Prints, PrintedFindings.AreFormed}
use Rattle.nix_check.proofs.check.write_first.Given as goal

-- the items so far are printed, and the others are still there
abbrev pub invariant-loop-number : goal.invariant-loop-number
invariant-loop-number g l =
    (items : List Item) → IsReported items l.initial.reported →
    Prints (AreFormed l.style l.source.name.now l.source.text.now l.earlier (take l.number items)) (g.W.Write.contents l.initial.out)
    (g.W.Write.contents l.out)
    × IsReported items l.reported
