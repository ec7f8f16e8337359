use Rattle.std.proofs.Common.{List, take}
use Rattle.nix_lints.specs.Items.{Item, IsReported, AreAllWorded}
use Rattle.nix_lints.proofs.reported.Reported.diagnostics.Given as goal

-- the items so far in words, and the others are still there
abbrev pub invariant-loop-number : goal.invariant-loop-number
invariant-loop-number l =
    (items : List Item) → IsReported items l.initial.self → AreAllWorded (take l.number items) l.found.items × IsReported items l.self
