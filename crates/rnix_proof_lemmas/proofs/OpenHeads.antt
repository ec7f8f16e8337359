-- The heads of frames that are open rows.
use Rattle.std.proofs.Common.{Bool, true, false}
use Rattle.rnix_proof_lemmas.specs.Machine.{Head, Node, SecondBind, Operand}

-- an open node or second name
abbrev pub is_open : Head → Bool
is_open (Node k) = true
is_open SecondBind = true
is_open Operand = false
