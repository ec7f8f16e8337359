-- The errors about unexpected items that begin before a byte, each up to there.
use Rattle.std.specs.Prelude.{ℕ, Bool, true, false, List, [], ◌∷◌, ◌++◌, nat_lt, nat_le, if◌then◌else◌}
use Rattle.rnix_green.specs.Range.{Extent}
use Rattle.rnix_grammar.specs.Fault.{Fault, extra, unwanted}

-- a range up to a byte
abbrev pub up_to : ℕ → Extent → Extent
up_to m a = record { start = a.start; end = if nat_le m a.end then m else a.end }

-- an error, if a test holds
abbrev pub error_if : Bool → Fault → List Fault
error_if true d = d ∷ []
error_if false d = []

-- an error about unexpected items that begins before a byte, up to there
abbrev pub error_before : ℕ → Fault → List Fault
error_before m (extra a) = error_if (nat_lt a.start m) (extra (up_to m a))
error_before m (unwanted kind a wanted) = error_if (nat_lt a.start m) (unwanted kind (up_to m a) wanted)
error_before m d = []

-- such errors, one by one
abbrev pub errors_before : ℕ → List Fault → List Fault
errors_before m [] = []
errors_before m (d ∷ ds) = error_before m d ++ errors_before m ds
