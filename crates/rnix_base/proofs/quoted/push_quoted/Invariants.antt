use Rattle.std.proofs.Common.{◌≡◌, ◌++◌, codes, length, string_bytes}
use denote.Text.{Utf8}
use denote.Shadow.{shadow}
use Rattle.rnix_base.specs.Quoted.{inside_of}
use Rattle.rnix_base.proofs.quoted.push_quoted.Given as goal

-- what is written and what still comes
abbrev pub invariant-loop-rest : goal.invariant-loop-rest
invariant-loop-rest l =
    shadow (Utf8 l.rest) × (string_bytes l.text ++ inside_of l.rest ≡ (string_bytes l.fn.text ++ codes "\"") ++ inside_of l.value)

abbrev pub decreases-loop-rest : goal.decreases-loop-rest
decreases-loop-rest l = length l.rest
