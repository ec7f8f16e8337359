use Rattle.std.proofs.Common.{◌≡◌, ◌++◌, codes, length, string_bytes}
use denote.Text.{Utf8}
use denote.Shadow.{shadow}
use Rattle.std.specs.List.{flat_map}
use Rattle.nix_values.specs.JsonEscapes.{escape}
use Rattle.nix_values.proofs.json_strings.push_json_string.Given as goal

-- what has been written, and what remains
abbrev pub invariant-loop-rest : goal.invariant-loop-rest
invariant-loop-rest l =
    shadow (Utf8 l.rest) × (string_bytes l.text ++ flat_map escape l.rest ≡ (string_bytes l.fn.text ++ codes "\"") ++ flat_map escape l.value)

abbrev pub decreases-loop-rest : goal.decreases-loop-rest
decreases-loop-rest l = length l.rest
